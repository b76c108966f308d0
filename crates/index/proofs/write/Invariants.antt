-- At each turn `count` entries end at place `at` (`Placed`), and of a chart whose trees can be listed they are the first of the index, and the tree is the next (`Written`).
-- The buffer's places behind `at` get fewer.
use mathlib.Core.Path.{◌≡◌}
use Prim.Native.Nat.{◌-◌, ◌≤◌}
use lib.ListN.{get_elem?, length}
use Rattle.chart.specs.Chart.{list_in}
use Rattle.fill.proofs.Filling.{Placed}
use Rattle.fill.specs.Walkable.{Walkable}
use Rattle.moves.specs.Tree.{tree_of}
use Rattle.index.proofs.Entries.{Written}
use Rattle.index.proofs.write.Given as goal

abbrev pub invariant-loop-tree : goal.invariant-loop-tree
invariant-loop-tree l = Placed l.width l.initial.index l.index l.at l.count
    × (Walkable l.chart.words → tree_of l.width l.initial.tree ≡ get_elem? (list_in l.chart.words) 0 → 1 ≤ l.spacing → Written l.width l.spacing (list_in l.chart.words) l.initial.index l.index l.tree l.at l.count)

abbrev pub decreases-loop-tree : goal.decreases-loop-tree
decreases-loop-tree l = length l.initial.index - l.at

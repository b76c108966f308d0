-- At each turn so many entries are counted, and of a chart whose trees can be listed the entry is the next of them (`Counted`).
use mathlib.Core.Path.{◌≡◌}
use Prim.Native.Nat.{◌≤◌}
use lib.ListN.{get_elem?}
use Rattle.chart.specs.Chart.{list_in, width_in}
use Rattle.fill.specs.Walkable.{Walkable}
use Rattle.moves.specs.Tree.{tree_of}
use Rattle.index.proofs.Entries.{Counted}
use Rattle.index.proofs.fits.Given as goal

abbrev pub invariant-loop : goal.invariant-loop
invariant-loop l =
    Walkable l.chart.words → tree_of (width_in l.chart.words) l.initial.entry ≡ get_elem? (list_in l.chart.words) 0 → 1 ≤ l.spacing → Counted (width_in l.chart.words) l.spacing (list_in l.chart.words) l.entry l.counter

-- The loop's invariant: the rows so far and what the rows from place i on give are all rows that are in.
use mathlib.Core.Path.{◌≡◌}
use mathlib.Core.List.{◌++◌}
use Prim.Native.Nat.{◌-◌, ◌<◌, ◌≤◌, ℕ}
use lib.ListN.{drop, length}
use Rattle.lists.proofs.Members.{◌∈◌}
use Rattle.chosen.specs.Chosen.{rows_of}
use Rattle.paths.specs.Path.{rows_in}
use Rattle.branch.specs.Branch.{standing_of}
use Rattle.branch.proofs.standing.Given as goal

abbrev pub invariant-loop-i : goal.invariant-loop-i
invariant-loop-i l = (length (rows_of l.rows) ≤ l.i)
    × (((r : ℕ) → r ∈ rows_in l.path → r < 256) → standing_of l.heads l.len (rows_in l.path) ≡ rows_of l.rows ++ standing_of l.heads (l.len - l.i) (drop l.i (rows_in l.path)))

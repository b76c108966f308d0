-- The loop's invariant: the table holds the entries of the nodes from place i on.
use Prim.Native.Nat.{◌≤◌}
use Rattle.paths.specs.Path.{entered_by, keys_of, plant_of}
use Rattle.branch.proofs.Laws.{Entered}
use Rattle.branch.proofs.entries_of.Given as goal

abbrev pub invariant-loop-i : goal.invariant-loop-i
invariant-loop-i l = (l.i ≤ 32) × Entered (entered_by (plant_of l.path) (keys_of l.path)) l.entries l.i

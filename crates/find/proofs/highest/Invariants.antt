-- The loop's invariant: the best so far is one of the rows, if there are any.
use Prim.Native.Nat.{◌<◌}
use lib.ListN.{length}
use Rattle.lists.proofs.Members.{◌∈◌}
use Rattle.chosen.specs.Chosen.{rows_of}
use Rattle.find.proofs.highest.Given as goal

abbrev pub invariant-loop-row : goal.invariant-loop-row
invariant-loop-row g l = 0 < length (rows_of l.fn.rows) → l.best ∈ rows_of l.fn.rows

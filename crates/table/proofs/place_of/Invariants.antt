-- The loop's invariant: the place is i and how many of the rows from row i on stand before the vector.
use mathlib.Core.Path.{◌≡◌}
use Prim.Native.Nat.{◌+◌}
use lib.ListN.{length}
use Rattle.costs.specs.Costs.{vector_less}
use Rattle.table.specs.Parts.{before, place_in}
use Rattle.compare.proofs.Rows.{rest}
use Rattle.table.proofs.place_of.Given as goal

abbrev pub invariant-loop-i : goal.invariant-loop-i
invariant-loop-i l = place_in l.costs l.count l.vector ≡ l.i + before (λ u. vector_less u l.vector) (rest (length l.vector) l.costs l.count l.i)

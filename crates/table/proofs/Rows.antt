-- The place of a vector among the rows of a table, read one after the other: what is left of the search at row i.
use mathlib.Core.Path.{◌≡◌}
use mathlib.Core.Bool.{Bool, false, true}
use mathlib.Core.List.{List}
use Prim.Native.Nat.{◌+◌, ◌<◌, ◌≤◌, ℕ}
use native.Mathlib.Omega.{arith}
use Rattle.compare.proofs.Rows.{rest, rest_end, rest_more, row_at}
use Rattle.table.specs.Parts.{before}

module _ (k : ℕ) (t : List ℕ) (count : ℕ) (p : List ℕ → Bool) (i : ℕ) where
  pub before_more : i < count → p (row_at k t i) ≡ true → i + before p (rest k t count i) ≡ i + 1 + before p (rest k t count (i + 1))
  unfolding before
  before_more h e = rw (rest_more k t count i h, e) (omega arith)

  pub before_stop : i < count → p (row_at k t i) ≡ false → i + before p (rest k t count i) ≡ i
  unfolding before
  before_stop h e = rw (rest_more k t count i h, e) (omega arith)

  pub before_end : count ≤ i → i + before p (rest k t count i) ≡ i
  unfolding before
  before_end h = rw (rest_end k t count i h) (omega arith)

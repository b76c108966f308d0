-- Rows of k places each in a table, read one after the other: what is left of a search at row i.
use mathlib.Core.Path.{◌≡◌}
use mathlib.Core.List.{List, [], ◌∷◌}
use Prim.Native.Nat.{◌*◌, ◌+◌, ◌-◌, ◌<◌, ◌≤◌, suc, ℕ}
use native.Mathlib.Nat.{add-sub_cancel_left, mul-le-mul_right, sub-zero, suc-mul, zero-mul}
use native.Mathlib.Numerals.{add-one}
use native.Mathlib.Omega.{arith}
use lib.ListN.{drop, take}
use lib.Seq.{drop-drop}
use Rattle.pages.specs.Pages.{pieces}

-- row i of n rows ends within the table
pub row_ends : (i n k len : ℕ) → i < n → n * k ≤ len → i * k + k ≤ len
row_ends i n k len h fits = omega (arith, mul-le-mul_right k h, suc-mul i k)

-- row i as a part of the table
abbrev pub row_at : ℕ → List ℕ → ℕ → List ℕ
row_at k t i = take (i * k + k - i * k) (drop (i * k) t)

module _ (k : ℕ) (t : List ℕ) (count : ℕ) where
  -- the rows from row i on
  unfoldable pub rest : ℕ → List (List ℕ)
  rest i = pieces k (count - i) (drop (i * k) t)

  pub rest_start : pieces k count t ≡ rest 0
  unfolding rest
  rest_start = rw (sub-zero, zero-mul)

  pub rest_more : (i : ℕ) → i < count → rest i ≡ row_at k t i ∷ rest (i + 1)
  unfolding rest pieces
  rest_more i h =
      let e : count - i ≡ suc (count - (i + 1)) = omega arith in
      rw (e, add-sub_cancel_left, drop-drop, add-one, suc-mul)

  pub rest_end : (i : ℕ) → count ≤ i → rest i ≡ []
  unfolding rest pieces
  rest_end i h =
      let e : count - i ≡ 0 = omega arith in
      rw e

-- A weight stored is `put` (`matrix_set`), and `add_to` by its test, as the code makes it (`kept_first`, `kept_second`, `here`), among enough weights (`few_kept`,
-- `many_added`), and what it leaves: the links with one added (`added`).
use mathlib.Core.Path.{◌∙◌, ◌≡◌, ap, sym}
use mathlib.Core.Logic.{inl, inr}
use mathlib.Core.List.{List}
use Prim.Native.Nat.{◌*◌, ◌+◌, ◌<◌, ◌≤◌, ℕ}
use native.Mathlib.Decide.{ℕ_discrete}
use native.Mathlib.Omega.{arith}
use lib.Dec.{ltb, ltb→lt}
use lib.ListN.{get_or-replicate, length, replicate, set}
use lib.Seq.{get_or-set_other, get_or-set_same}
use borrow.Author.Tests.{le-leb, le-ltb, lt-leb, lt-ltb}
use Rattle.lists.proofs.Tests.{T_false, T_true, decide, not_ltb→le}
use Rattle.counts.specs.Counting as counting
use Rattle.counts.specs.Counting.{beside}
use Rattle.counts.specs.Matrix.{Agree, add_held, held, limit, put}
use Rattle.counts.specs.States.{empty}
use Rattle.counts.proofs.Matrix.{put_column, put_row, put_same}
use Rattle.weights.specs.Weights.{add_to, added_to, matrix_in, place_of_pair, weight_at, weight_in}
use Rattle.weights.specs.declared.Weight.{Weight}

-- A STORE
row_of : (a b i j : ℕ) → b < 32 → j < 32 → i * 32 + j ≡ a * 32 + b → i ≡ a
row_of a b i j l m e = omega arith

pub matrix_set : (ws : List Weight) (a b : ℕ) (p : Weight) (i j : ℕ) → a * 32 + b < length ws → b < 32 → j < 32
    → matrix_in (set ws (a * 32 + b) p) i j ≡ put (matrix_in ws) a b (weight_in p) i j
matrix_set ws a b p i j l h k = elim (ℕ_discrete i a) [
  | no n ↦ ap weight_in (get_or-set_other ws (a * 32 + b) (i * 32 + j) p _ (λ e. n (row_of a b i j h k e))) ∙ sym (put_row (matrix_in ws) a b (weight_in p) i j n)
  | yes e ↦ elim (ℕ_discrete j b) [
    | no n ↦ ap weight_in (get_or-set_other ws (a * 32 + b) (i * 32 + j) p _ (λ q. n (omega arith))) ∙ sym (put_column (matrix_in ws) a b (weight_in p) i j n)
    | yes q ↦ rw (e, q) (ap weight_in (get_or-set_same ws (a * 32 + b) p _ l) ∙ sym (put_same (matrix_in ws) a b (weight_in p)))
  ]
]

pub nothing : (n : ℕ) → n ≡ 1024 → Agree (matrix_in (replicate n (record { dropped = 1; merged = 0 }))) empty 32
nothing n e i j l h = ap weight_in (get_or-replicate {A = Weight} n _ (record { dropped = 1; merged = 0 }) (record { dropped = 0; merged = 0 }) (omega arith))

module _ (ws : List Weight) (x y : ℕ) (p : counting.Weight) where
  pub kept_first : 32 ≤ x → ws ≡ add_to ws x y p
  unfolding add_to
  kept_first i = simp (le-ltb x 32 i)

  pub kept_second : x < 32 → 32 ≤ y → ws ≡ add_to ws x y p
  unfolding add_to
  kept_second i j = simp (lt-ltb x 32 i, le-ltb y 32 j)

  pub here : (at : ℕ) (q : Weight) → x < 32 → y < 32 → at ≡ place_of_pair x y
      → weight_in q ≡ held limit (beside (weight_in (weight_at ws at)) p) → set ws at q ≡ add_to ws x y p
  unfolding add_to
  here at q i j o e = ap (λ (u : counting.Weight). set ws at (record { dropped = u.dropped; merged = u.merged })) e ∙ simp (lt-ltb x 32 i, lt-ltb y 32 j, o)

-- among fewer than 1,024 weights nothing is added, among as many or more a link is
module _ (ws : List Weight) (x y : ℕ) (p : counting.Weight) where
  pub few_kept : length ws < 1024 → ws ≡ added_to ws x y p
  unfolding added_to
  few_kept few = simp (lt-leb 1024 (length ws) few)

  pub many_added : 1024 ≤ length ws → add_to ws x y p ≡ added_to ws x y p
  unfolding added_to
  many_added many = simp (le-leb 1024 (length ws) many)

module _ (ws : List Weight) (long : 1024 ≤ length ws) where
  -- the link's row and column are known
  store : (high low : ℕ) (p : counting.Weight) → low < high → high < 32
      → let q = held limit (beside (matrix_in ws high low) p) in
      Agree (matrix_in (set ws (high * 32 + low) (record { dropped = q.dropped; merged = q.merged }))) (put (matrix_in ws) high low q) 32
  store high low p l h i j k n = matrix_set ws high low _ i j (omega arith) (omega arith) (omega arith)

  pub added : (x y : ℕ) (p : counting.Weight) (us : List Weight) → x < 32 → y < 32 → ¬ (x ≡ y) → us ≡ add_to ws x y p
      → Agree (matrix_in us) (add_held limit (matrix_in ws) x y p) 32
  unfolding add_to
  added x y p us i j n e = rw (e, lt-ltb x 32 i, lt-ltb y 32 j) (elim (decide (ltb x y)) [
    | inl t ↦ rw ((T_true (ltb x y)).0 t) (store y x p (ltb→lt x y t) j)
    | inr t ↦ rw ((T_false (ltb x y)).0 t) (store x y p (omega (arith, not_ltb→le x y t)) i)
  ])

-- The first row of a street: it is in the street (`lead_street`), it is one for all rows of a named street (`lead_same`), and a row of street 0 is its own
-- (`lead_own`). Assumes nothing.
use mathlib.Core.Path.{◌∙◌, ◌≡◌, ap, refl, subst, sym}
use mathlib.Core.Bool.{Bool}
use mathlib.Core.List.{List}
use Prim.Native.Nat.{◌+◌, ◌<◌, ◌≤◌, suc, zero, ℕ}
use native.Mathlib.Decide.{dec_lt, ℕ_discrete}
use native.Mathlib.Omega.{arith}
use lib.Dec.{T, eqb, eqb→eq}
use borrow.Author.Tests.{eq-eqb, ne_eqb}
use Rattle.lists.proofs.Tests.{eq→eqb, pick_elim}
use Rattle.costing.specs.Costing.{first_from, in_street_of, lead_at, street_in}

-- The first number that passes

module _ (test : ℕ → Bool) where
  -- it passes, if the number behind all of them does
  first_passes : (s k r : ℕ) → s + k ≡ r → T (test r) → T (test (first_from test s k))
  unfolding first_from
  first_passes s zero r e t = let same : r ≡ s = omega arith in subst (λ (x : ℕ). T (test x)) same t
  first_passes s (suc k) r e t = pick_elim (λ (x : ℕ). T (test x)) (test s) (λ u. u) (λ n. first_passes (suc s) k r (omega arith) t)

  -- none before it passes
  first_least : (s k q : ℕ) → s ≤ q → q < first_from test s k → ¬ T (test q)
  unfolding first_from
  first_least s zero q h l t = omega arith
  first_least s (suc k) q h l t = pick_elim (λ (x : ℕ). ¬ (q < x)) (test s) (λ u b. omega arith) (λ n b. elim (ℕ_discrete q s) [
    | yes e ↦ n (subst (λ (x : ℕ). T (test x)) e t)
    | no d ↦ first_least (suc s) k q (omega arith) b t
  ]) l

  -- so it is one, whatever number that passes the search ends at
  first_same : (k m : ℕ) → T (test k) → T (test m) → first_from test 0 k ≡ first_from test 0 m
  first_same k m t u =
      let x = first_from test 0 k in
      let y = first_from test 0 m in
      let xs : T (test x) = first_passes 0 k k (omega arith) t in
      let ys : T (test y) = first_passes 0 m m (omega arith) u in
      elim (dec_lt x y) [
        | yes h ↦ absurd (first_least 0 m x (omega arith) h xs)
        | no h ↦ elim (dec_lt y x) [ yes g ↦ absurd (first_least 0 k y (omega arith) g ys) | no g ↦ omega arith ]
      ]

module _ (f : List ℕ) where
  here : (r : ℕ) → T (in_street_of f r r)
  here r = eq→eqb (street_in f r) (street_in f r) refl

  pub lead_own : (r : ℕ) → street_in f r ≡ 0 → lead_at f r ≡ r
  unfolding lead_at
  lead_own r e = rw (eq-eqb (street_in f r) 0 e)

  pub lead_first : (r : ℕ) → ¬ (street_in f r ≡ 0) → lead_at f r ≡ first_from (in_street_of f r) 0 r
  unfolding lead_at
  lead_first r n = rw (ne_eqb (street_in f r) 0 n)

  pub lead_street : (r : ℕ) → street_in f (lead_at f r) ≡ street_in f r
  unfolding lead_at
  lead_street r = pick_elim (λ (x : ℕ). street_in f x ≡ street_in f r) (eqb (street_in f r) 0) (λ t. refl)
      (λ n. eqb→eq _ _ (first_passes (in_street_of f r) 0 r r (omega arith) (here r)))

  pub lead_same : (r s : ℕ) → ¬ (street_in f r ≡ 0) → street_in f s ≡ street_in f r → lead_at f s ≡ lead_at f r
  lead_same r s n e =
      lead_first s (λ z. n (sym e ∙ z))
      ∙ ap (λ (x : ℕ). first_from (λ (q : ℕ). eqb (street_in f q) x) 0 s) e
      ∙ first_same (in_street_of f r) s r (eq→eqb (street_in f s) (street_in f r) e) (here r)
      ∙ sym (lead_first r n)

-- Interval costs: the weight of each row r is not known but lies from lo r to hi r (`Within`), as at the extremes with row e at one end and the others at the
-- other (`within_low`, `within_high`).
use mathlib.Core.Path.{◌≡◌, refl}
use Prim.Native.Nat.{◌≤◌, ℕ}
use native.Mathlib.Decide.{ℕ_discrete}
use native.Mathlib.Omega.{arith}
use lib.Dec.{eqb, eqb→eq}
use Rattle.lists.proofs.Tests.{T_false, T_true, eq→eqb}
use Rattle.forests.specs.Forests.{extreme}

pub extreme_at : (p q : ℕ → ℕ) (e : ℕ) → extreme p q e e ≡ p e
extreme_at p q e = rw ((T_true (eqb e e)).0 (eq→eqb e e refl))

pub extreme_else : (p q : ℕ → ℕ) (e r : ℕ) → ¬ (r ≡ e) → extreme p q e r ≡ q r
extreme_else p q e r n = rw ((T_false (eqb r e)).0 (λ t. n (eqb→eq r e t)))

-- weights in the intervals
abbrev pub Within : (ℕ → ℕ) → (ℕ → ℕ) → (ℕ → ℕ) → Type 0
Within lo hi w = (r : ℕ) → (lo r ≤ w r) × (w r ≤ hi r)

module _ (lo hi : ℕ → ℕ) (order : (r : ℕ) → lo r ≤ hi r) (e : ℕ) where
  -- e at its least and the others at their most, and the other way round
  pub within_low : Within lo hi (extreme lo hi e)
  within_low r = elim (ℕ_discrete r e) [
    | yes d ↦ rw d (omega (arith, extreme_at lo hi e, order e))
    | no n ↦ omega (arith, extreme_else lo hi e r n, order r)
  ]

  pub within_high : Within lo hi (extreme hi lo e)
  within_high r = elim (ℕ_discrete r e) [
    | yes d ↦ rw d (omega (arith, extreme_at hi lo e, order e))
    | no n ↦ omega (arith, extreme_else hi lo e r n, order r)
  ]

-- The first byte of a kind, and what stands before and behind it; bytes that begin with others.
use mathlib.Core.Path.{◌∙◌, ◌≡◌, ap, refl, sym}
use mathlib.Core.Bool.{Bool, ◌&&◌, false, true}
use mathlib.Core.List.{List, [], ◌∷◌}
use Prim.Native.Nat.{◌+◌, ◌<◌, ◌≤◌, suc, zero, ℕ}
use native.Mathlib.Decide.{ℕ_discrete}
use native.Mathlib.Numerals.{add-one}
use native.Mathlib.Omega.{arith}
use lib.Dec.{eqb}
use lib.ListN.{drop, get_or, length, take}
use lib.Pointwise.{pointwise}
use Rattle.std.specs.Prelude.{nat_eq}
use borrow.Author.Tests.{eq-eqb, ne_eqb}
use Rattle.lists.specs.Lists.{any, member}
use Rattle.edge_lines.specs.Reading.{before, behind, starts}

module _ (s : ℕ) where
  before_here : (b : ℕ) (l : List ℕ) → b ≡ s → (before s (b ∷ l) ≡ []) × (behind s (b ∷ l) ≡ l) × (member s (b ∷ l) ≡ true)
  unfolding before behind member any
  before_here b l e = (rw (eq-eqb b s e), rw (eq-eqb b s e), rw (eq-eqb s b (sym e)))

  before_there : (b : ℕ) (l : List ℕ) → ¬ (b ≡ s) → (before s (b ∷ l) ≡ b ∷ before s l) × (behind s (b ∷ l) ≡ behind s l) × (member s (b ∷ l) ≡ member s l)
  unfolding before behind member any
  before_there b l n = (rw (ne_eqb b s n), rw (ne_eqb b s n), rw (ne_eqb s b (λ e. n (sym e))))

  -- the parts by the place
  pub before_take : (l : List ℕ) → before s l ≡ take (length (before s l)) l
  unfolding before
  before_take [] = refl
  before_take (b ∷ l) = elim (ℕ_discrete b s) [
    | yes e ↦ rw (before_here b l e).0
    | no n ↦ rw (before_there b l n).0 (ap (λ (x : List ℕ). b ∷ x) (before_take l))
  ]

  pub behind_drop : (l : List ℕ) → behind s l ≡ drop (length (before s l) + 1) l
  unfolding before behind
  behind_drop [] = refl
  behind_drop (b ∷ l) = elim (ℕ_discrete b s) [
    | yes e ↦ (before_here b l e).1 ∙ sym (ap (λ (x : List ℕ). drop (length x + 1) (b ∷ l)) (before_here b l e).0)
    | no n ↦ (before_there b l n).1 ∙ behind_drop l ∙ further (length (before s l)) ∙ sym (ap (λ (x : List ℕ). drop (length x + 1) (b ∷ l)) (before_there b l n).0)
  ]
    where
      further : (n : ℕ) → drop (n + 1) l ≡ drop (suc n + 1) (b ∷ l)
      further n = rw (add-one n, add-one (suc n))

  pub member_place : (l : List ℕ) → length (before s l) < length l → member s l ≡ true
  unfolding before
  member_place [] h = absurd (omega arith)
  member_place (b ∷ l) h = elim (ℕ_discrete b s) [
    | yes e ↦ (before_here b l e).2
    | no n ↦ (before_there b l n).2 ∙ member_place l (omega (arith, ap length (before_there b l n).0))
  ]

  pub member_none : (l : List ℕ) → length l ≤ length (before s l) → member s l ≡ false
  unfolding before member any
  member_none [] h = refl
  member_none (b ∷ l) h = elim (ℕ_discrete b s) [
    | yes e ↦ absurd (omega (arith, ap length (before_here b l e).0))
    | no n ↦ (before_there b l n).2 ∙ member_none l (omega (arith, ap length (before_there b l n).0))
  ]

  -- the first place of the kind, and that there is none
  pub place_first : (l : List ℕ) {i : ℕ} → i < length l → get_or l i 0 ≡ s → ((k : ℕ) → k < i → ¬ (get_or l k 0 ≡ s)) → i ≡ length (before s l)
  unfolding before
  place_first [] h e n = absurd (omega arith)
  place_first (b ∷ l) {i = zero} h e n = sym (ap length (before_here b l e).0)
  place_first (b ∷ l) {i = suc i} h e n = ap suc (place_first l (omega arith) e (λ k m. n (suc k) (omega arith))) ∙ sym (ap length (before_there b l (n 0 (omega arith))).0)

  pub place_none : (l : List ℕ) → ((k : ℕ) → k < length l → ¬ (get_or l k 0 ≡ s)) → length l ≤ length (before s l)
  unfolding before
  place_none [] n = omega arith
  place_none (b ∷ l) n =
      let rest = place_none l (λ k m. n (suc k) (omega arith)) in
      omega (arith, ap length (before_there b l (n 0 (omega arith))).0)

-- bytes that begin with others, as the library tests it
pub starts_same : (xs l : List ℕ) → pointwise nat_eq (take (length xs) l) xs ≡ starts xs l
unfolding starts
starts_same [] l = refl
starts_same (x ∷ xs) [] = refl
starts_same (x ∷ xs) (b ∷ l) = ap {B = Bool} (λ t. eqb b x && t) (starts_same xs l)

-- Labels of nodes, and their merging: `unite lab a b` is the finest labelling that is coarser than lab and joins a and b (`unite_least`).
use mathlib.Core.Path.{◌∙◌, ◌≡◌, ap, refl, sym}
use mathlib.Core.Logic.{◌⊎◌, inl, inr}
use Prim.Native.Nat.{ℕ}
use native.Mathlib.Decide.{ℕ_discrete}
use Rattle.forests.specs.Forests.{rename}
use Rattle.forests.proofs.Contraction.{rename_other, rename_this}
use Rattle.counts.specs.Trees.{unite}

-- what has one label has one label in the coarser labelling
abbrev pub Coarser : (ℕ → ℕ) → (ℕ → ℕ) → Type 0
Coarser lab bal = (u v : ℕ) → lab u ≡ lab v → bal u ≡ bal v

abbrev pub United : (ℕ → ℕ) → ℕ → ℕ → ℕ → ℕ → Type 0
United lab a b u v = (lab u ≡ lab v) ⊎ (((lab u ≡ lab a) × (lab v ≡ lab b)) ⊎ ((lab u ≡ lab b) × (lab v ≡ lab a)))

module _ (lab : ℕ → ℕ) (a b : ℕ) where
  unite_this : (v : ℕ) → lab v ≡ lab b → unite lab a b v ≡ lab a
  unite_this v e = rename_this (lab a) (lab b) (lab v) e

  unite_other : (v : ℕ) → ¬ (lab v ≡ lab b) → unite lab a b v ≡ lab v
  unite_other v n = rename_other (lab a) (lab b) (lab v) n

  pub unite_coarser : Coarser lab (unite lab a b)
  unite_coarser u v e = ap (λ (x : ℕ). rename (lab a) (lab b) x) e

  pub unite_joins : unite lab a b a ≡ unite lab a b b
  unite_joins = elim (ℕ_discrete (lab a) (lab b)) [
    | yes e ↦ unite_coarser a b e
    | no n ↦ unite_other a n ∙ sym (unite_this b refl)
  ]

  -- nodes that the merging joins: they were joined, or stood beside its ends
  pub unite_out : (u v : ℕ) → unite lab a b u ≡ unite lab a b v → United lab a b u v
  unite_out u v e = elim (ℕ_discrete (lab u) (lab b)) [
    | yes p ↦ elim (ℕ_discrete (lab v) (lab b)) [
      | yes q ↦ inl (p ∙ sym q)
      | no q ↦ inr (inr (p, sym (sym (unite_this u p) ∙ e ∙ unite_other v q)))
    ]
    | no p ↦ elim (ℕ_discrete (lab v) (lab b)) [
      | yes q ↦ inr (inl (sym (unite_other u p) ∙ e ∙ unite_this v q, q))
      | no q ↦ inl (sym (unite_other u p) ∙ e ∙ unite_other v q)
    ]
  ]

  pub unite_in : (u v : ℕ) → United lab a b u v → unite lab a b u ≡ unite lab a b v
  unite_in u v (inl p) = unite_coarser u v p
  unite_in u v (inr (inl (p, q))) = unite_coarser u a p ∙ unite_joins ∙ sym (unite_coarser v b q)
  unite_in u v (inr (inr (p, q))) = unite_coarser u b p ∙ sym unite_joins ∙ sym (unite_coarser v a q)

  -- LEAST
  pub unite_least : (bal : ℕ → ℕ) → Coarser lab bal → bal a ≡ bal b → Coarser (unite lab a b) bal
  unite_least bal c j u v e = elim (unite_out u v e) [
    | inl p ↦ c u v p
    | inr s ↦ elim s [
      | inl (p, q) ↦ c u a p ∙ j ∙ sym (c v b q)
      | inr (p, q) ↦ c u b p ∙ sym j ∙ sym (c v a q)
    ]
  ]

-- two mergings may be done in either order
pub unite_swap : (lab : ℕ → ℕ) (a b c d : ℕ) → Coarser (unite (unite lab a b) c d) (unite (unite lab c d) a b)
unite_swap lab a b c d = unite_least (unite lab a b) c d (unite (unite lab c d) a b)
    (unite_least lab a b (unite (unite lab c d) a b) up (unite_joins (unite lab c d) a b))
    (unite_coarser (unite lab c d) a b c d (unite_joins lab c d))
  where
    up : Coarser lab (unite (unite lab c d) a b)
    up u v e = unite_coarser (unite lab c d) a b u v (unite_coarser lab c d u v e)

-- where merging a and b makes c and d a loop that it was not, merging c and d makes a and b one
pub unite_exchange : (lab : ℕ → ℕ) (a b c d : ℕ) → unite lab a b c ≡ unite lab a b d → ¬ (lab c ≡ lab d) → unite lab c d a ≡ unite lab c d b
unite_exchange lab a b c d e n = elim (unite_out lab a b c d e) [
  | inl p ↦ absurd (n p)
  | inr s ↦ elim s [
    | inl (p, q) ↦ unite_coarser lab c d a c (sym p) ∙ unite_joins lab c d ∙ unite_coarser lab c d d b q
    | inr (p, q) ↦ unite_coarser lab c d a d (sym q) ∙ sym (unite_joins lab c d) ∙ unite_coarser lab c d c b p
  ]
]

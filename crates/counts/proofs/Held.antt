-- Counts held at a limit: numbers are near if they are equal or both at the limit or above. Sums and products of near numbers are near, so the count over
-- weights that are held at the limit is near the count itself (`total_near`), and what is held at the limit is the same (`near_min`).
use mathlib.Core.Path.{◌≡◌, refl}
use mathlib.Core.Logic.{◌⊎◌, inl, inr}
use mathlib.Core.Bool.{Bool, false, true}
use mathlib.Core.List.{List, [], ◌++◌, ◌∷◌}
use Prim.Native.Nat.{◌*◌, ◌+◌, ◌<◌, ◌≤◌, min, suc, zero, ℕ}
use native.Mathlib.Decide.{dec_le}
use native.Mathlib.Nat.{mul-le-mul}
use native.Mathlib.Omega.{arith}
use lib.Dec.{eqb}
use Rattle.lists.specs.Lists.{pick, range}
use Rattle.counts.specs.Counting.{Link, Weight, beside, count, link, weigh}
use Rattle.counts.specs.Trees.{unite}
use Rattle.counts.specs.Matrix.{Matrix, links, star, total}

module _ (L : ℕ) where
  abbrev pub Near : ℕ → ℕ → Type 0
  Near x y = (x ≡ y) ⊎ ((L ≤ x) × (L ≤ y))

  pub near_refl : (x : ℕ) → Near x x
  near_refl x = inl refl

  pub near_trans : (x y z : ℕ) → Near x y → Near y z → Near x z
  near_trans x y z (inl e) (inl f) = inl (omega arith)
  near_trans x y z (inl e) (inr (a, b)) = inr (omega arith, b)
  near_trans x y z (inr (a, b)) (inl f) = inr (a, omega arith)
  near_trans x y z (inr (a, b)) (inr (c, d)) = inr (a, d)

  -- what is held at the limit
  pub near_held : (x : ℕ) → Near (min L x) x
  near_held x = elim (dec_le L x) [ yes h ↦ inr (omega arith, h) | no n ↦ inl (omega arith) ]

  pub near_min : (x y : ℕ) → Near x y → min L x ≡ min L y
  near_min x y (inl e) = omega arith
  near_min x y (inr (a, b)) = omega arith

  pub near_add : (a b c d : ℕ) → Near a b → Near c d → Near (a + c) (b + d)
  near_add a b c d (inl e) (inl f) = inl (omega arith)
  near_add a b c d (inl e) (inr (f, h)) = inr (omega arith, omega arith)
  near_add a b c d (inr (e, k)) (inl f) = inr (omega arith, omega arith)
  near_add a b c d (inr (e, k)) (inr (f, h)) = inr (omega arith, omega arith)

  large : (a c : ℕ) → L ≤ a → 1 ≤ c → L ≤ a * c
  large a c h k = omega (arith, mul-le-mul {n₁ = L} {m₁ = 1} {n₂ = a} {m₂ = c} h k)

  mul_right : (a b c : ℕ) → Near a b → Near (a * c) (b * c)
  mul_right a b c (inl e) = inl (rw e refl)
  mul_right a b zero (inr (h, k)) = inl (omega arith)
  mul_right a b (suc c) (inr (h, k)) = inr (large a (suc c) h (omega arith), large b (suc c) k (omega arith))

  swapped : (a b c d : ℕ) → Near (a * c) (b * d) → Near (c * a) (d * b)
  swapped a b c d (inl e) = inl (omega arith)
  swapped a b c d (inr (h, k)) = inr (omega arith, omega arith)

  pub near_mul : (a b c d : ℕ) → Near a b → Near c d → Near (a * c) (b * d)
  near_mul a b c d p q = near_trans (a * c) (b * c) (b * d) (mul_right a b c p) (swapped c d b b (mul_right c d b q))

  -- Weights

  pub record NearWeight (p q : Weight) : Type 0 where
    pub dropped : Near p.dropped q.dropped
    pub merged : Near p.merged q.merged

  pub near_weight : (p : Weight) → NearWeight p p
  near_weight p = record { dropped = inl refl; merged = inl refl }

  pub held_weight : (p : Weight) → NearWeight (weigh (min L p.dropped) (min L p.merged)) p
  held_weight p = record { dropped = near_held p.dropped; merged = near_held p.merged }

  pub near_beside : (p q s t : Weight) → NearWeight p q → NearWeight s t → NearWeight (beside p s) (beside q t)
  near_beside p q s t h k = record {
    dropped = near_mul _ _ _ _ h.dropped k.dropped;
    merged = near_add _ _ _ _ (near_mul _ _ _ _ h.dropped k.merged) (near_mul _ _ _ _ h.merged k.dropped);
  }

  -- the same links with near weights
  pub data NearLinks : List Link → List Link → Type 0 where
    none : NearLinks [] []
    more : {a b : ℕ} {p q : Weight} {es fs : List Link} → NearWeight p q → NearLinks es fs → NearLinks (link a b p ∷ es) (link a b q ∷ fs)

  near_append : {l m es fs : List Link} → NearLinks es fs → NearLinks l m → NearLinks (es ++ l) (fs ++ m)
  near_append none k = k
  near_append (more h n) k = more h (near_append n k)

  pub count_near : (ns : List ℕ) {es fs : List Link} → NearLinks es fs → (lab : ℕ → ℕ) → Near (count ns lab es) (count ns lab fs)
  unfolding count
  count_near ns none lab = inl refl
  count_near ns (more {a} {b} {p} {q} h n) lab = near_add _ _ _ _ (near_mul _ _ _ _ h.dropped (count_near ns n lab))
      (near_mul _ _ _ _ h.merged (near_pick (eqb (lab a) (lab b)) _ _ (count_near ns n (unite lab a b))))
    where
      near_pick : (t : Bool) (x y : ℕ) → Near x y → Near (pick t 0 x) (pick t 0 y)
      near_pick true x y h = inl refl
      near_pick false x y h = h

  -- Matrices

  abbrev pub NearMatrix : Matrix → Matrix → ℕ → Type 0
  NearMatrix w z k = (a b : ℕ) → b < a → a < k → NearWeight (w a b) (z a b)

  star_near : (w z : Matrix) (v j n : ℕ) → ((i : ℕ) → j ≤ i → i < j + n → NearWeight (w v i) (z v i)) → NearLinks (star w v j n) (star z v j n)
  unfolding star
  star_near w z v j zero h = none
  star_near w z v j (suc n) h = more (h j (omega arith) (omega arith)) (star_near w z v (suc j) n (λ i a b. h i (omega arith) (omega arith)))

  links_near : (w z : Matrix) (k : ℕ) → NearMatrix w z k → NearLinks (links w k) (links z k)
  unfolding links
  links_near w z zero h = none
  links_near w z (suc v) h = near_append (star_near w z v 0 v (λ i a b. h v i (omega arith) (omega arith)))
      (links_near w z v (λ a b i j. h a b i (omega arith)))

  pub total_near : (w z : Matrix) (k : ℕ) → NearMatrix w z k → Near (total w k) (total z k)
  unfolding total
  total_near w z k h = count_near (range 0 k) (links_near w z k h) (λ v. v)

  -- HELD: what a call answers, from what was counted so far, a factor and the weights, each of them near
  pub held_near : (a b f g : ℕ) (w z : Matrix) (k : ℕ) → Near a b → Near f g → NearMatrix w z k → min L (a + f * total w k) ≡ min L (b + g * total z k)
  held_near a b f g w z k p q h = near_min _ _ (near_add _ _ _ _ p (near_mul _ _ _ _ q (total_near w z k h)))

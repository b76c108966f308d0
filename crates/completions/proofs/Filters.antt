-- Weights MIXED by factors: what each criterion costs at least, all of them cost at least (`mix_below`); and a vector's components times the factors, as
-- such a sum (`dot_total`).
use mathlib.Core.Path.{◌∙◌, ◌≡◌, ap, refl}
use mathlib.Core.List.{List, [], ◌∷◌}
use Prim.Native.Nat.{◌*◌, ◌+◌, ◌≤◌, suc, ℕ}
use native.Mathlib.Nat.{add-mul, mul-le-mul_right}
use native.Mathlib.Omega.{arith}
use lib.ListN.{get_or, length}
use Rattle.lists.specs.Lists.{sum}
use Rattle.forests.specs.Forests.{weight}
use Rattle.completions.specs.Boxes.{dot, mix, total}

weight_mix : (v : ℕ → ℕ → ℕ) (a : ℕ) (factors : List ℕ) (c : ℕ) (ls : List ℕ) → weight (mix v (a ∷ factors) c) ls ≡ weight (v c) ls * a + weight (mix v factors (suc c)) ls
unfolding mix sum
weight_mix v a factors c [] = omega arith
weight_mix v a factors c (r ∷ ls) = omega (arith, weight_mix v a factors c ls, add-mul (v c r) (weight (v c) ls) a)

weight_none : (v : ℕ → ℕ → ℕ) (c : ℕ) (ls : List ℕ) → weight (mix v [] c) ls ≡ 0
unfolding mix sum
weight_none v c [] = refl
weight_none v c (r ∷ ls) = omega (arith, weight_none v c ls)

-- MIX
pub mix_below : (v : ℕ → ℕ → ℕ) (base cost : ℕ → ℕ) (ls factors : List ℕ) (c : ℕ) → ((i : ℕ) → base i + weight (v i) ls ≤ cost i)
    → total base factors c + weight (mix v factors c) ls ≤ total cost factors c
unfolding total
mix_below v base cost ls [] c h = omega (arith, weight_none v c ls)
mix_below v base cost ls (a ∷ factors) c h = omega (
  arith,
  weight_mix v a factors c ls,
  mix_below v base cost ls factors (suc c) h,
  mul-le-mul_right a (h c),
  add-mul (base c) (weight (v c) ls) a,
)

dot_from : (f : ℕ → ℕ) (factors v : List ℕ) (c : ℕ) → length factors ≡ length v → ((i : ℕ) → get_or v i 0 ≡ f (c + i)) → dot factors v ≡ total f factors c
unfolding dot total
dot_from f [] v c e h = refl
dot_from f (a ∷ factors) [] c e h = absurd (omega (arith, e))
dot_from f (a ∷ factors) (y ∷ v) c e h =
    let first : y ≡ f c = h 0 ∙ ap f zero_right in
    let rest = dot_from f factors v (suc c) (omega (arith, e)) (λ i. h (suc i) ∙ ap f (next i)) in
    omega (arith, rest, ap (λ (x : ℕ). x * a) first)
  where
    zero_right : c + 0 ≡ c
    zero_right = omega arith

    next : (i : ℕ) → c + suc i ≡ suc c + i
    next i = omega arith

pub dot_total : (factors v : List ℕ) → length factors ≡ length v → dot factors v ≡ total (λ i. get_or v i 0) factors 0
dot_total factors v e = dot_from (λ i. get_or v i 0) factors v 0 e (λ i. ap (λ (n : ℕ). get_or v n 0) (same i))
  where
    same : (i : ℕ) → i ≡ 0 + i
    same i = omega arith

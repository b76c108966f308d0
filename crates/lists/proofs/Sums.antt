-- Sums and largest of lists of numbers: of two parts, of a part (`sum_within`, `largest_within`), and by a larger measure.
use mathlib.Core.Path.{◌∙◌, ◌≡◌, refl, sym}
use mathlib.Core.Logic.{inl, inr}
use mathlib.Core.List.Memᴰ.{cases_cons as mem_cases}
use mathlib.Core.List.Memᴰ.{cast as mem_cast}
use mathlib.Core.List.Memᴰ.{head as here}
use mathlib.Core.List.Memᴰ.{map as map_in}
use mathlib.Core.List.Memᴰ.{tail as there}
use mathlib.Core.List.{List, [], ◌++◌, ◌∷◌, map}
use Prim.Native.Nat.{◌+◌, ◌≤◌, max, ℕ}
use native.Mathlib.Omega.{arith}
use Rattle.lists.specs.Lists.{largest, sum}
use Rattle.lists.proofs.Distinct.{Distinct}
use Rattle.lists.proofs.Members.{◌∈◌, ◌⊆◌}

pub sum_append : (l m : List ℕ) → sum (l ++ m) ≡ sum l + sum m
unfolding sum
sum_append [] m = omega arith
sum_append (x ∷ l) m = omega (arith, sum_append l m)

pub largest_append : (l m : List ℕ) → largest (l ++ m) ≡ max (largest l) (largest m)
unfolding largest
largest_append [] m = omega arith
largest_append (x ∷ l) m = omega (arith, largest_append l m)

-- what b gives to a member, and to the others
sum_without : (b : ℕ → ℕ) {a : ℕ} {m : List ℕ} → a ∈ m
    → (r : List ℕ) × (sum (map b m) ≡ b a + sum (map b r)) × ((x : ℕ) → x ∈ m → ¬ (x ≡ a) → x ∈ r)
unfolding sum
sum_without b (here {xs = xs} e) = (xs, rw (← e), λ x m n. elim (mem_cases m) [ inl d ↦ absurd (n (d ∙ sym e)) | inr t ↦ t ])
sum_without b (there {x = z} h) =
    let c = sum_without b h in
    (z ∷ c.0, omega (arith, c.1), λ x m n. elim (mem_cases m) [ inl d ↦ here d | inr t ↦ there (c.2 x t n) ])

-- distinct members of m give no more than m
pub sum_within : (b : ℕ → ℕ) (l : List ℕ) {m : List ℕ} → Distinct l → l ⊆ m → sum (map b l) ≤ sum (map b m)
unfolding sum
sum_within b [] d s = omega arith
sum_within b (a ∷ l) d s =
    let c = sum_without b (s a (here refl)) in
    omega (arith, c.1, sum_within b l {m = c.0} d.1 (λ x i. c.2 x (s x (there i)) (λ e. d.0 (mem_cast (sym e) i))))

pub largest_in : {x : ℕ} {l : List ℕ} → x ∈ l → x ≤ largest l
unfolding largest
largest_in (here {x} e) = omega arith
largest_in (there m) = omega (arith, largest_in m)

pub largest_within : (b : ℕ → ℕ) (l : List ℕ) {m : List ℕ} → l ⊆ m → largest (map b l) ≤ largest (map b m)
unfolding largest
largest_within b [] s = omega arith
largest_within b (a ∷ l) s = omega (arith, largest_in (map_in b (s a (here refl))), largest_within b l (λ x i. s x (there i)))

-- what is largest is no more than the sum
pub largest_sum : (l : List ℕ) → largest l ≤ sum l
unfolding largest sum
largest_sum [] = omega arith
largest_sum (x ∷ l) = omega (arith, largest_sum l)

-- a larger measure makes larger sums
module _ (b d : ℕ → ℕ) where
  pub sum_larger : (vs : List ℕ) → ((v : ℕ) → v ∈ vs → b v ≤ d v) → sum (map b vs) ≤ sum (map d vs)
  unfolding sum
  sum_larger [] h = omega arith
  sum_larger (v ∷ vs) h = omega (arith, h v (here refl), sum_larger vs (λ u m. h u (there m)))

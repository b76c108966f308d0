-- THE SUMS of a drawn tree over the choices: the least is the sum of its lows (`least_lows`), the greatest that of its highs (`greatest_highs`).
use mathlib.Core.Path.{◌≡◌, refl, subst, sym}
use mathlib.Core.List.Memᴰ.{head as here}
use mathlib.Core.List.Memᴰ.{map as map_in}
use mathlib.Core.List.Memᴰ.{not-nil as mem_nil}
use mathlib.Core.List.Memᴰ.{of_map as map_out}
use mathlib.Core.List.Memᴰ.{tail as there}
use mathlib.Core.List.{List, [], ◌∷◌, map}
use Prim.Native.Nat.{◌≤◌, ℕ}
use native.Mathlib.Omega.{arith}
use lib.ListN.{length}
use Rattle.lists.specs.Lists.{largest}
use Rattle.lists.proofs.Members.{◌∈◌}
use Rattle.lists.proofs.Sums.{largest_in}
use Rattle.bounds.specs.Bounds.{smallest}
use Rattle.bounds.proofs.Lower.{smallest_below}
use Rattle.ranges.specs.Ranges.{choices, greatest_sum, least_sum, sum_by}
use Rattle.ranges.proofs.Choices.{at, choice_in, choice_out, weight_up}

smallest_above : (l : List ℕ) (b : ℕ) {x : ℕ} → x ∈ l → ((y : ℕ) → y ∈ l → b ≤ y) → b ≤ smallest l
unfolding smallest
smallest_above [] b m h = absurd (mem_nil m)
smallest_above (y ∷ []) b m h = h y (here refl)
smallest_above (y ∷ z ∷ l) b m h = omega (arith, h y (here refl), smallest_above (z ∷ l) b (here refl) (λ x i. h x (there i)))

largest_below : (l : List ℕ) (b : ℕ) → ((y : ℕ) → y ∈ l → y ≤ b) → largest l ≤ b
unfolding largest
largest_below [] b h = omega arith
largest_below (y ∷ l) b h = omega (arith, h y (here refl), largest_below l b (λ x i. h x (there i)))

module _ (lows highs : List ℕ) (e : length lows ≡ length highs) (order : (r : ℕ) → at lows r ≤ at highs r) (rows : List ℕ) where
  abbrev by_sum : List ℕ → ℕ
  by_sum choice = sum_by choice rows

  lows_in : lows ∈ choices lows highs
  lows_in = choice_in lows highs lows e refl (λ r. (omega arith, order r))

  highs_in : highs ∈ choices lows highs
  highs_in = choice_in lows highs highs e (sym e) (λ r. (order r, omega arith))

  -- every choice's sum lies between both
  between : (y : ℕ) → y ∈ map by_sum (choices lows highs) → (sum_by lows rows ≤ y) × (y ≤ sum_by highs rows)
  between y i =
      let (c, j, d) = map_out by_sum (choices lows highs) i in
      let w = (choice_out lows highs c j).1 in
      subst (λ (y : ℕ). (sum_by lows rows ≤ y) × (y ≤ sum_by highs rows)) d
      (weight_up (at lows) (at c) (λ r. (w r).0) rows, weight_up (at c) (at highs) (λ r. (w r).1) rows)

  pub least_lows : least_sum lows highs rows ≡ sum_by lows rows
  unfolding least_sum
  least_lows =
      let l = map by_sum (choices lows highs) in
      let i = map_in by_sum lows_in in
      omega (arith, smallest_below i, smallest_above l (sum_by lows rows) i (λ y j. (between y j).0))

  pub greatest_highs : greatest_sum lows highs rows ≡ sum_by highs rows
  unfolding greatest_sum
  greatest_highs =
      let l = map by_sum (choices lows highs) in
      omega (arith, largest_in (map_in by_sum highs_in), largest_below l (sum_by highs rows) (λ y j. (between y j).1))

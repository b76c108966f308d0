-- The ends of a chart's rows in arrays: of a list of at most 256 the array begins with the list (`padded_part`, `padded_fits`), and has 0 behind it (`padded_past`).
use mathlib.Core.Path.{◌∙◌, ◌≡◌, ap, sym}
use mathlib.Core.Bool.{Bool}
use mathlib.Core.List.{List}
use Prim.Native.Nat.{◌≤◌, ℕ}
use native.Mathlib.Omega.{arith}
use lib.ListN.{get_or-eq_default, get_or, length, length-map, take}
use lib.Seq.{ext_get_or, get_or-take, length-take-le}
use Rattle.lists.specs.Lists.{range}
use Rattle.lists.proofs.Ranges.{get_or_map_range, range_length}
use Rattle.chart.specs.Chart.{count_in, second_part, seconds_in, end_by, words_in}
use Rattle.chart.proofs.Laws.{words_length}
use Rattle.sought.specs.Sought.{padded}

-- the second ends are as many as the rows
pub seconds_length : (must : Bool) (c : List ℕ) → length (seconds_in must c) ≡ count_in c
unfolding seconds_in
seconds_length must c = length-map (words_in c) (λ w. end_by must w (second_part w)) ∙ words_length c

module _ (l : List ℕ) where
  padded_length : length (padded l) ≡ 256
  unfolding padded
  padded_length = length-map (range 0 256) (λ r. get_or l r 0) ∙ range_length 0 256

  pub padded_fits : (ends : List ℕ) (m : ℕ) → ends ≡ padded l → m ≤ 256 → m ≤ length ends
  padded_fits ends m e few = omega (arith, ap length e, padded_length)

  pub padded_past : (m i : ℕ) → length l ≡ m → m ≤ i → get_or l i 0 ≡ 0
  padded_past m i e h = get_or-eq_default l 0 (omega arith)

  pub padded_part : (m : ℕ) → length l ≡ m → m ≤ 256 → take m (padded l) ≡ l
  unfolding padded
  padded_part m e few =
      let long : length (take m (padded l)) ≡ m = length-take-le m (padded l) (omega (arith, padded_length)) in
      ext_get_or 0 (take m (padded l)) l (long ∙ sym e) (λ i h. get_or-take m (padded l) i 0 (omega arith) ∙ get_or_map_range (λ r. get_or l r 0) 256 i 0 (omega arith))

-- What the code reads is what specs/Chart.antt says of the words: neighbours (`near_at`), a row's word (`word_here`, `word_past`), its ends (`ends_at`) and the row itself (`row_here`).
use mathlib.Core.Path.{◌∙◌, ◌≡◌, ap, refl, sym}
use mathlib.Core.Bool.{Bool, false, true}
use mathlib.Core.List.{List}
use Prim.Native.Nat.{◌+◌, ◌<◌, ◌≤◌, ℕ}
use native.Mathlib.Omega.{arith}
use lib.ListN.{get_or-eq_default, get_or-map, get_or, length, length-map}
use lib.Seq.{get_or-drop}
use Rattle.lists.specs.Lists.{pick, range}
use Rattle.lists.proofs.Ranges.{get_or_map_range, range_length}
use Rattle.costs.specs.Network.{no_row}
use Rattle.chart.specs.Chart.{count_in, end_by, first_part, firsts_in, near_in, row_by, rows_in, second_part, seconds_in, words_in}

module _ (c : List ℕ) where
  pub near_at : (must : Bool) (u : ℕ) → get_or c (pick must 38 5 + u) 0 ≡ get_or (near_in must c) u 0
  unfolding near_in
  near_at must u = sym (get_or-drop (pick must 38 5) c u 0)

  pub words_length : length (words_in c) ≡ count_in c
  unfolding words_in
  words_length = length-map (range 0 (count_in c)) (λ r. get_or c (1160 + r) 0) ∙ range_length 0 (count_in c)

  module _ (r : ℕ) where
    pub word_here : r < count_in c → get_or c (1160 + r) 0 ≡ get_or (words_in c) r 0
    unfolding words_in
    word_here h = sym (get_or_map_range (λ r. get_or c (1160 + r) 0) (count_in c) r 0 h)

    pub word_past : count_in c ≤ r → 0 ≡ get_or (words_in c) r 0
    unfolding words_in
    word_past h = sym (get_or-eq_default (words_in c) 0 (omega (arith, words_length)))

    -- past the rows the ends are 0
    end_none : (must : Bool) → (end_by must 0 0 ≡ 0)
    end_none false = refl
    end_none true = refl

    pub first_at : (must : Bool) → end_by must (get_or (words_in c) r 0) (first_part (get_or (words_in c) r 0)) ≡ get_or (firsts_in must c) r 0
    unfolding firsts_in
    first_at must = sym (ap (get_or (firsts_in must c) r) (sym (end_none must)) ∙ get_or-map (λ w. end_by must w (first_part w)) (words_in c) r 0)

    pub second_at : (must : Bool) → end_by must (get_or (words_in c) r 0) (second_part (get_or (words_in c) r 0)) ≡ get_or (seconds_in must c) r 0
    unfolding seconds_in
    second_at must = sym (ap (get_or (seconds_in must c) r) (sym (end_none must)) ∙ get_or-map (λ w. end_by must w (second_part w)) (words_in c) r 0)

    -- the ends by a row's word, of which g answers what is kept
    pub ends_at : (must : Bool) (w : ℕ) (g : ℕ → ℕ) → w ≡ get_or (words_in c) r 0 → ((end : ℕ) → g end ≡ end_by must w end)
        → (g (first_part w) ≡ get_or (firsts_in must c) r 0) × (g (second_part w) ≡ get_or (seconds_in must c) r 0)
    ends_at must w g e kept = (kept (first_part w) ∙ rw e (first_at must), kept (second_part w) ∙ rw e (second_at must))

    pub row_here : row_by (get_or (words_in c) r 0) ≡ get_or (rows_in c) r no_row
    unfolding rows_in
    row_here = sym (get_or-map row_by (words_in c) r 0)

  pub rows_length : length (rows_in c) ≡ count_in c
  unfolding rows_in
  rows_length = length-map (words_in c) row_by ∙ words_length

-- the ends of the rows are as many as the rows
pub firsts_length : (must : Bool) (c : List ℕ) → length (firsts_in must c) ≡ count_in c
unfolding firsts_in
firsts_length must c = length-map (words_in c) (λ w. end_by must w (first_part w)) ∙ words_length c

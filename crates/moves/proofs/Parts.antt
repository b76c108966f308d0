-- A part of k trees' places, filled with what stands behind a tree of a list: where it gets fewer than k trees the list is over (`part_short`), else its last
-- tree stands k places further in the list (`part_full`).
use mathlib.Core.Path.{◌∙◌, ◌≡◌, ap, sym}
use mathlib.Core.Option.{none, some}
use mathlib.Core.List.{List, [], ◌++◌, append_assoc}
use Prim.Native.Nat.{◌*◌, ◌+◌, ◌-◌, ◌/◌, ◌<◌, ◌≤◌, min, pred, suc, ℕ}
use native.Mathlib.Nat.{mul-div_cancel, suc-mul}
use native.Mathlib.Omega.{arith}
use lib.ListN.{drop, get_or, get_elem?, length, length-drop, length-take, take}
use lib.Seq.{get_or-drop, get_or-take}
use Rattle.lists.proofs.Ascending.{at_get_or, at_mem, at_past}
use Rattle.lists.proofs.Distinct.{Distinct}
use Rattle.lists.proofs.Members.{◌∈◌, drop_out, take_out}
use Rattle.pages.specs.Pages.{flat, page_after, page_count, pieces, rest_after}
use Rattle.pages.proofs.Pages.{behind_drop, pieces_at, pieces_flat, rest_after_behind}

-- trees of w rows, none twice, with p at place i, and a part of k trees' places
module _ (w : ℕ) (L : List (List ℕ)) (wide : 0 < w) (once : Distinct L) (long : (p : List ℕ) → p ∈ L → length p ≡ w) (i : ℕ) (p : List ℕ) (at : get_elem? L i ≡ some p)
    (part : List ℕ) (k : ℕ) (fits : length part ≡ k * w) where
  abbrev rest : List (List ℕ)
  rest = rest_after L p

  rest_is : rest_after L p ≡ drop (suc i) L
  rest_is = rest_after_behind L p (omega (arith, long p (at_mem L i at))) ∙ behind_drop L i p once at

  count_is_lem : page_count w part (rest_after L p) ≡ min k (length L - suc i)
  count_is_lem =
      let fit : length part / w ≡ k = ap (λ (n : ℕ). n / w) fits ∙ mul-div_cancel k wide in
      rw (fit, rest_is, length-drop (suc i) L)

  pub part_short : page_count w part (rest_after L p) < k → (j : ℕ) → k ≤ j → get_elem? L (i + j) ≡ none
  part_short few j h = at_past L (i + j) (omega (arith, count_is_lem))

  module _ (some_trees : 0 < k) (all : k ≤ page_count w part (rest_after L p)) (others : List ℕ) where
    abbrev trees : List (List ℕ)
    trees = take k (drop (suc i) L)

    enough : suc i + k ≤ length L
    enough = omega (arith, count_is_lem)

    size : length trees ≡ k
    size = length-take k (drop (suc i) L) ∙ omega (arith, length-drop (suc i) L, enough)

    -- the trees, then what stood behind them
    begins : page_after w part (rest_after L p) ++ others ≡ flat trees ++ (drop (k * w) part ++ others)
    begins =
        let count : page_count w part (rest_after L p) ≡ k = omega (arith, count_is_lem, all) in
        ap (λ (n : ℕ). (flat (take n rest) ++ drop (n * w) part) ++ others) count ∙ (rw rest_is (append_assoc (flat trees) (drop (k * w) part) others))

    pub part_full : get_elem? L (i + k) ≡ some (take w (drop (k * w - w) (page_after w part (rest_after L p) ++ others)))
    part_full =
        let again : suc (pred k) ≡ k = omega arith in
        let place : suc i + pred k ≡ i + k = omega arith in
        let from : pred k * w ≡ k * w - w = omega (arith, suc-mul (pred k) w, ap (λ (n : ℕ). n * w) again) in
        let behind = drop (k * w) part ++ others in
        let pieces_are : pieces w k (flat trees ++ behind) ≡ trees = rw size at (pieces_flat w trees behind (λ q m. long q (drop_out (suc i) L (take_out k (drop (suc i) L) m)))) in
        let there : get_or trees (pred k) [] ≡ get_or L (i + k) [] =
        get_or-take k (drop (suc i) L) (pred k) [] (omega arith) ∙ get_or-drop (suc i) L (pred k) [] ∙ ap (λ (n : ℕ). get_or L n []) place in
        at_get_or L (i + k) [] (omega (arith, enough))
        ∙ ap some (sym there ∙ ap (λ (l : List (List ℕ)). get_or l (pred k) []) (sym pieces_are) ∙ pieces_at w k (flat trees ++ behind) (pred k) (omega arith)
        ∙ (rw (from, begins)))

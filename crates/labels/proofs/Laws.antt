-- The model of the choice, turn by turn: what is chosen at last from a place on (`chosen_from`), which no turn changes. Assumes nothing.
use mathlib.Core.Path.{◌∙◌, ◌≡◌, ap, refl, sym}
use mathlib.Core.Bool.{false, true}
use mathlib.Core.List.{List, [], ◌++◌, ◌∷◌, append-nil}
use Prim.Native.Nat.{◌+◌, ◌-◌, ◌<◌, ◌≤◌, suc, zero, ℕ}
use native.Mathlib.Numerals.{add-one}
use native.Mathlib.Omega.{arith}
use lib.ListN.{drop, drop_of_length-le, get_or, length, take}
use lib.Seq.{append_snoc, drop-cons, take_all}
use Rattle.lists.specs.Lists.{filter_b}
use Rattle.chosen.specs.Chosen.{is_on}
use Rattle.chosen.proofs.Laws.{cut_twice}
use Rattle.completions.specs.Labels.{choose_few, joined_by, same_label}

module _ (fs ss : List ℕ) where
  -- The choice

  module _ (flags order : List ℕ) where
    -- these rows, and what is chosen behind them from place i on
    unfoldable pub chosen_from : ℕ → List ℕ → List ℕ → ℕ → List ℕ
    chosen_from left labels rows i = take 31 (rows ++ choose_few fs ss left labels (filter_b (is_on flags) (drop i order)))

    pub choose_start : (need : ℕ) (start rows : List ℕ) → rows ≡ [] → take 31 (choose_few fs ss need start (filter_b (is_on flags) order)) ≡ chosen_from need start rows 0
    unfolding chosen_from
    choose_start need start rows e = rw e

    none : (labels l : List ℕ) → choose_few fs ss 0 labels l ≡ []
    unfolding choose_few
    none labels [] = refl
    none labels (r ∷ l) = refl

    pub choose_enough : (labels rows : List ℕ) (i : ℕ) → length rows ≤ 31 → chosen_from 0 labels rows i ≡ rows
    unfolding chosen_from
    choose_enough labels rows i h = rw (none labels (filter_b (is_on flags) (drop i order))) (ap (take 31) (append-nil rows) ∙ take_all 31 rows h)

    pub choose_end : (left : ℕ) (labels rows : List ℕ) (i : ℕ) → length order ≤ i → length rows ≤ 31 → chosen_from left labels rows i ≡ rows
    unfolding chosen_from filter_b choose_few
    choose_end left labels rows i h k = rw (drop_of_length-le order h) (ap (take 31) (append-nil rows) ∙ take_all 31 rows k)

    -- a row that is closed, and one that is taken
    few_closed : (n : ℕ) (labels : List ℕ) (r : ℕ) (rs : List ℕ) → ¬ (n ≡ 0) → same_label fs ss labels r ≡ true → choose_few fs ss n labels (r ∷ rs) ≡ choose_few fs ss n labels rs
    unfolding choose_few
    few_closed zero labels r rs n e = absurd (n refl)
    few_closed (suc n) labels r rs _ e = rw e

    few_taken : (n : ℕ) (labels : List ℕ) (r : ℕ) (rs : List ℕ) → ¬ (n ≡ 0) → same_label fs ss labels r ≡ false
        → choose_few fs ss n labels (r ∷ rs) ≡ r ∷ choose_few fs ss (n - 1) (joined_by fs ss labels r) rs
    unfolding choose_few
    few_taken zero labels r rs n e = absurd (n refl)
    few_taken (suc n) labels r rs _ e = let back : suc n - 1 ≡ n = omega arith in rw (e, back)

    module _ (left : ℕ) (labels rows : List ℕ) (i : ℕ) (h : i < length order) where
      next : drop i order ≡ get_or order i 0 ∷ drop (i + 1) order
      next = drop-cons order i 0 h ∙ ap (λ (k : ℕ). get_or order i 0 ∷ drop k order) (sym (add-one i))

      -- a row whose flag is not set
      pub choose_off : is_on flags (get_or order i 0) ≡ false → chosen_from left labels rows i ≡ chosen_from left labels rows (i + 1)
      unfolding chosen_from filter_b
      choose_off e = rw (next, e)

      module _ (more : ¬ (left ≡ 0)) (on : is_on flags (get_or order i 0) ≡ true) where
        -- one whose ends have one label
        pub choose_closed : same_label fs ss labels (get_or order i 0) ≡ true → chosen_from left labels rows i ≡ chosen_from left labels rows (i + 1)
        unfolding chosen_from filter_b
        choose_closed e = rw (next, on, few_closed left labels (get_or order i 0) (filter_b (is_on flags) (drop (i + 1) order)) more e)

        -- one that is chosen
        pub choose_taken : same_label fs ss labels (get_or order i 0) ≡ false
            → chosen_from left labels rows i ≡ chosen_from (left - 1) (joined_by fs ss labels (get_or order i 0)) (take 31 (rows ++ (get_or order i 0 ∷ []))) (i + 1)
        unfolding chosen_from filter_b
        choose_taken e =
            let r = get_or order i 0 in
            let rest = filter_b (is_on flags) (drop (i + 1) order) in
            let few = choose_few fs ss (left - 1) (joined_by fs ss labels r) rest in
            (rw (next, on, few_taken left labels r rest more e)) ∙ sym (cut_twice 31 (rows ++ (r ∷ [])) few ∙ ap (take 31) (append_snoc rows r few))

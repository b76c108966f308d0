-- A test of the members from place i on, as a loop over the places meets them: a turn that goes on, one that ends it, and its end.
use mathlib.Core.Path.{◌∙◌, ◌≡◌}
use mathlib.Core.Bool.{Bool, false, true}
use mathlib.Core.List.{List}
use Prim.Native.Nat.{◌+◌, ◌<◌, ◌≤◌, ℕ}
use native.Mathlib.Numerals.{add-one}
use lib.ListN.{drop, drop_of_length-le, get_or, length}
use lib.Seq.{drop-cons}
use Rattle.lists.specs.Lists.{all, any, both, either}

-- whether all pass

module _ {A : Type 0} (p : A → Bool) (l : List A) (d : A) (i : ℕ) where
  all_turn : i < length l → all p (drop i l) ≡ both (p (get_or l i d)) (all p (drop (i + 1) l))
  unfolding all
  all_turn h = rw (drop-cons l i d h, add-one)

  pub all_next : i < length l → p (get_or l i d) ≡ true → all p (drop i l) ≡ all p (drop (i + 1) l)
  all_next h e = all_turn h ∙ (rw e)

  pub all_stop : i < length l → p (get_or l i d) ≡ false → all p (drop i l) ≡ false
  all_stop h e = all_turn h ∙ (rw e)

  pub all_end : length l ≤ i → all p (drop i l) ≡ true
  unfolding all
  all_end h = rw (drop_of_length-le l h)

-- whether one of them passes

module _ {A : Type 0} (p : A → Bool) (l : List A) (d : A) (i : ℕ) where
  any_turn : i < length l → any p (drop i l) ≡ either (p (get_or l i d)) (any p (drop (i + 1) l))
  unfolding any
  any_turn h = rw (drop-cons l i d h, add-one)

  pub any_next : i < length l → p (get_or l i d) ≡ false → any p (drop i l) ≡ any p (drop (i + 1) l)
  any_next h e = any_turn h ∙ (rw e)

  pub any_stop : i < length l → p (get_or l i d) ≡ true → any p (drop i l) ≡ true
  any_stop h e = any_turn h ∙ (rw e)

  pub any_end : length l ≤ i → any p (drop i l) ≡ false
  unfolding any
  any_end h = rw (drop_of_length-le l h)

-- Two numbers parted by a space, read at the place of the first space.
use mathlib.Core.Path.{◌∙◌, ◌≡◌, ap, ap₂, refl, sym}
use mathlib.Core.Option.{Option, none, some}
use mathlib.Core.List.{List}
use Prim.Native.Nat.{◌+◌, ◌-◌, ◌<◌, ◌≤◌, ℕ}
use native.Mathlib.Omega.{arith}
use lib.ListN.{drop, length, length-drop, take}
use lib.Seq.{take_all}
use Rattle.lists.specs.Lists.{pick}
use Rattle.edge_file.specs.Decimal.{number_of}
use Rattle.edge_lines.specs.Reading.{before, behind, both_of, held_at, held_two, two_of}
use Rattle.edge_file.specs.Text.{Ends, space}
use Rattle.edge_lines.proofs.Places.{before_take, behind_drop, member_none, member_place}

both_held : (x y : Option ℕ) → both_of (held_at x) (held_at y) ≡ held_two (both_of x y)
both_held none y = refl
both_held (some x) none = refl
both_held (some x) (some y) = refl

module _ (l : List ℕ) {at : ℕ} (is : at ≡ length (before space l)) where
  pub two_none : length l ≤ at → none ≡ held_two (two_of l)
  unfolding two_of
  two_none h = sym (ap {B = Option Ends} (λ b. held_two (pick b (both_of (number_of (before space l)) (number_of (behind space l))) none)) (member_none space l (omega arith)))

  pub two_held : at < length l → {p q : Option ℕ} → p ≡ held_at (number_of (take at l)) → q ≡ held_at (number_of (take (length l - (at + 1)) (drop (at + 1) l)))
      → both_of p q ≡ held_two (two_of l)
  unfolding two_of
  two_held h e f =
      let one : take at l ≡ before space l = ap (λ (n : ℕ). take n l) is ∙ sym (before_take space l) in
      let two : take (length l - (at + 1)) (drop (at + 1) l) ≡ behind space l
      = take_all (length l - (at + 1)) (drop (at + 1) l) (simp length-drop (omega arith)) ∙ ap (λ (n : ℕ). drop (n + 1) l) is ∙ sym (behind_drop space l) in
      ap₂ both_of (e ∙ ap (λ (x : List ℕ). held_at (number_of x)) one) (f ∙ ap (λ (x : List ℕ). held_at (number_of x)) two)
      ∙ both_held (number_of (before space l)) (number_of (behind space l))
      ∙ sym (ap {B = Option Ends} (λ b. held_two (pick b (both_of (number_of (before space l)) (number_of (behind space l))) none)) (member_place space l (omega arith)))

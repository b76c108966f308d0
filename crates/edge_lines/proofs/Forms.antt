-- A line as the code reads it: a comment, a line of two numbers by its first bytes, or none of these.
use mathlib.Core.Path.{◌∙◌, ◌≡◌, ap, refl, sym}
use mathlib.Core.Bool.{Bool, ◌&&◌, false, true}
use mathlib.Core.Option.{Option, none, some}
use mathlib.Core.List.{List, [], ◌∷◌}
use Prim.Native.Nat.{◌<◌, ℕ}
use native.Mathlib.Omega.{arith}
use lib.Dec.{eqb}
use lib.ListN.{drop, get_or, length, take}
use lib.Pointwise.{pointwise}
use Rattle.std.specs.Prelude.{nat_eq}
use Rattle.lists.specs.Lists.{member, pick}
use Rattle.edge_file.specs.Decimal.{number_of}
use Rattle.edge_lines.specs.Reading.{before, behind, both_of, edge_from, held_line, held_two, line_by, problem_from, starts, two_by, two_of}
use Rattle.edge_file.specs.Text.{Ends, comment, edge_of, is_comment, line_of, other, problem_of, space}
use Rattle.edge_lines.proofs.Places.{starts_same}
use Rattle.edge_lines.proofs.Reading.{line_by_lem}

-- two numbers, by either form

edge_both_of : (x y : Option ℕ) → edge_of x y ≡ edge_from (both_of x y)
edge_both_of none y = refl
edge_both_of (some x) none = refl
edge_both_of (some x) (some y) = refl

problem_both_of : (x y : Option ℕ) → problem_of x y ≡ problem_from (both_of x y)
problem_both_of none y = refl
problem_both_of (some x) none = refl
problem_both_of (some x) (some y) = refl

edge_two : (l : List ℕ) → two_by edge_of l ≡ edge_from (two_of l)
unfolding two_of
edge_two l = go (member space l)
  where
    go : (b : Bool) → pick b (edge_of (number_of (before space l)) (number_of (behind space l))) other ≡ edge_from (pick b (both_of (number_of (before space l)) (number_of (behind space l))) none)
    go true = edge_both_of (number_of (before space l)) (number_of (behind space l))
    go false = refl

problem_two : (l : List ℕ) → two_by problem_of l ≡ problem_from (two_of l)
unfolding two_of
problem_two l = go (member space l)
  where
    go : (b : Bool) → pick b (problem_of (number_of (before space l)) (number_of (behind space l))) other ≡ problem_from (pick b (both_of (number_of (before space l)) (number_of (behind space l))) none)
    go true = problem_both_of (number_of (before space l)) (number_of (behind space l))
    go false = refl

edge_held : (o : Option Ends) → edge_from (held_two o) ≡ held_line (edge_from o)
edge_held none = refl
edge_held (some e) = refl

problem_held : (o : Option Ends) → problem_from (held_two o) ≡ held_line (problem_from o)
problem_held none = refl
problem_held (some e) = refl

-- whether bytes begin with others, as the library tells it
begun : (xs l : List ℕ) {t : Bool} → pointwise nat_eq (take (length xs) l) xs ≡ t → starts xs l ≡ t
begun xs l told = sym (starts_same xs l) ∙ told

-- a test of the first bytes
abbrev Begins : List ℕ → List ℕ → Bool → Type 0
Begins xs l t = pointwise nat_eq (take (length xs) l) xs ≡ t

module _ (l : List ℕ) where
  pub line_comment : is_comment l ≡ true → comment ≡ held_line (line_of l)
  unfolding line_by
  line_comment e = sym (ap held_line (line_by_lem l) ∙ (rw e))

  module _ (plain : is_comment l ≡ false) where
    pub line_edge : {rest : List ℕ} → Begins (101 ∷ 32 ∷ []) l true → rest ≡ drop 2 l → {o : Option Ends} → o ≡ held_two (two_of rest) → edge_from o ≡ held_line (line_of l)
    unfolding line_by
    line_edge told is e =
        let s = begun (101 ∷ 32 ∷ []) l told in
        ap edge_from (e ∙ ap (λ (x : List ℕ). held_two (two_of x)) is) ∙ edge_held (two_of (drop 2 l)) ∙ ap held_line (sym (edge_two (drop 2 l)))
        ∙ sym (ap held_line (line_by_lem l) ∙ (rw (plain, s)))

    module _ (no_edge : Begins (101 ∷ 32 ∷ []) l false) where
      no_e : starts (101 ∷ 32 ∷ []) l ≡ false
      no_e = begun (101 ∷ 32 ∷ []) l no_edge

      pub line_problem : {rest : List ℕ} → Begins (112 ∷ 32 ∷ 101 ∷ 100 ∷ 103 ∷ 101 ∷ 32 ∷ []) l true → rest ≡ drop 7 l → {o : Option Ends} → o ≡ held_two (two_of rest)
          → problem_from o ≡ held_line (line_of l)
      unfolding line_by
      line_problem told is e =
          let s = begun (112 ∷ 32 ∷ 101 ∷ 100 ∷ 103 ∷ 101 ∷ 32 ∷ []) l told in
          ap problem_from (e ∙ ap (λ (x : List ℕ). held_two (two_of x)) is) ∙ problem_held (two_of (drop 7 l)) ∙ ap held_line (sym (problem_two (drop 7 l)))
          ∙ sym (ap held_line (line_by_lem l) ∙ (rw (plain, no_e, s)))

      pub line_other : Begins (112 ∷ 32 ∷ 101 ∷ 100 ∷ 103 ∷ 101 ∷ 32 ∷ []) l false → other ≡ held_line (line_of l)
      unfolding line_by
      line_other told =
          let s = begun (112 ∷ 32 ∷ 101 ∷ 100 ∷ 103 ∷ 101 ∷ 32 ∷ []) l told in
          sym (ap held_line (line_by_lem l) ∙ (rw (plain, no_e, s)))

-- comments by their length
pub comment_none : (l : List ℕ) → length l ≡ 0 → is_comment l ≡ false
unfolding is_comment
comment_none [] e = refl
comment_none (b ∷ l) e = absurd (omega arith)

pub comment_one : (l : List ℕ) → length l ≡ 1 → is_comment l ≡ eqb (get_or l 0 0) 99
unfolding is_comment
comment_one [] e = absurd (omega arith)
comment_one (b ∷ []) e = refl
comment_one (b ∷ d ∷ l) e = absurd (omega arith)

pub comment_more : (l : List ℕ) → 1 < length l → is_comment l ≡ (eqb (get_or l 0 0) 99 && eqb (get_or l 1 0) 32)
unfolding is_comment
comment_more [] more = absurd (omega arith)
comment_more (b ∷ []) more = absurd (omega arith)
comment_more (b ∷ d ∷ l) more = refl

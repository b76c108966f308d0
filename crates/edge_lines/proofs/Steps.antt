-- A step of the cursor: what the code answers in each case (`step_done`, `step_stray`, `step_found`); and what a step says of the text's lines, for a loop over
-- them (`step_line`, `step_end`).
use mathlib.Core.Path.{◌∙◌, ◌≡◌, ap, ap₂, refl, subst, sym}
use mathlib.Core.List.{List, [], ◌∷◌, map}
use Prim.Native.Nat.{◌+◌, ◌-◌, ◌<◌, ◌≤◌, suc, ℕ}
use native.Mathlib.Decide.{dec_lt}
use native.Mathlib.Omega.{arith}
use borrow.Author.Tests.{le-ltb, lt-ltb}
use lib.Dec.{T}
use lib.ListN.{drop, drop_of_length-le, get_or, length, length-drop, take}
use lib.Seq.{drop-cons, drop-drop, take_all}
use Rattle.lists.specs.Lists.{member}
use Rattle.lists.proofs.Members.{◌∈◌, member_in, member_out}
use Rattle.lists.proofs.Tests.{T_true}
use Rattle.edge_file.specs.Text.{Line, line_feed, line_of, lines_of, other}
use Rattle.edge_lines.specs.Reading.{Stepped, before, behind, done, held_line, held_lines, line, line_at, step_at}
use Rattle.edge_lines.proofs.Places.{before_take, behind_drop, member_none, member_place}
use Rattle.edge_lines.proofs.Reading.{lines_end, lines_next, lines_stray}

module _ (text : List ℕ) (at : ℕ) where
  -- the cases of a step
  pub step_done : length text ≤ at → done ≡ step_at text at
  unfolding step_at
  step_done h = sym (rw (le-ltb at (length text) h))

  step_inside : at < length text → step_at text at ≡ line_at text at
  unfolding step_at
  step_inside h = rw (lt-ltb at (length text) h)

  abbrev rest : List ℕ
  rest = drop at text

  abbrev end : ℕ
  end = length (before line_feed rest)

  line_stray : length rest ≤ end → line_at text at ≡ line other (length text)
  unfolding line_at
  line_stray h = rw (le-ltb end (length rest) h)

  line_found : end < length rest → line_at text at ≡ line (held_line (line_of (take end rest))) (at + end + 1)
  unfolding line_at
  line_found h = rw (lt-ltb end (length rest) h)

-- as the code comes to them
module _ (text : List ℕ) (at : ℕ) (inside : at < length text) {part : List ℕ} {place : ℕ} (is : part ≡ take (length text - at) (drop at text))
    (first : place ≡ length (before line_feed part)) where
  part_is : part ≡ drop at text
  part_is = is ∙ take_all (length text - at) (drop at text) (simp length-drop (omega arith))

  place_is : place ≡ length (before line_feed (drop at text))
  place_is = first ∙ ap (λ (l : List ℕ). length (before line_feed l)) part_is

  pub step_stray : length part ≤ place → line other (length text) ≡ step_at text at
  step_stray h = sym (step_inside text at inside ∙ line_stray text at (omega (arith, place_is, ap length part_is)))

  pub step_found : place < length part → {l : Line} → l ≡ held_line (line_of (take place part)) → line l (at + place + 1) ≡ step_at text at
  step_found h {l} e =
      ap₂ line (e ∙ ap₂ (λ (n : ℕ) (b : List ℕ). held_line (line_of (take n b))) place_is part_is) (ap (λ (n : ℕ). at + n + 1) place_is)
      ∙ sym (step_inside text at inside ∙ line_found text at (omega (arith, place_is, ap length part_is)))

-- What a step says of the lines: it goes on within the text, and the line is the first of those that are left
pub record Advanced (text : List ℕ) (at next : ℕ) (l : Line) : Type 0 where
  pub further : at < next
  pub within : next ≤ length text
  pub lines : held_lines (drop at text) ≡ l ∷ held_lines (drop next text)

module _ (text : List ℕ) (at : ℕ) where
  stray : at < length text → length (drop at text) ≤ length (before line_feed (drop at text)) → Advanced text at (length text) other
  stray inside h = record {
    further = inside;
    within = omega arith;
    lines = ap (map held_line) (ap lines_of (drop-cons text at 0 inside) ∙ lines_stray (get_or text at 0) (drop (suc at) text) none)
        ∙ sym (ap (λ (x : List ℕ). other ∷ held_lines x) (drop_of_length-le text {i = length text} (omega arith)) ∙ ap (λ (ls : List Line). other ∷ map held_line ls) lines_end);
  }
    where
      none : ¬ (line_feed ∈ get_or text at 0 ∷ drop (suc at) text)
      none m =
          let t : T (member line_feed (drop at text)) = member_in (subst (λ (x : List ℕ). line_feed ∈ x) (sym (drop-cons text at 0 inside)) m) in
          subst T (member_none line_feed (drop at text) h) t

  found : (end : ℕ) → end ≡ length (before line_feed (drop at text)) → at < length text → end < length (drop at text)
      → Advanced text at (at + end + 1) (held_line (line_of (take end (drop at text))))
  found end place inside h = record {
    further = omega arith;
    within = omega (arith, length-drop at text);
    lines = ap (map held_line) (lines_next (drop at text) there) ∙ ap₂ {C = List Line} (λ a b. a ∷ b) (ap (λ (x : List ℕ). held_line (line_of x)) first) (ap held_lines later);
  }
    where
      there : line_feed ∈ drop at text
      there = member_out line_feed (drop at text) ((T_true (member line_feed (drop at text))).1 (member_place line_feed (drop at text) (omega (arith, place))))

      first : before line_feed (drop at text) ≡ take end (drop at text)
      first = before_take line_feed (drop at text) ∙ ap (λ (n : ℕ). take n (drop at text)) (sym place)

      later : behind line_feed (drop at text) ≡ drop (at + end + 1) text
      later =
          let add : at + (end + 1) ≡ at + end + 1 = omega arith in
          behind_drop line_feed (drop at text) ∙ ap (λ (n : ℕ). drop (n + 1) (drop at text)) (sym place) ∙ drop-drop (end + 1) at text ∙ ap (λ (n : ℕ). drop n text) add

-- what each step says
abbrev Says : List ℕ → ℕ → Stepped → Type 0
Says text at (line l next) = Advanced text at next l
Says text at done = held_lines (drop at text) ≡ []

said : (text : List ℕ) (at : ℕ) → Says text at (step_at text at)
said text at = elim (dec_lt at (length text)) [
  | yes h ↦ subst (Says text at) (sym (step_inside text at h)) (elim (dec_lt (length (before line_feed (drop at text))) (length (drop at text))) [
    | yes k ↦ subst (Says text at) (sym (line_found text at k)) (found text at _ refl h k)
    | no k ↦ subst (Says text at) (sym (line_stray text at (omega arith))) (stray text at h (omega arith))
  ])
  | no h ↦ subst (Says text at) (step_done text at (omega arith)) (ap held_lines (drop_of_length-le text {i = at} (omega arith)) ∙ ap (map held_line) lines_end)
]

-- LINE: the line that a step answers is the first of those left, and behind it are the others
pub step_line : (text : List ℕ) (at : ℕ) {l : Line} {next : ℕ} → line l next ≡ step_at text at → Advanced text at next l
step_line text at e = subst (Says text at) (sym e) (said text at)

-- END: where a step answers that the text is done, no line is left
pub step_end : (text : List ℕ) (at : ℕ) → done ≡ step_at text at → held_lines (drop at text) ≡ []
step_end text at e = subst (Says text at) (sym e) (said text at)

-- The text as a reader with a cursor meets it: what stands before and behind the first byte of a kind; a line by its first bytes; numbers held at a
-- cap; the line that begins at a place (`step_at`). `proofs/` ties each to edge_file's specs/Text.antt.
use Rattle.std.specs.Prelude.{Bool, ◌&&◌, false, true, List, [], ◌∷◌, map, ◌*◌, ◌+◌, ◌-◌, min, ℕ, eqb, ltb, drop, length, take}
use Rattle.std.proofs.Math.Option.{Option, none, some}
use Rattle.lists.specs.Lists.{member, pick}
use Rattle.edge_file.specs.Decimal.{number_of}
use Rattle.edge_file.specs.Text.{Ends, Line, comment, edge, edge_of, is_comment, line_feed, line_of, lines_of, other, problem, problem_of, space}

-- what stands before the first s, and behind it
unfoldable pub before : ℕ → List ℕ → List ℕ
before s [] = []
before s (b ∷ bytes) = pick (eqb b s) [] (b ∷ before s bytes)

unfoldable pub behind : ℕ → List ℕ → List ℕ
behind s [] = []
behind s (b ∷ bytes) = pick (eqb b s) bytes (behind s bytes)

-- the bytes begin with others
unfoldable pub starts : List ℕ → List ℕ → Bool
starts [] bytes = true
starts (x ∷ xs) [] = false
starts (x ∷ xs) (b ∷ bytes) = eqb b x && starts xs bytes

-- two numbers parted by a space
abbrev pub two_by : (Option ℕ → Option ℕ → Line) → List ℕ → Line
two_by form bytes = pick (member space bytes) (form (number_of (before space bytes)) (number_of (behind space bytes))) other

-- the same as an option, whatever the form
abbrev pub both_of : Option ℕ → Option ℕ → Option Ends
both_of none y = none
both_of (some x) none = none
both_of (some x) (some y) = some (record { one = x; two = y })

unfoldable pub two_of : List ℕ → Option Ends
unfolding before behind
two_of bytes = pick (member space bytes) (both_of (number_of (before space bytes)) (number_of (behind space bytes))) none

-- a line by its first bytes: `e `, or `p edge `
unfoldable pub line_by : List ℕ → Line
unfolding is_comment before behind starts
line_by bytes =
    pick (is_comment bytes) comment
    (pick (starts (101 ∷ 32 ∷ []) bytes) (two_by edge_of (drop 2 bytes))
    (pick (starts (112 ∷ 32 ∷ 101 ∷ 100 ∷ 103 ∷ 101 ∷ 32 ∷ []) bytes) (two_by problem_of (drop 7 bytes)) other))

-- a line of two numbers, if there are two
abbrev pub edge_from : Option Ends → Line
edge_from none = other
edge_from (some e) = edge e.one e.two

abbrev pub problem_from : Option Ends → Line
problem_from none = other
problem_from (some e) = problem e.one e.two

-- Numbers held at a cap, above every limit and above the lines of any text

abbrev pub cap : ℕ
cap = 18446744073709551609

unfoldable pub capped_from : ℕ → List ℕ → ℕ
capped_from high [] = high
capped_from high (d ∷ ds) = capped_from (min cap (high * 10 + (d - 48))) ds

abbrev pub held_at : Option ℕ → Option ℕ
held_at none = none
held_at (some x) = some (min cap x)

abbrev pub held_ends : Ends → Ends
held_ends e = record { one = min cap e.one; two = min cap e.two }

abbrev pub held_two : Option Ends → Option Ends
held_two none = none
held_two (some e) = some (held_ends e)

abbrev pub held_line : Line → Line
held_line comment = comment
held_line (problem n m) = problem (min cap n) (min cap m)
held_line (edge u v) = edge (min cap u) (min cap v)
held_line other = other

-- the lines of a text, with numbers held at the cap
abbrev pub held_lines : List ℕ → List Line
held_lines text = map held_line (lines_of text)

-- The line that begins at a place, and the place behind it

pub data Stepped : Type 0 where
  line : Line → ℕ → Stepped
  done : Stepped

-- a rest without a line feed is a line of no form, and the last
unfoldable pub line_at : List ℕ → ℕ → Stepped
unfolding before
line_at text at =
    let rest = drop at text in
    let end = length (before line_feed rest) in
    pick (ltb end (length rest)) (line (held_line (line_of (take end rest))) (at + end + 1)) (line other (length text))

unfoldable pub step_at : List ℕ → ℕ → Stepped
unfolding line_at
step_at text at = pick (ltb at (length text)) (line_at text at) done

-- DIMACS text (document 02, #104): lines that end with a line feed, of tokens parted by single spaces. Forms: `c` alone or before a space and any
-- text; `p edge N M`; `e u v`. Comments stand anywhere; the `p` line stands once, before all `e` lines.
use Rattle.std.specs.Prelude.{Bool, ◌&&◌, false, true, List, [], ◌++◌, ◌∷◌, map, ℕ, eqb, length}
use Rattle.std.proofs.Math.Option.{Option, none, some}
use Rattle.lists.specs.Lists.{concat_map, filter_b, pick, same}
use Rattle.printout.specs.Text.{decimal_of}
use Rattle.edge_file.specs.Decimal.{number_of}

-- Bytes

abbrev pub line_feed : ℕ
line_feed = 10

abbrev pub space : ℕ
space = 32

abbrev pub letter_c : ℕ
letter_c = 99

-- the words `p`, `edge` and `e`
abbrev pub word_p : List ℕ
word_p = 112 ∷ []

abbrev pub word_edge : List ℕ
word_edge = 101 ∷ 100 ∷ 103 ∷ 101 ∷ []

abbrev pub word_e : List ℕ
word_e = 101 ∷ []

-- Parts

abbrev pub cons_first : ℕ → List (List ℕ) → List (List ℕ)
cons_first b [] = (b ∷ []) ∷ []
cons_first b (p ∷ ps) = (b ∷ p) ∷ ps

-- what stands before, between and behind the bytes s; one part more than there are such bytes
unfoldable pub parts_by : ℕ → List ℕ → List (List ℕ)
parts_by s [] = [] ∷ []
parts_by s (b ∷ bytes) = pick (eqb b s) ([] ∷ parts_by s bytes) (cons_first b (parts_by s bytes))

-- Lines

-- two nodes as written
pub record Ends : Type 0 where
  pub one : ℕ
  pub two : ℕ

pub data Line : Type 0 where
  comment : Line
  problem : ℕ → ℕ → Line
  edge : ℕ → ℕ → Line
  -- a line of no form
  other : Line

-- `c` alone, or before a space
unfoldable pub is_comment : List ℕ → Bool
is_comment [] = false
is_comment (b ∷ []) = eqb b letter_c
is_comment (b ∷ d ∷ bytes) = eqb b letter_c && eqb d space

abbrev pub problem_of : Option ℕ → Option ℕ → Line
problem_of none m = other
problem_of (some n) none = other
problem_of (some n) (some m) = problem n m

abbrev pub edge_of : Option ℕ → Option ℕ → Line
edge_of none v = other
edge_of (some u) none = other
edge_of (some u) (some v) = edge u v

-- a line by its tokens
unfoldable pub form_of : List (List ℕ) → Line
unfolding same
form_of (w ∷ u ∷ v ∷ []) = pick (same w word_e) (edge_of (number_of u) (number_of v)) other
form_of (w ∷ x ∷ n ∷ m ∷ []) = pick (same w word_p && same x word_edge) (problem_of (number_of n) (number_of m)) other
form_of [] = other
form_of (w ∷ []) = other
form_of (w ∷ x ∷ []) = other
form_of (w ∷ x ∷ y ∷ z ∷ t ∷ ts) = other

unfoldable pub line_of : List ℕ → Line
unfolding is_comment parts_by form_of
line_of bytes = pick (is_comment bytes) comment (form_of (parts_by space bytes))

-- the lines of the parts between line feeds; behind the last line feed nothing may stand
unfoldable pub lines_in : List (List ℕ) → List Line
unfolding line_of
lines_in [] = []
lines_in ([] ∷ []) = []
lines_in ((b ∷ bytes) ∷ []) = other ∷ []
lines_in (p ∷ q ∷ ps) = line_of p ∷ lines_in (q ∷ ps)

unfoldable pub lines_of : List ℕ → List Line
unfolding parts_by lines_in
lines_of text = lines_in (parts_by line_feed text)

-- The whole text

-- what the text says: the numbers N and M, and the edge lines
pub record Edges : Type 0 where
  pub nodes : ℕ
  pub count : ℕ
  pub edges : List Ends

abbrev pub is_content : Line → Bool
is_content comment = false
is_content (problem n m) = true
is_content (edge u v) = true
is_content other = true

abbrev pub cons_ends : ℕ → ℕ → Option (List Ends) → Option (List Ends)
cons_ends u v none = none
cons_ends u v (some es) = some (record { one = u; two = v } ∷ es)

-- lines that are all edge lines
unfoldable pub edges_alone : List Line → Option (List Ends)
edges_alone [] = some []
edges_alone (edge u v ∷ ls) = cons_ends u v (edges_alone ls)
edges_alone (comment ∷ ls) = none
edges_alone (problem n m ∷ ls) = none
edges_alone (other ∷ ls) = none

abbrev pub edges_with : ℕ → ℕ → Option (List Ends) → Option Edges
edges_with n m none = none
edges_with n m (some es) = some (record { nodes = n; count = m; edges = es })

-- lines without comments: the `p` line, and then edge lines alone; none is check 16
unfoldable pub edges_in : List Line → Option Edges
unfolding edges_alone
edges_in [] = none
edges_in (problem n m ∷ ls) = edges_with n m (edges_alone ls)
edges_in (comment ∷ ls) = none
edges_in (edge u v ∷ ls) = none
edges_in (other ∷ ls) = none

-- what lines say, their comments left out
unfoldable pub edges_by : List Line → Option Edges
unfolding edges_in filter_b
edges_by ls = edges_in (filter_b is_content ls)

unfoldable pub edges_of : List ℕ → Option Edges
unfolding lines_of edges_by
edges_of text = edges_by (lines_of text)

-- Writing, without comments

abbrev pub problem_line : ℕ → ℕ → List ℕ
problem_line n m = word_p ++ (space ∷ (word_edge ++ (space ∷ (decimal_of n ++ (space ∷ decimal_of m)))))

abbrev pub edge_line : Ends → List ℕ
edge_line e = word_e ++ (space ∷ (decimal_of e.one ++ (space ∷ decimal_of e.two)))

abbrev pub with_feed : List ℕ → List ℕ
with_feed line = line ++ (line_feed ∷ [])

unfoldable pub text_of : ℕ → List Ends → List ℕ
unfolding concat_map decimal_of
text_of n es = concat_map with_feed (problem_line n (length es) ∷ map edge_line es)

-- A chart as a list of 1416 words, of which graph with which must rows it is, and how it is made, row by row from the last to the first.
-- Words 0 to 4: the greatest node, the plant, the set of the nodes, the rows of a tree, the rows. From 5 on, for each number up to 32, the nodes that a row joins
-- to it; from 38 on those that a must row does, and at 38 itself all ends of must rows. From 71 on, for each two numbers up to 32, a row below which none joins
-- them. From 1160 on the rows, a word each.
use Rattle.std.specs.Prelude.{◌≡◌, Bool, false, true, List, [], map, ◌*◌, ◌+◌, ◌<◌, ◌≤◌, ◌-◌, ◌/◌, ◌%◌, min, suc, zero, ℕ, eqb, ltb, drop, get_or, length, set}
use Rattle.std.specs.Int.Bits.{bit_or}
use Rattle.lists.specs.Lists.{filter_b, pick, range}
use Rattle.graph.specs.Graph.{Graph}
use Rattle.costs.specs.Layouts.{is_barred, is_must}
use Rattle.costs.specs.Network as net
use Rattle.costs.specs.Network.{Row, no_row}
use Rattle.network_file.specs.File.{network_of, row_start, sizes_of}
use Rattle.states.specs.States.{musts_of, trees_with}
use Rattle.words.specs.Words.{bit, has, up_to}

-- SIZES
abbrev pub limit_in : List ℕ → ℕ
limit_in c = min (get_or c 0 0) 32

abbrev pub plant_in : List ℕ → ℕ
plant_in c = get_or c 1 0 % 256

abbrev pub nodes_in : List ℕ → ℕ
nodes_in c = get_or c 2 0

abbrev pub width_in : List ℕ → ℕ
width_in c = get_or c 3 0

abbrev pub count_in : List ℕ → ℕ
count_in c = min (get_or c 4 0) 256

-- NEIGHBOURS: for each number the nodes that a row joins to it, or that a must row does
unfoldable pub near_in : Bool → List ℕ → List ℕ
near_in must c = drop (pick must 38 5) c

-- where two numbers up to 32 stand
abbrev pub pair_at : ℕ → ℕ → ℕ
pair_at u v = 71 + u * 33 + v

-- a row below which none joins two numbers
unfoldable pub head_in : List ℕ → ℕ → ℕ → ℕ
head_in c u v = pick (ltb 32 u) 0 (pick (ltb 32 v) 0 (get_or c (pair_at u v) 0))

-- ROWS. A row's word has, from the lowest byte on, its two ends, which are 0 where it is barred; in two bytes the next row that joins the same two, or 0; its
-- two ends whatever its state; and its state, 0 open, 1 must, 2 barred.
abbrev pub row_word : ℕ → ℕ → ℕ → ℕ → ℕ → ℕ → ℕ
row_word first second next drawn_first drawn_second state =
    first + second * 256 + next * 65536 + drawn_first * 4294967296 + drawn_second * 1099511627776 + state * 281474976710656

abbrev pub first_part : ℕ → ℕ
first_part w = w % 256

abbrev pub second_part : ℕ → ℕ
second_part w = w / 256 % 256

abbrev pub next_part : ℕ → ℕ
next_part w = w / 65536 % 65536

abbrev pub drawn_first_part : ℕ → ℕ
drawn_first_part w = w / 4294967296 % 256

abbrev pub drawn_second_part : ℕ → ℕ
drawn_second_part w = w / 1099511627776 % 256

abbrev pub state_part : ℕ → ℕ
state_part w = w / 281474976710656

-- an end of a row by its word; of a must row, and 0 for every other
abbrev pub end_by : Bool → ℕ → ℕ → ℕ
end_by must w end = pick must (pick (eqb (state_part w) 1) end 0) end

unfoldable pub words_in : List ℕ → List ℕ
words_in c = map (λ r. get_or c (1160 + r) 0) (range 0 (count_in c))

unfoldable pub firsts_in : Bool → List ℕ → List ℕ
unfolding words_in
firsts_in must c = map (λ w. end_by must w (first_part w)) (words_in c)

unfoldable pub seconds_in : Bool → List ℕ → List ℕ
unfolding words_in
seconds_in must c = map (λ w. end_by must w (second_part w)) (words_in c)

-- the next row above r that joins the same two nodes; 0 where there is none
unfoldable pub next_in : List ℕ → ℕ → ℕ
unfolding words_in
next_in c r = next_part (get_or (words_in c) r 0)

-- the rows themselves, barred or not, without their streets and their costs
abbrev pub state_by : ℕ → net.State
state_by s = pick (eqb s 2) net.barred (pick (eqb s 1) net.must net.«open»)

abbrev pub bare_row : ℕ → ℕ → ℕ → Row
bare_row a b s = record { first_end = a; second_end = b; street = 0; state = state_by s; costs = [] }

abbrev pub row_by : ℕ → Row
row_by w = bare_row (drawn_first_part w) (drawn_second_part w) (state_part w)

unfoldable pub rows_in : List ℕ → List Row
unfolding words_in
rows_in c = map row_by (words_in c)

-- THE GRAPH, and its trees with all must rows
abbrev pub graph_in : List ℕ → Graph
graph_in c = record { plant = plant_in c; nodes = filter_b (has (nodes_in c)) (range 1 (limit_in c)); first_ends = firsts_in false c; second_ends = seconds_in false c }

abbrev pub musts_in : List ℕ → List ℕ
musts_in c = musts_of (firsts_in true c)

abbrev pub list_in : List ℕ → List (List ℕ)
list_in c = trees_with (graph_in c) (musts_in c)

-- HOW IT IS MADE

-- nothing is entered yet; what the sizes and the rows' words are does not matter
pub record Blank (c : List ℕ) : Type 0 where
  pub long : length c ≡ 1416
  pub zeros : (i : ℕ) → 5 ≤ i → i < 1160 → get_or c i 0 ≡ 0

-- the sizes are written
unfoldable pub begun_by : List ℕ → ℕ → ℕ → ℕ → ℕ → ℕ → List ℕ
begun_by c limit plant nodes width count = set (set (set (set (set c 0 limit) 1 plant) 2 nodes) 3 width) 4 count

-- v becomes a neighbour of u in the words from a place on
unfoldable pub joined_by : List ℕ → ℕ → ℕ → ℕ → List ℕ
joined_by c at u v = set c (at + u) (bit_or (get_or c (at + u) 0) (bit v))

-- Row r joins a and b: each is a neighbour of the other, the row is the first of both, and what was the first is the next.
unfoldable pub linked_by : List ℕ → ℕ → ℕ → ℕ → ℕ → List ℕ
unfolding joined_by
linked_by c r a b state =
    let next = get_or c (pair_at a b) 0 % 65536 in
    let near = joined_by (joined_by c 5 a b) 5 b a in
    set (set (set near (pair_at a b) r) (pair_at b a) r) (1160 + r) (row_word a b next a b state)

-- a must row joins a and b
unfoldable pub claimed_by : List ℕ → ℕ → ℕ → List ℕ
unfolding joined_by
claimed_by c a b = joined_by (joined_by (joined_by (joined_by c 38 a b) 38 b a) 38 0 a) 38 0 b

-- row r by its state; what has no place in a chart is left out
unfoldable pub entered_by : List ℕ → ℕ → Row → List ℕ
unfolding linked_by claimed_by
entered_by c r row =
    let a = row.first_end in
    let b = row.second_end in
    pick (ltb 255 r) c (pick (ltb 32 a) c (pick (ltb 32 b) c
    (pick (is_barred row.state) (set c (1160 + r) (row_word 0 0 0 a b 2))
    (pick (is_must row.state) (claimed_by (linked_by c r a b 1) a b) (linked_by c r a b 0)))))

-- the first r rows, from the last down
unfoldable pub entered_down : List Row → ℕ → List ℕ → List ℕ
unfolding entered_by
entered_down rows zero c = c
entered_down rows (suc r) c = entered_down rows r (entered_by c r (get_or rows r no_row))

-- a file has its first r rows, which have a place in a chart and end at a place of the file
pub record HasRows (f : List ℕ) (r end : ℕ) : Type 0 where
  pub within : r ≤ (sizes_of f).m
  pub few : r ≤ 256
  pub start : end ≡ row_start f r
  pub long : end ≤ length f

-- of a network file: the nodes 1 to n with the plant 1, and as many rows as there are places
unfoldable pub file_chart_on : List ℕ → List ℕ → List ℕ
unfolding begun_by entered_down
file_chart_on f c =
    entered_down (network_of f).rows (min (sizes_of f).m 256) (begun_by c (sizes_of f).n 1 (up_to (sizes_of f).n) ((sizes_of f).n - 1) (sizes_of f).m)

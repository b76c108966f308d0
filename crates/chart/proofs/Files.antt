-- The chart of a network file: what the code's loops do (`file_start`, `file_turn`, `has_turn`), and that the chart of an accepted file is right (`file_charts`) and
-- of its network (`file_graph`, `file_musts`, `file_list`).
use mathlib.Core.Path.{◌∙◌, ◌≡◌, ap, ap₂, refl, sym}
use mathlib.Core.Bool.{false, true}
use mathlib.Core.List.{List, [], map}
use Prim.Native.Nat.{◌*◌, ◌+◌, ◌-◌, ◌<◌, ◌≤◌, min, suc, zero, ℕ}
use native.Mathlib.Nat.{suc-mul}
use native.Mathlib.Omega.{arith}
use lib.Dec.{eqb}
use lib.ListN.{get_or, length}
use borrow.Author.Tests.{ne_eqb}
use Rattle.lists.specs.Lists.{filter_b, pick, range}
use Rattle.lists.proofs.Members.{filter_whole, range_out}
use Rattle.lists.proofs.Ranges.{range_length}
use Rattle.costs.specs.Layouts.{layouts, must_rows, open_graph}
use Rattle.costs.specs.Network.{Row, no_row, row_at}
use Rattle.costs.proofs.Networks.{network_formed}
use Rattle.fields.specs.Fields.{row_with}
use Rattle.fields.specs.declared.Row as code
use Rattle.network_file.specs.File.{byte_at, network_of, row_bytes, row_in, sizes_of, state_byte, state_of, state_or, state_width, version}
use Rattle.network_file.proofs.Accepted.{Accepted, EndsIn, row_in_lem, rows_length}
use Rattle.states.specs.States.{musts_of, trees_with}
use Rattle.states.proofs.Open.{layouts_with, musts_of_lem}
use Rattle.words.proofs.Words.{up_has}
use Rattle.words.specs.Words.{has, up_to}
use Rattle.chart.specs.Chart.{Blank, HasRows, bare_row, begun_by, count_in, entered_by, entered_down, file_chart_on, graph_in, limit_in, list_in, musts_in, nodes_in, plant_in, rows_in, state_by, width_in}
use Rattle.chart.proofs.Charts.{Charts}
use Rattle.chart.proofs.Entered.{bare}
use Rattle.chart.proofs.Made.{Chartable, chart_by, count_made, graph_made, limit_made, made_charts, must_firsts_made, nodes_made, plant_made, rows_made, width_made}

-- The code's loops

module _ (f : List ℕ) where
  pub file_start : (c d : List ℕ) (n m word width r : ℕ) → n ≡ (sizes_of f).n → m ≡ (sizes_of f).m → word ≡ up_to n → width ≡ n - 1
      → d ≡ begun_by c n 1 word width m → r ≡ min m 256 → file_chart_on f c ≡ entered_down (network_of f).rows r d
  unfolding file_chart_on
  file_start c d n m word width r p q e w begun count = rw (count, begun, e, w, p, q)

  -- the last of r rows is entered
  rows_turn : (c : List ℕ) (r : ℕ) → 0 < r → entered_down (network_of f).rows r c ≡ entered_down (network_of f).rows (r - 1) (entered_by c (r - 1) (row_at (network_of f) (r - 1)))
  unfolding entered_down
  rows_turn c r p = let up : r ≡ suc (r - 1) = omega arith in ap (λ (k : ℕ). entered_down (network_of f).rows k c) up

  -- by its ends and its state
  pub file_turn : (c : List ℕ) (r : ℕ) (row : code.Row) → 0 < r → row_with row (row_at (network_of f) (r - 1)).costs ≡ row_at (network_of f) (r - 1)
      → entered_down (network_of f).rows r c ≡ entered_down (network_of f).rows (r - 1) (entered_by c (r - 1) (row_with row []))
  unfolding entered_by
  file_turn c r row p read = rows_turn c r p ∙ ap (λ (x : Row). entered_down (network_of f).rows (r - 1) (entered_by c (r - 1) x)) (sym read)

-- the state that a byte names, open where it names none, is that of the number
state_named_lem : (b : ℕ) → state_or (state_of b) ≡ state_by b
unfolding state_of
state_named_lem zero = refl
state_named_lem (suc zero) = refl
state_named_lem (suc (suc zero)) = refl
state_named_lem (suc (suc (suc b))) =
    let other : (i : ℕ) → i ≤ 2 → eqb (suc (suc (suc b))) i ≡ false = λ i l. ne_eqb (suc (suc (suc b))) i (λ e. omega arith) in
    rw (other 0 (omega arith), other 1 (omega arith), other 2 (omega arith))

-- A file that has its first r rows, read in place from the last down
module _ {f : List ℕ} {r end step : ℕ} (has : HasRows f r end) (some : 0 < r) (bytes : step ≡ row_bytes f) where
  one_less : r * row_bytes f ≡ (r - 1) * row_bytes f + row_bytes f
  one_less = let up : r ≡ suc (r - 1) = omega arith in ap (λ (k : ℕ). k * row_bytes f) up ∙ suc-mul (r - 1) (row_bytes f)

  -- the last has its bytes
  pub has_bytes : step ≤ end
  has_bytes = omega (arith, has.start, one_less)

  pub has_less : HasRows f (r - 1) (end - step)
  has_less = record {
    within = omega (arith, has.within);
    few = omega (arith, has.few);
    start = omega (arith, has.start, one_less);
    long = omega (arith, has.long);
  }

  -- in version 2 a state byte among them
  pub has_stated : eqb (version f) 2 ≡ true → end - step + 4 < length f
  unfolding state_width
  has_stated two = let one : state_width f ≡ 1 = rw two in omega (arith, has.long, has_bytes, bytes)

  -- and is entered by them
  pub has_turn : (c : List ℕ) (state : ℕ) → state ≡ pick (eqb (version f) 2) (byte_at f (end - step + 4)) 0
      → entered_down (network_of f).rows r c
      ≡ entered_down (network_of f).rows (r - 1) (entered_by c (r - 1) (bare_row (byte_at f (end - step)) (byte_at f (end - step + 1)) state))
  unfolding entered_by row_in state_byte
  has_turn c state e = rows_turn f c r some ∙ rw (row_in_lem f (r - 1) (omega (arith, has.within)), e, has_less.start, state_named_lem)

-- An accepted file, and an empty chart

module _ (f : List ℕ) (a : Accepted f) where
  abbrev n : ℕ
  n = (sizes_of f).n

  abbrev rows : List Row
  rows = (network_of f).rows

  row_ends : (r : ℕ) → r < length rows → EndsIn n (get_or rows r no_row)
  row_ends r k = let known : r < (sizes_of f).m = omega (arith, rows_length f) in rw (row_in_lem f r known) (a.ends r known)

  all_nodes_lem : filter_b (has (up_to n)) (range 1 n) ≡ range 1 n
  all_nodes_lem = filter_whole (has (up_to n)) (range 1 n) (λ v i. let l = range_out 1 n i in (up_has n v (omega (arith, a.nodes_high))).1 (l.0, omega arith))

  pub file_chartable : Chartable (network_of f).rows (sizes_of f).n 1 (up_to (sizes_of f).n) ((sizes_of f).n - 1)
  file_chartable = record {
    few = omega (arith, rows_length f, a.rows_high);
    first_high = λ r k. omega (arith, (row_ends r k).first_high, a.nodes_high);
    second_high = λ r k. omega (arith, (row_ends r k).second_high, a.nodes_high);
    limit_high = a.nodes_high;
    members = λ v t. (up_has n v (omega (arith, a.nodes_high))).0 t;
    plant_in_lem = (up_has n 1 (omega (arith, a.nodes_high))).1 (omega arith, omega (arith, a.nodes_low));
    wide = rw (all_nodes_lem, range_length 1 n) (omega (arith, a.nodes_low));
  }

  module _ (c : List ℕ) (empty : Blank c) where
    -- all rows have a place
    file_made : file_chart_on f c ≡ chart_by c rows n 1 (up_to n) (n - 1)
    unfolding file_chart_on
    file_made =
        let all : min (sizes_of f).m 256 ≡ length rows = omega (arith, rows_length f, a.rows_high) in
        rw (all, ← rows_length f)

    pub file_charts : Charts (file_chart_on f c)
    file_charts = rw file_made (made_charts file_chartable c empty)

    pub file_limit : limit_in (file_chart_on f c) ≡ (sizes_of f).n
    file_limit = rw file_made (limit_made file_chartable c empty)

    pub file_plant : plant_in (file_chart_on f c) ≡ 1
    file_plant = rw file_made (plant_made file_chartable c empty)

    pub file_nodes : nodes_in (file_chart_on f c) ≡ up_to (sizes_of f).n
    file_nodes = rw file_made (nodes_made file_chartable c empty)

    pub file_width : width_in (file_chart_on f c) ≡ (sizes_of f).n - 1
    file_width = rw file_made (width_made file_chartable c empty)

    pub file_count : count_in (file_chart_on f c) ≡ (sizes_of f).m
    file_count = rw file_made (count_made file_chartable c empty) ∙ rows_length f

    -- its rows are the network's
    pub file_rows : rows_in (file_chart_on f c) ≡ map bare (network_of f).rows
    file_rows = rw file_made (rows_made file_chartable c empty)

    -- its graph is that without the barred rows, with the must rows
    pub file_graph : graph_in (file_chart_on f c) ≡ open_graph (network_of f)
    unfolding network_of
    file_graph = ap graph_in file_made ∙ graph_made file_chartable c empty ∙ rw all_nodes_lem

    pub file_musts : musts_in (file_chart_on f c) ≡ must_rows (network_of f)
    file_musts = ap musts_in file_made ∙ ap musts_of (must_firsts_made file_chartable c empty)
        ∙ musts_of_lem (network_of f) (λ r k e. omega (arith, (row_ends r k).first_low))

    -- and its list that of the network's own trees
    pub file_list : list_in (file_chart_on f c) ≡ layouts (network_of f)
    unfolding network_of
    file_list = ap₂ trees_with file_graph file_musts ∙ sym (layouts_with (network_of f) (network_formed (network_of f) (omega (arith, a.nodes_low))))

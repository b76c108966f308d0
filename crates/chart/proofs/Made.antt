-- A chart that is made from a list of rows (`Chartable`) is right (`made_charts`): its graph is that of the rows that are not barred (`graph_made`), and it has the ends of the
-- must rows (`must_firsts_made`, `must_seconds_made`) and the rows themselves (`rows_made`). The rows are entered from the last down (`down`).
use mathlib.Core.Path.{◌∙◌, ◌≡◌, ap, refl, subst, sym}
use mathlib.Core.Bool.{Bool, false, true}
use mathlib.Core.List.{List, map}
use Prim.Native.Nat.{◌+◌, ◌<◌, ◌≤◌, suc, zero, ℕ}
use native.Mathlib.Decide.{ℕ_discrete}
use native.Mathlib.Omega.{arith}
use lib.Dec.{T}
use lib.ListN.{get_or, get_or-replicate, length, length-map, length-replicate, length-set, replicate, set}
use lib.Seq.{ext_get_or, get_or-set_other, get_or-set_same}
use borrow.Author.Tests.{le-ltb}
use Rattle.lists.specs.Lists.{filter_b, range}
use Rattle.lists.proofs.Distinct.{filter_distinct, range_distinct}
use Rattle.lists.proofs.Maps.{map_at}
use Rattle.lists.proofs.Members.{◌∈◌, filter_in, filter_out, range_in}
use Rattle.graph.specs.Graph.{Graph}
use Rattle.graph.proofs.Growth.{Joins}
use Rattle.graph.proofs.Masked.{ends_as}
use Rattle.graph.proofs.Minimal.{WellFormed}
use Rattle.costs.specs.Layouts.{must_end, open_end}
use Rattle.costs.specs.Network.{Row, no_row}
use Rattle.words.specs.Words.{has}
use Rattle.words.proofs.Words.{has_zero}
use Rattle.chart.specs.Chart.{Blank, begun_by, count_in, entered_by, entered_down, firsts_in, graph_in, head_in, limit_in}
use Rattle.chart.specs.Chart.{near_in, next_in, nodes_in, pair_at, plant_in, row_by, rows_in, seconds_in, width_in, words_in}
use Rattle.chart.proofs.Charts.{Charted, Charts, NextRow, must_graph_in}
use Rattle.chart.proofs.Entered.{Nodal, Stated, Worded, bare, entered, entered_row}
use Rattle.chart.proofs.Laws.{first_at, near_at, row_here, rows_length, second_at, word_here, words_length}
use Rattle.chart.proofs.Right.{Right, right_more}

-- a chart can be made of these rows, with `nodes` some of 1 to `limit`, the plant among them
pub record Chartable (rows : List Row) (limit plant nodes width : ℕ) : Type 0 where
  pub few : length rows ≤ 256
  pub first_high : (r : ℕ) → r < length rows → (get_or rows r no_row).first_end ≤ 32
  pub second_high : (r : ℕ) → r < length rows → (get_or rows r no_row).second_end ≤ 32
  pub limit_high : limit ≤ 32
  pub members : (v : ℕ) → T (has nodes v) → (1 ≤ v) × (v ≤ limit)
  pub plant_in_lem : T (has nodes plant)
  pub wide : suc width ≡ length (filter_b (has nodes) (range 1 limit))

pub blank : Blank (replicate 1416 0)
blank = record { long = length-replicate {A = ℕ} 1416 0; zeros = λ i h l. get_or-replicate {A = ℕ} 1416 i 0 0 (omega arith) }

-- The sizes are written, and all else is as before

pub record Begun (c d : List ℕ) (limit plant nodes width count : ℕ) : Type 0 where
  pub long : length d ≡ 1416
  pub limit_at : get_or d 0 0 ≡ limit
  pub plant_at : get_or d 1 0 ≡ plant
  pub nodes_at : get_or d 2 0 ≡ nodes
  pub width_at : get_or d 3 0 ≡ width
  pub count_at : get_or d 4 0 ≡ count
  pub other : (i : ℕ) → 5 ≤ i → get_or d i 0 ≡ get_or c i 0

begins : (c : List ℕ) (limit plant nodes width count : ℕ) → length c ≡ 1416 → Begun c (begun_by c limit plant nodes width count) limit plant nodes width count
unfolding begun_by
begins c limit plant nodes width count long =
    let one = set c 0 limit in
    let two = set one 1 plant in
    let three = set two 2 nodes in
    let four = set three 3 width in
    let long_1 = length-set c 0 limit ∙ long in
    let long_2 = length-set one 1 plant ∙ long_1 in
    let long_3 = length-set two 2 nodes ∙ long_2 in
    let long_4 = length-set three 3 width ∙ long_3 in
    let past_4 : (i : ℕ) → ¬ (i ≡ 4) → get_or (set four 4 count) i 0 ≡ get_or four i 0 = λ i d. get_or-set_other four 4 i count 0 d in
    let past_3 : (i : ℕ) → ¬ (i ≡ 3) → get_or four i 0 ≡ get_or three i 0 = λ i d. get_or-set_other three 3 i width 0 d in
    let past_2 : (i : ℕ) → ¬ (i ≡ 2) → get_or three i 0 ≡ get_or two i 0 = λ i d. get_or-set_other two 2 i nodes 0 d in
    let past_1 : (i : ℕ) → ¬ (i ≡ 1) → get_or two i 0 ≡ get_or one i 0 = λ i d. get_or-set_other one 1 i plant 0 d in
    record {
      long = length-set four 4 count ∙ long_4;
      limit_at = past_4 0 (omega arith) ∙ past_3 0 (omega arith) ∙ past_2 0 (omega arith) ∙ past_1 0 (omega arith) ∙ get_or-set_same c 0 limit 0 (omega arith);
      plant_at = past_4 1 (omega arith) ∙ past_3 1 (omega arith) ∙ past_2 1 (omega arith) ∙ get_or-set_same one 1 plant 0 (omega arith);
      nodes_at = past_4 2 (omega arith) ∙ past_3 2 (omega arith) ∙ get_or-set_same two 2 nodes 0 (omega arith);
      width_at = past_4 3 (omega arith) ∙ get_or-set_same three 3 width 0 (omega arith);
      count_at = get_or-set_same four 4 count 0 (omega arith);
      other = λ i h. past_4 i (omega arith) ∙ past_3 i (omega arith) ∙ past_2 i (omega arith) ∙ past_1 i (omega arith) ∙ get_or-set_other c 0 i limit 0 (omega arith);
    }

-- the graph of the rows without the barred ones, and that of the must rows
abbrev pub graph_by : List Row → ℕ → ℕ → ℕ → Graph
graph_by rows limit plant nodes = record {
  plant = plant;
  nodes = filter_b (has nodes) (range 1 limit);
  first_ends = map (λ row. open_end row row.first_end) rows;
  second_ends = map (λ row. open_end row row.second_end) rows;
}

abbrev pub must_graph_by : List Row → ℕ → ℕ → ℕ → Graph
must_graph_by rows limit plant nodes =
    ends_as (graph_by rows limit plant nodes) (map (λ row. must_end row row.first_end) rows) (map (λ row. must_end row row.second_end) rows)

-- what is made of an empty chart
abbrev pub chart_by : List ℕ → List Row → ℕ → ℕ → ℕ → ℕ → List ℕ
chart_by c rows limit plant nodes width = entered_down rows (length rows) (begun_by c limit plant nodes width (length rows))

module _ {rows : List Row} {limit plant nodes width : ℕ} (able : Chartable rows limit plant nodes width) (c₀ : List ℕ) (empty : Blank c₀) where
  abbrev g : Graph
  g = graph_by rows limit plant nodes

  abbrev h : Graph
  h = must_graph_by rows limit plant nodes

  abbrev begun : List ℕ
  begun = begun_by c₀ limit plant nodes width (length rows)

  start : Begun c₀ begun limit plant nodes width (length rows)
  start = begins c₀ limit plant nodes width (length rows) empty.long

  g_length : length g.first_ends ≡ length rows
  g_length = length-map rows (λ (row : Row). open_end row row.first_end)

  h_length : length h.first_ends ≡ length rows
  h_length = length-map rows (λ (row : Row). must_end row row.first_end)

  stated : (r : ℕ) → r < length rows → Stated g h r (get_or rows r no_row)
  stated r k = record {
    first = map_at (λ row. open_end row row.first_end) rows r no_row 0 k;
    second = map_at (λ row. open_end row row.second_end) rows r no_row 0 k;
    must_first = map_at (λ row. must_end row row.first_end) rows r no_row 0 k;
    must_second = map_at (λ row. must_end row row.second_end) rows r no_row 0 k;
    first_high = able.first_high r k;
    second_high = able.second_high r k;
  }

  -- before the first row is entered there is none
  right_start : Right g h begun begun (length rows)
  right_start = record {
    long = start.long;
    sizes = λ i l. refl;
    near = λ u v m n. (λ t. absurd (rw (zero_at (5 + u) (omega arith) (omega arith), has_zero) at t), λ (q, l, k, j). absurd (omega (arith, g_length)));
    must_near = λ u v m n. (λ t. absurd (rw (zero_at (38 + u) (omega arith) (omega arith), has_zero) at t), λ (q, l, k, j). absurd (omega (arith, h_length)));
    must_ends = λ u v q n l k j. absurd (omega (arith, h_length));
    heads = λ u v m n. rw (zero_at (pair_at u v) (omega arith) (omega arith)) (record {
      none = λ p e q l k. absurd (omega (arith, g_length));
      low = λ p. absurd (omega arith);
      known = λ p. absurd (omega arith);
      joined = λ p. absurd (omega arith);
      before = λ q l k. absurd (omega arith);
    });
    words = λ q l k. absurd (omega (arith, g_length));
    next = λ q u v l k. absurd (omega (arith, g_length));
  }
    where
      zero_at : (i : ℕ) → 5 ≤ i → i < 1160 → get_or begun i 0 ≡ 0
      zero_at i l k = start.other i l ∙ empty.zeros i l k

  -- with row r entered
  more : (r : ℕ) → r < length rows → (c : List ℕ) → Right g h begun c (suc r) → Right g h begun (entered_by c r (get_or rows r no_row)) r
  more r k c right = right_more (omega (arith, g_length, able.few)) (omega (arith, g_length, h_length)) (omega (arith, g_length)) right
      (entered g h c r (get_or rows r no_row) right.long (omega (arith, able.few)) (stated r k))

  down : (r : ℕ) → r ≤ length rows → (c : List ℕ) → Right g h begun c r → Right g h begun (entered_down rows r c) 0
  unfolding entered_down
  down zero l c right = right
  down (suc r) l c right = down r (omega arith) _ (more r (omega arith) c right)

  abbrev chart : List ℕ
  chart = chart_by c₀ rows limit plant nodes width

  right : Right g h begun chart 0
  right = down (length rows) (omega arith) begun right_start

  -- THE SIZES
  plant_low : plant ≤ 32
  plant_low = omega (arith, (able.members plant able.plant_in_lem).1, able.limit_high)

  pub limit_made : limit_in (chart_by c₀ rows limit plant nodes width) ≡ limit
  limit_made = omega (arith, right.sizes 0 (omega arith), start.limit_at, able.limit_high)

  pub plant_made : plant_in (chart_by c₀ rows limit plant nodes width) ≡ plant
  plant_made = omega (arith, right.sizes 1 (omega arith), start.plant_at, plant_low)

  pub nodes_made : nodes_in (chart_by c₀ rows limit plant nodes width) ≡ nodes
  nodes_made = right.sizes 2 (omega arith) ∙ start.nodes_at

  pub width_made : width_in (chart_by c₀ rows limit plant nodes width) ≡ width
  width_made = right.sizes 3 (omega arith) ∙ start.width_at

  pub count_made : count_in (chart_by c₀ rows limit plant nodes width) ≡ length rows
  count_made = omega (arith, right.sizes 4 (omega arith), start.count_at, able.few)

  -- THE ROWS
  worded : (r : ℕ) → r < length rows → Worded g h r (get_or (words_in chart) r 0)
  worded r k = rw (← word_here chart r (omega (arith, count_made))) (right.words r (omega arith) (omega (arith, g_length)))

  firsts_length : (must : Bool) → length (firsts_in must chart) ≡ length rows
  unfolding firsts_in
  firsts_length must = length-map (words_in chart) _ ∙ words_length chart ∙ count_made

  seconds_length : (must : Bool) → length (seconds_in must chart) ≡ length rows
  unfolding seconds_in
  seconds_length must = length-map (words_in chart) _ ∙ words_length chart ∙ count_made

  pub firsts_made : firsts_in false (chart_by c₀ rows limit plant nodes width) ≡ map (λ row. open_end row row.first_end) rows
  firsts_made = ext_get_or 0 (firsts_in false chart) _ (firsts_length false ∙ sym (length-map rows _))
      (λ i k. sym (first_at chart i false) ∙ (worded i (omega (arith, firsts_length false))).first)

  pub seconds_made : seconds_in false (chart_by c₀ rows limit plant nodes width) ≡ map (λ row. open_end row row.second_end) rows
  seconds_made = ext_get_or 0 (seconds_in false chart) _ (seconds_length false ∙ sym (length-map rows _))
      (λ i k. sym (second_at chart i false) ∙ (worded i (omega (arith, seconds_length false))).second)

  pub must_firsts_made : firsts_in true (chart_by c₀ rows limit plant nodes width) ≡ map (λ row. must_end row row.first_end) rows
  must_firsts_made = ext_get_or 0 (firsts_in true chart) _ (firsts_length true ∙ sym (length-map rows _))
      (λ i k. sym (first_at chart i true) ∙ (worded i (omega (arith, firsts_length true))).must_first)

  pub must_seconds_made : seconds_in true (chart_by c₀ rows limit plant nodes width) ≡ map (λ row. must_end row row.second_end) rows
  must_seconds_made = ext_get_or 0 (seconds_in true chart) _ (seconds_length true ∙ sym (length-map rows _))
      (λ i k. sym (second_at chart i true) ∙ (worded i (omega (arith, seconds_length true))).must_second)

  pub graph_made : graph_in (chart_by c₀ rows limit plant nodes width) ≡ graph_by rows limit plant nodes
  graph_made = rw (limit_made, plant_made, nodes_made, firsts_made, seconds_made)

  pub must_graph_made : must_graph_in (chart_by c₀ rows limit plant nodes width) ≡ must_graph_by rows limit plant nodes
  must_graph_made = rw (limit_made, plant_made, nodes_made, must_firsts_made, must_seconds_made)

  -- and the rows themselves, without their streets and their costs
  rows_down : (r : ℕ) → r ≤ length rows → (c : List ℕ) → Right g h begun c r
      → ((q : ℕ) → r ≤ q → q < length rows → row_by (get_or c (1160 + q) 0) ≡ bare (get_or rows q no_row))
      → (q : ℕ) → q < length rows → row_by (get_or (entered_down rows r c) (1160 + q) 0) ≡ bare (get_or rows q no_row)
  unfolding entered_down
  rows_down zero l c right old q k = old q (omega arith) k
  rows_down (suc r) l c right old q k =
      let row = get_or rows r no_row in
      let new = entered g h c r row right.long (omega (arith, able.few)) (stated r (omega arith)) in
      rows_down r (omega arith) _ (more r (omega arith) c right)
      (λ q l k. elim (ℕ_discrete q r) [
        | yes e ↦ rw e (entered_row g h c r row right.long (omega (arith, able.few)) (stated r (omega arith)))
        | no d ↦ rw (new.linked.words q d) (old q (omega arith) k)
      ]) q k

  pub rows_made : rows_in (chart_by c₀ rows limit plant nodes width) ≡ map bare rows
  rows_made = ext_get_or no_row (rows_in chart) _ (rows_length chart ∙ count_made ∙ sym (length-map rows bare))
      (λ i k.
      let low : i < length rows = omega (arith, rows_length chart, count_made) in
      sym (row_here chart i) ∙ ap row_by (sym (word_here chart i (omega (arith, count_made))))
      ∙ rows_down (length rows) (omega arith) begun right_start (λ q l k. absurd (omega arith)) i low
      ∙ sym (map_at bare rows i no_row no_row low))

  -- THE WORDS, for the nodes of the graph

  node_in : (v : ℕ) → T (has nodes v) → v ∈ g.nodes
  node_in v t = let l = able.members v t in filter_in (has nodes) (range_in 1 limit v l.0 (omega arith)) t

  node_out : (v : ℕ) → v ∈ g.nodes → T (has nodes v)
  node_out v i = (filter_out (has nodes) (range 1 limit) i).1

  nodal : (v : ℕ) → v ∈ g.nodes → Nodal v
  nodal v i = let l = able.members v (node_out v i) in (l.0, omega (arith, able.limit_high))

  formed : WellFormed g
  formed = record {
    once = filter_distinct (has nodes) (range 1 limit) (range_distinct 1 limit);
    plant = node_in plant able.plant_in_lem;
    no_zero = λ i. omega (arith, (nodal 0 i).0);
  }

  any_charted : Charted g (near_in false chart) limit
  any_charted = record {
    formed = formed;
    low = λ v i. (able.members v (node_out v i)).1;
    small = omega (arith, able.limit_high);
    joined = λ u v i j. let (f, t) = right.near u v (nodal u i) (nodal v j) in rw (← near_at chart false u) (
      λ s. let (r, l, k, j) = f s in (r, k, j),
      λ (r, k, j). t (r, omega arith, k, j),
    );
  }

  must_charted : Charted h (near_in true chart) limit
  must_charted = record {
    formed = record { once = formed.once; plant = formed.plant; no_zero = formed.no_zero };
    low = any_charted.low;
    small = any_charted.small;
    joined = λ u v i j. let (f, t) = right.must_near u v (nodal u i) (nodal v j) in rw (← near_at chart true u) (
      λ s. let (r, l, k, j) = f s in (r, k, j),
      λ (r, k, j). t (r, omega arith, k, j),
    );
  }

  must_ends : (u v r : ℕ) → v ∈ h.nodes → r < length h.first_ends → Joins h r u v → T (has (get_or (near_in true chart) 0 0) v)
  must_ends u v r i k j = rw (← near_at chart true 0) (right.must_ends u v r (nodal v i) (omega arith) k j)

  headed : (u v r : ℕ) → u ∈ g.nodes → v ∈ g.nodes → r < head_in chart u v → ¬ Joins g r u v
  unfolding head_in
  headed u v r i j l =
      let m = nodal u i in
      let n = nodal v j in
      (right.heads u v m n).before r (omega arith) (simp (le-ltb 32 u m.1, le-ltb 32 v n.1) at l)

  next : (r u v : ℕ) → u ∈ g.nodes → v ∈ g.nodes → r < length g.first_ends → Joins g r u v → NextRow g r (next_in chart r) u v
  unfolding next_in
  next r u v i j k o = rw (← word_here chart r (omega (arith, count_made, g_length))) (right.next r u v (omega arith) k (nodal u i) (nodal v j) o)

  -- MADE: the chart is right
  pub made_charts : Charts (chart_by c₀ rows limit plant nodes width)
  made_charts = record {
    charted = rw (graph_made, limit_made) any_charted;
    must_charted = rw (must_graph_made, limit_made) must_charted;
    must_ends = subst (λ (x : Graph). (u v r : ℕ) → v ∈ x.nodes → r < length x.first_ends → Joins x r u v → T (has (get_or (near_in true chart) 0 0) v))
        (sym must_graph_made) must_ends;
    headed = subst (λ (x : Graph). (u v r : ℕ) → u ∈ x.nodes → v ∈ x.nodes → r < head_in chart u v → ¬ Joins x r u v) (sym graph_made) headed;
    next = subst (λ (x : Graph). (r u v : ℕ) → u ∈ x.nodes → v ∈ x.nodes → r < length x.first_ends → Joins x r u v → NextRow x r (next_in chart r) u v)
        (sym graph_made) next;
    all = λ v. rw (nodes_made, limit_made) (node_in v, node_out v);
    wide = rw (width_made, nodes_made, limit_made) able.wide;
  }

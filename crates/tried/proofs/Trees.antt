-- What trying drawn rows comes to, in a chart whose rows a chart can be made of (`Chartable`): the chart of the drawn rows alone is right and of their graph (`only_graph`),
-- so the path grown over it has all its steps exactly if they are a spanning tree (`tried_tree`), and is then the tree's minimal path (`tried_path`); every row keeps its
-- state exactly if all must rows are drawn and no barred row (`kept_states`). So trying rows is checks 8, 9, 10 and 15 (`tried_checks_lem`).
use mathlib.Core.Path.{◌∙◌, ◌≡◌, ap, ap₂, refl, subst, sym}
use mathlib.Core.Logic.{⊎_elim}
use mathlib.Core.Bool.{Bool, false, not, true}
use mathlib.Core.Option.{Option, some}
use mathlib.Core.List.{List, [], ◌++◌, ◌∷◌, map}
use Prim.Native.Nat.{◌<◌, pred, suc, ℕ}
use native.Mathlib.Omega.{arith}
use lib.Dec.{T, T_not, eqb, eqb→eq, ltb, ltb→lt, not_T}
use lib.ListN.{get_or, length, length-map, replicate}
use lib.Seq.{ext_get_or}
use Rattle.lists.specs.Lists.{all, filter_b, has_all, member, pick, range}
use Rattle.lists.proofs.Maps.{map_at}
use Rattle.lists.proofs.Members.{◌∈◌, all_in, all_out, filter_in, filter_none, filter_out, has_all_in, has_all_out, member_in, member_out, range_in, range_out}
use Rattle.lists.proofs.Tests.{T-both, T_false, T-same, T_true, decide, eq→eqb, pick_elim}
use Rattle.graph.specs.Graph.{Graph, is_tree, row_numbers}
use Rattle.graph.specs.Paths.{Key, and_then, path_of, steps}
use Rattle.graph.proofs.Growth.{start}
use Rattle.graph.proofs.Minimal.{WellFormed}
use Rattle.graph.proofs.Walk.{Leasts}
use Rattle.checks.specs.Checks.{Outcome, answered, checked, first_unmet}
use Rattle.costs.specs.Layouts.{is_barred, is_must, keeps_states, must_at, must_end, must_rows, open_end}
use Rattle.costs.specs.Network.{Network, Row, State, graph_of, no_row}
use Rattle.states.specs.States.{must_row, musts_of}
use Rattle.states.proofs.With.{begun_start}
use Rattle.words.specs.Words.{has}
use Rattle.paths.specs.Path.{entered_by}
use Rattle.chart.specs.Chart.{count_in, firsts_in, graph_in, limit_in, musts_in, nodes_in, plant_in, rows_in, width_in}
use Rattle.chart.proofs.Charts.{Charts, small}
use Rattle.chart.proofs.Laws.{rows_length}
use Rattle.chart.proofs.Made.{Chartable, blank, chart_by, graph_made, made_charts, must_firsts_made, nodes_made}
use Rattle.grow.specs.Grow.{fresh_after}
use Rattle.grow.specs.Musts.{grow_with}
use Rattle.grow.proofs.Grow.{fresh_ready}
use Rattle.grow.proofs.Musts.{Grown, free_grown, grow_accepts}
use Rattle.operations.specs.Operations.{check, tree_checks}
use Rattle.tried.specs.Answers.{PathSteps, keys_in, minimal_steps}
use Rattle.tried.specs.Only.{marks_of, only_on, only_row, only_rows}
use Rattle.tried.specs.Tried.{drawn_keys, keeps, kept_by, tried_checks, tried_of}
use Rattle.tried.proofs.Laws.{marks_at, only_at, only_length}
use Rattle.tried.proofs.Only.{ends_at_lem, ends_length, only, only_leasts, only_legal, only_ends, short_no_tree, whole_path}

-- the graph of all rows of a chart, barred or not, and its rows as those of a network
abbrev pub plain_in : List ℕ → Graph
plain_in c = record {
  plant = plant_in c;
  nodes = filter_b (has (nodes_in c)) (range 1 (limit_in c));
  first_ends = map (λ row. row.first_end) (rows_in c);
  second_ends = map (λ row. row.second_end) (rows_in c);
}

abbrev pub network_in : List ℕ → Network
network_in c = record { node_count = limit_in c; kinds = []; rows = rows_in c }

-- a chart can be made of the rows of this one
abbrev pub Drawable : List ℕ → Type 0
Drawable c = Chartable (rows_in c) (limit_in c) (plant_in c) (nodes_in c) (width_in c)

module _ (c : List ℕ) (able : Drawable c) where
  abbrev g : Graph
  g = plain_in c

  counted : length g.first_ends ≡ count_in c
  counted = length-map (rows_in c) (λ (row : Row). row.first_end) ∙ rows_length c

  module _ (rs : List ℕ) where
    abbrev marks : List Bool
    marks = marks_of rs

    abbrev alone : List ℕ
    alone = only_on c (marks_of rs) (replicate 1416 0)

    row_at_lem : (r : ℕ) → r < count_in c → get_or (only_rows c marks) r no_row ≡ only_row (get_or (rows_in c) r no_row) (member r rs)
    row_at_lem r h = only_at c marks r h ∙ ap (λ (b : Bool). only_row (get_or (rows_in c) r no_row) b) (marks_at rs r (omega (arith, able.few, rows_length c)))

    only_able : Chartable (only_rows c marks) (limit_in c) (plant_in c) (nodes_in c) (width_in c)
    only_able = record {
      few = omega (arith, only_length c marks, able.few, rows_length c);
      first_high = λ r k. rw (row_at_lem r (omega (arith, only_length c marks))) (able.first_high r (omega (arith, only_length c marks, rows_length c)));
      second_high = λ r k. rw (row_at_lem r (omega (arith, only_length c marks))) (able.second_high r (omega (arith, only_length c marks, rows_length c)));
      limit_high = able.limit_high;
      members = able.members;
      plant_in_lem = able.plant_in_lem;
      wide = able.wide;
    }

    alone_made : alone ≡ chart_by (replicate 1416 0) (only_rows c marks) (limit_in c) (plant_in c) (nodes_in c) (width_in c)
    unfolding only_on
    alone_made = rw (only_length c marks)

    right : Charts alone
    right = rw alone_made (made_charts only_able (replicate 1416 0) blank)

    -- one of the two ends of a row, which stays as it is
    ends_only : (end : Row → ℕ) → ((row : Row) (drawn : Bool) → end (only_row row drawn) ≡ end row)
        → map (λ row. open_end row (end row)) (only_rows c marks) ≡ only_ends rs (map end (rows_in c))
    ends_only end kept = ext_get_or 0 _ _ (length-map (only_rows c marks) _ ∙ only_length c marks ∙ sym (ends_length rs (map end (rows_in c)) ∙ length-map (rows_in c) end ∙ rows_length c))
        (λ j h.
        let low : j < count_in c = omega (arith, length-map (only_rows c marks) (λ (row : Row). open_end row (end row)), only_length c marks) in
        map_at (λ row. open_end row (end row)) (only_rows c marks) j no_row 0 (omega (arith, only_length c marks))
        ∙ ap (λ (row : Row). open_end row (end row)) (row_at_lem j low)
        ∙ by (get_or (rows_in c) j no_row) (member j rs)
        ∙ sym (ends_at_lem rs (map end (rows_in c)) j ∙ ap (λ (x : ℕ). pick (member j rs) x 0) (map_at end (rows_in c) j no_row 0 (omega (arith, rows_length c)))))
      where
        by : (row : Row) (b : Bool) → open_end (only_row row b) (end (only_row row b)) ≡ pick b (end row) 0
        by row true = kept row true
        by row false = refl

    only_graph : graph_in alone ≡ only g rs
    only_graph = ap graph_in alone_made ∙ graph_made only_able (replicate 1416 0) blank
        ∙ ap₂ {C = Graph} (λ firsts seconds. record { plant = g.plant; nodes = g.nodes; first_ends = firsts; second_ends = seconds })
        (ends_only (λ row. row.first_end) (λ row b. refl)) (ends_only (λ row. row.second_end) (λ row b. refl))

    -- none of its rows is a must row
    no_musts : musts_in alone ≡ []
    unfolding must_row
    no_musts =
        let firsts = ap (firsts_in true) alone_made ∙ must_firsts_made only_able (replicate 1416 0) blank in
        ap musts_of firsts ∙ filter_none _ _ (λ r i t.
        let low : r < count_in c = omega (arith, length-map (only_rows c marks) (λ (row : Row). must_end row row.first_end), only_length c marks, range_out 0 _ i) in
        let free = map_at (λ row. must_end row row.first_end) (only_rows c marks) r no_row 0 (omega (arith, only_length c marks))
        ∙ ap (λ (row : Row). must_end row row.first_end) (row_at_lem r low) ∙ by (get_or (rows_in c) r no_row) (member r rs) in
        rw free at t)
      where
        by : (row : Row) (b : Bool) → must_end (only_row row b) (only_row row b).first_end ≡ 0
        by row true = refl
        by row false = refl

    formed : WellFormed g
    formed =
        let f = subst (λ (x : Graph). WellFormed x) only_graph right.charted.formed in
        record { once = f.once; plant = f.plant; no_zero = f.no_zero }

    module _ (size : suc (length rs) ≡ length g.nodes) (known : (r : ℕ) → r ∈ rs → r < length g.first_ends) where
      abbrev keys : List Key
      keys = drawn_keys c marks

      grown : Grown (only g rs) (start g) [] keys (length rs)
      unfolding drawn_keys
      grown =
          let long : length rs ≡ width_in c = omega (arith, size, able.wide) in
          let all_nodes_lem : nodes_in alone ≡ nodes_in c = ap nodes_in alone_made ∙ nodes_made only_able (replicate 1416 0) blank in
          let begun = begun_start (graph_in alone) right.charted.formed in
          let ready = fresh_ready right.charted (nodes_in alone) [] right.all tt in
          let steps = free_grown no_musts (grow_accepts right (length rs) [] refl begun ready (omega (arith, small c))) in
          subst (λ (w : ℕ). Grown (only g rs) (start g) [] (grow_with alone (plant_in c) w (fresh_after (nodes_in c) (entered_by (plant_in c) [])) [] 0 0) (length rs)) long
          (subst (λ (n : ℕ). Grown (only g rs) (start g) [] (grow_with alone (plant_in c) (length rs) (fresh_after n (entered_by (plant_in c) [])) [] 0 0) (length rs)) all_nodes_lem
          (subst (λ (x : Graph). Grown x (start x) [] (grow_with alone x.plant (length rs) (fresh_after (nodes_in alone) (entered_by x.plant [])) [] 0 0) (length rs)) only_graph steps))

      least : Leasts g rs (start g) keys
      least = rw grown.whole (only_leasts g formed rs known (start g) grown.more grown.least)

      path : length keys ≡ length rs → T (is_tree g rs) × (and_then (path_of g rs) (steps g) ≡ some keys)
      path e = whole_path g formed rs size known keys least e

      no_tree : ¬ (length keys ≡ length rs) → ¬ T (is_tree g rs)
      no_tree n = short_no_tree g formed rs size known keys least n (⊎_elim
          (λ e. absurd (n (ap length grown.whole ∙ e)))
          (λ none m h. none m ((only_legal g formed rs known _ m).1 (rw (← grown.whole) h)))
          grown.ends)

      tried_tree : eqb (length keys) (length rs) ≡ is_tree g rs
      tried_tree = T-same (eqb (length keys) (length rs)) (is_tree g rs) (λ t. (path (eqb→eq _ _ t)).0)
          (λ t. ⊎_elim (λ e. e) (λ n. absurd (no_tree (λ e. n (eq→eqb _ _ e)) t)) (decide (eqb (length keys) (length rs))))

      tried_path : T (is_tree g rs) → and_then (path_of g rs) (steps g) ≡ some keys
      tried_path t = (path (eqb→eq _ _ (rw tried_tree t))).1

    -- STATES
    module _ (known : (r : ℕ) → r ∈ rs → r < count_in c) where
      abbrev state : ℕ → State
      state r = (get_or (rows_in c) r no_row).state

      in_rows : (r : ℕ) → r < count_in c → r ∈ row_numbers (graph_of (network_in c))
      in_rows r h = range_in 0 (length g.first_ends) r (omega arith) (omega (arith, counted))

      -- what is asked of a row, by whether it is drawn
      kept_at_lem : (r : ℕ) → r < count_in c → keeps (state r) (get_or marks r false) ≡ keeps (state r) (member r rs)
      kept_at_lem r h = ap (keeps (state r)) (marks_at rs r (omega arith))

      kept_out : T (kept_by c marks) → (r : ℕ) → r < count_in c → T (keeps (state r) (member r rs))
      unfolding kept_by
      kept_out t r h = rw (kept_at_lem r h) at (all_out (λ r. keeps (state r) (get_or marks r false)) t (range_in 0 (count_in c) r (omega arith) (omega arith)))

      kept_states : kept_by c marks ≡ keeps_states (network_in c) rs
      unfolding kept_by
      kept_states = T-same (kept_by c marks) (keeps_states (network_in c) rs)
          (λ t. (T-both dug_all none_barred).1 (
            has_all_in (must_rows (network_in c)) rs (λ r i.
                let (low, m) = filter_out (must_at (network_in c)) (row_numbers (graph_of (network_in c))) i in
                dug r m (kept_out t r (omega (arith, counted, range_out 0 (length g.first_ends) low)))),
            all_in (λ r. not (is_barred (state r))) rs (λ r i. rw ((T_true (member r rs)).0 (member_in i)) at (kept_out t r (known r i))),
          ))
          (λ t.
          let (musts, barreds) = (T-both dug_all none_barred).0 t in
          all_in (λ r. keeps (state r) (get_or marks r false)) (range 0 (count_in c)) (λ r i.
          let low : r < count_in c = omega (arith, range_out 0 (count_in c) i) in
          rw (kept_at_lem r low) (pick_elim (λ (b : Bool). T b) (member r rs)
          (λ m. all_out (λ r. not (is_barred (state r))) barreds (member_out r rs m))
          (λ n. not_T (is_must (state r)) (λ m. n (member_in (has_all_out (must_rows (network_in c)) rs musts r (filter_in (must_at (network_in c)) (in_rows r low) m))))))))
        where
          dug_all : Bool
          dug_all = has_all (must_rows (network_in c)) rs

          none_barred : Bool
          none_barred = all (λ r. not (is_barred (state r))) rs

          dug : (r : ℕ) → T (is_must (state r)) → T (keeps (state r) (member r rs)) → r ∈ rs
          dug r m k = ⊎_elim (λ t. member_out r rs t) (λ n. absurd (T_not (is_must (state r)) (rw ((T_false (member r rs)).0 n) at k) m)) (decide (member r rs))

-- Checks

-- a call by what the checks come to
abbrev call : Bool → Bool → Bool → Bool → PathSteps → Outcome PathSteps
call b8 b9 b10 b15 steps = checked (check 8 b8 ∷ check 9 b9 ∷ check 10 b10 ∷ check 15 b15 ∷ []) steps

module _ {b8 c8 b9 c9 b10 c10 b15 c15 : Bool} {a b : PathSteps} where
  -- two calls agree if checks 8 and 9 do, and once those are met the others
  agree : b8 ≡ c8 → b9 ≡ c9 → (T b8 → T b9 → (b10 ≡ c10) × (b15 ≡ c15) × (T c10 → a ≡ b)) → call b8 b9 b10 b15 a ≡ call c8 c9 c10 c15 b
  unfolding checked first_unmet
  agree e8 e9 h = by b8 b9 h ∙ ap₂ (λ x y. call x y c10 c15 b) e8 e9
    where
      last : (t u : Bool) → (T t → a ≡ b) → call true true t u a ≡ call true true t u b
      last true true h = ap answered (h tt)
      last true false h = refl
      last false u h = refl

      by : (b8 b9 : Bool) → (T b8 → T b9 → (b10 ≡ c10) × (b15 ≡ c15) × (T c10 → a ≡ b)) → call b8 b9 b10 b15 a ≡ call b8 b9 c10 c15 b
      by true true h = rw ((h tt tt).0, (h tt tt).1) (last c10 c15 (h tt tt).2)
      by true false h = refl
      by false b9 h = refl

pub tried_checks_lem : (c : List ℕ) → Drawable c → (rows : List ℕ)
    → tried_of c rows ≡ checked (tree_checks (plain_in c) rows ++ (check 15 (keeps_states (network_in c) rows) ∷ [])) (minimal_steps (plain_in c) rows)
unfolding tried_of tried_checks tree_checks
tried_checks_lem c able rows =
    let g = plain_in c in
    let few = counted c able in
    let wide : width_in c ≡ pred (length g.nodes) = omega (arith, able.wide) in
    agree (ap (λ (w : ℕ). eqb (length rows) w) wide) (ap (λ (m : ℕ). all (λ r. ltb r m) rows) (sym few))
    (λ t8 t9.
    let e : length rows ≡ width_in c = eqb→eq (length rows) (width_in c) t8 in
    let size : suc (length rows) ≡ length g.nodes = omega (arith, able.wide) in
    let known : (r : ℕ) → r ∈ rows → r < count_in c = λ r m. ltb→lt r (count_in c) (all_out (λ r. ltb r (count_in c)) t9 m) in
    let in_graph : (r : ℕ) → r ∈ rows → r < length g.first_ends = λ r m. omega (arith, known r m, few) in (
      ap (eqb (length (drawn_keys c (marks_of rows)))) (sym e) ∙ tried_tree c able rows size in_graph,
      kept_states c able rows known,
      λ t. sym (ap (λ (found : Option (List Key)). record { plant = g.plant; keys = keys_in found }) (tried_path c able rows size in_graph t)),
    ))

-- A chart is right (`Charts`): its words fit the graph that it is of, and the graph of its must rows alone. What the walk is given is one chart with this record.
-- What follows of any chart: its must rows are rows of the graph, each once (`musts_known`, `musts_once`), with their own ends (`masked`), and it is small (`few`, `small`).
use mathlib.Core.Path.{◌∙◌, ◌≡◌, ap, sym}
use mathlib.Core.Logic.{◌↔◌, ⊎_elim}
use mathlib.Core.Bool.{Bool, false, not, true}
use mathlib.Core.List.{List}
use Prim.Native.Nat.{◌<◌, ◌≤◌, suc, ℕ}
use native.Mathlib.Decide.{dec_lt}
use native.Mathlib.Omega.{arith}
use lib.Dec.{T, T_not, eqb, eqb→eq, not_T}
use lib.ListN.{get_or-eq_default, get_or, length, length-map}
use Rattle.lists.specs.Lists.{member, pick, range}
use Rattle.lists.proofs.Distinct.{Distinct, filter_distinct, range_distinct}
use Rattle.lists.proofs.Members.{◌∈◌, filter_in, filter_length, filter_out, member_in, member_out, range_in, range_out}
use Rattle.lists.proofs.Ranges.{range_length}
use Rattle.lists.proofs.Tests.{T_false, T_true, decide, eq→eqb}
use Rattle.graph.specs.Graph.{Graph}
use Rattle.graph.proofs.Growth.{Joins, State}
use Rattle.graph.proofs.Least.{Sound}
use Rattle.graph.proofs.Masked.{Masked, ends_as}
use Rattle.graph.proofs.Minimal.{WellFormed}
use Rattle.states.specs.States.{must_row}
use Rattle.words.specs.Words.{has}
use Rattle.chart.specs.Chart.{first_part, firsts_in, graph_in, head_in, limit_in, musts_in, near_in, next_in, nodes_in, second_part, seconds_in, state_part, width_in, words_in}
use Rattle.chart.proofs.Laws.{first_at, second_at, words_length}

-- `nb` are the neighbours in the graph, whose nodes are at most `limit`
pub record Charted (g : Graph) (nb : List ℕ) (limit : ℕ) : Type 0 where
  pub formed : WellFormed g
  pub low : (v : ℕ) → v ∈ g.nodes → v ≤ limit
  pub small : limit < 64
  pub joined : (u v : ℕ) → u ∈ g.nodes → v ∈ g.nodes → T (has (get_or nb u 0) v) ↔ ((r : ℕ) × (r < length g.first_ends) × Joins g r u v)

-- a sound state of the graph, and `fresh` its nodes that are not entered
pub record Ready (g : Graph) (s : State) (fresh : ℕ) : Type 0 where
  pub sound : Sound g s
  pub unentered : (v : ℕ) → T (has fresh v) ↔ ((v ∈ g.nodes) × (¬ (v ∈ s.entered)))

-- q is the next row above r that joins u and v; 0 where there is none
pub record NextRow (g : Graph) (r q u v : ℕ) : Type 0 where
  pub none_above : q ≡ 0 → (p : ℕ) → r < p → p < length g.first_ends → ¬ Joins g p u v
  pub above : 0 < q → r < q
  pub known : q < length g.first_ends
  pub joined : 0 < q → Joins g q u v
  pub between : (p : ℕ) → r < p → p < q → ¬ Joins g p u v

-- the graph with its must rows alone
abbrev pub must_graph_in : List ℕ → Graph
must_graph_in c = ends_as (graph_in c) (firsts_in true c) (seconds_in true c)

pub record Charts (c : List ℕ) : Type 0 where
  pub charted : Charted (graph_in c) (near_in false c) (limit_in c)
  pub must_charted : Charted (must_graph_in c) (near_in true c) (limit_in c)
  -- the word of 0, which is no node, has every node to which a must row leads
  pub must_ends : (u v r : ℕ) → v ∈ (graph_in c).nodes → r < length (firsts_in true c) → Joins (must_graph_in c) r u v → T (has (get_or (near_in true c) 0 0) v)
  pub headed : (u v r : ℕ) → u ∈ (graph_in c).nodes → v ∈ (graph_in c).nodes → r < head_in c u v → ¬ Joins (graph_in c) r u v
  pub next : (r u v : ℕ) → u ∈ (graph_in c).nodes → v ∈ (graph_in c).nodes → r < length (firsts_in false c) → Joins (graph_in c) r u v → NextRow (graph_in c) r (next_in c r) u v
  pub all : (v : ℕ) → T (has (nodes_in c) v) ↔ (v ∈ (graph_in c).nodes)
  pub wide : suc (width_in c) ≡ length (graph_in c).nodes

-- row r is none of the must rows
abbrev pub spared : List ℕ → ℕ → Bool
spared musts r = not (member r musts)

-- OF ANY CHART

-- a row with the end 0 among the must rows' ends is none of them, and past the ends there is none
module _ (ends : List ℕ) (r : ℕ) where
  no_must : ¬ T (must_row ends r) → get_or ends r 0 ≡ 0
  unfolding must_row
  no_must n = ⊎_elim (λ t. eqb→eq (get_or ends r 0) 0 t) (λ m. absurd (n (not_T (eqb (get_or ends r 0) 0) m))) (decide (eqb (get_or ends r 0) 0))

  must_end_lem : T (must_row ends r) → ¬ (get_or ends r 0 ≡ 0)
  unfolding must_row
  must_end_lem t e = T_not (eqb (get_or ends r 0) 0) t (eq→eqb (get_or ends r 0) 0 e)

  must_low : T (must_row ends r) → r < length ends
  must_low t = elim (dec_lt r (length ends)) [ yes h ↦ h | no n ↦ absurd (must_end_lem t (get_or-eq_default ends 0 {n = r} (omega arith))) ]

module _ (c : List ℕ) where
  abbrev heads : List ℕ
  heads = firsts_in true c

  pub musts_long : length (firsts_in true c) ≡ length (firsts_in false c)
  unfolding firsts_in
  musts_long = length-map (words_in c) _ ∙ sym (length-map (words_in c) _)

  pub musts_once : Distinct (musts_in c)
  musts_once = filter_distinct (must_row heads) (range 0 (length heads)) (range_distinct 0 (length heads))

  pub few : length (graph_in c).first_ends ≤ 256
  unfolding firsts_in
  few = rw length-map (omega (arith, words_length c))

  pub small : length (graph_in c).nodes ≤ 32
  small = omega (arith, filter_length (has (nodes_in c)) (range 1 (limit_in c)), range_length 1 (limit_in c))

  module _ (r : ℕ) where
    pub must_row_lem : T (must_row (firsts_in true c) r) ↔ (r ∈ musts_in c)
    must_row_lem = (
      λ t. filter_in (must_row heads) (range_in 0 (length heads) r (omega arith) (omega (arith, must_low heads r t))) t,
      λ i. (filter_out (must_row heads) (range 0 (length heads)) i).1,
    )

    pub musts_known : r ∈ musts_in c → r < length (graph_in c).first_ends
    musts_known i = omega (arith, musts_long, (range_out 0 (length heads) (filter_out (must_row heads) (range 0 (length heads)) i).0).1)

    abbrev word : ℕ
    word = get_or (words_in c) r 0

    -- the word of a must row says so, and then its ends are the row's own
    must_state : T (must_row heads r) → eqb (state_part word) 1 ≡ true
    must_state t = ⊎_elim (λ s. (T_true _).0 s)
        (λ n. absurd (must_end_lem heads r t (sym (first_at c r true) ∙ ap (λ (b : Bool). pick b (first_part word) 0) ((T_false (eqb (state_part word) 1)).0 n))))
        (decide (eqb (state_part word) 1))

    first_own : T (must_row heads r) → get_or (firsts_in true c) r 0 ≡ get_or (firsts_in false c) r 0
    first_own t = sym (first_at c r true) ∙ ap (λ (b : Bool). pick b (first_part word) 0) (must_state t) ∙ first_at c r false

    second_own : T (must_row heads r) → get_or (seconds_in true c) r 0 ≡ get_or (seconds_in false c) r 0
    second_own t = sym (second_at c r true) ∙ ap (λ (b : Bool). pick b (second_part word) 0) (must_state t) ∙ second_at c r false

    is_must_lem : ¬ T (spared (musts_in c) r) → T (must_row heads r)
    is_must_lem n = must_row_lem.1 (⊎_elim (λ m. member_out r (musts_in c) m) (λ m. absurd (n (not_T (member r (musts_in c)) m))) (decide (member r (musts_in c))))

  pub masked : Masked (graph_in c) (spared (musts_in c)) (firsts_in true c) (seconds_in true c)
  masked = record {
    absent = λ r t. no_must heads r (λ m. T_not (member r (musts_in c)) t (member_in ((must_row_lem r).0 m)));
    first = λ r n. first_own r (is_must_lem r n);
    second = λ r n. second_own r (is_must_lem r n);
  }

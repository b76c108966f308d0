-- The tables of an accepted file fit the search: they are those of its network (`tabled`) and of the graph without the barred rows (`tables_in`, `same_graph`); the must rows
-- are those with an end among the must rows' (`musts_on`), make no ring and are at most 31 where there is a tree (`musts_forest`); the free rows are the others that lie between
-- nodes (`free_lie`, `free_all`, on any tables); and every tree is inside limits above 31,000,000 (`under_limits`, `under_top`).
use mathlib.Core.Path.{◌∙◌, ◌≡◌, ap, ap₂, refl, subst, sym}
use mathlib.Core.Logic.{◌↔◌}
use mathlib.Core.Bool.{Bool, false, not, true}
use mathlib.Core.Option.{none-ne-some, some-injective, none, some}
use mathlib.Core.List.{List, [], ◌∷◌, map}
use Prim.Native.Nat.{◌%◌, ◌*◌, ◌+◌, ◌/◌, ◌<◌, ◌≤◌, suc, zero, ℕ}
use native.Mathlib.Decide.{dec_lt}
use native.Mathlib.Omega.{arith}
use lib.Dec.{T, eqb, eqb→eq, leb, leb→le, ltb, ltb→lt, le→leb, lt→ltb}
use lib.ListN.{get_or-eq_default, get_or, length, length-map, take}
use lib.Seq.{ext_get_or, get_or-take, length-take-le}
use borrow.Author.Tests.{eq-eqb, lt-ltb, ne_eqb}
use Rattle.lists.specs.Lists.{both, filter_b, keep_if, pick, range}
use Rattle.lists.proofs.Ascending.{at_get_or, get_or_mem}
use Rattle.lists.proofs.Distinct.{pigeonhole}
use Rattle.lists.proofs.Maps.{map_at}
use Rattle.lists.proofs.Members.{◌∈◌, filter_none, filter_same, range_in, range_out}
use Rattle.lists.proofs.Ranges.{get_or_map_range}
use Rattle.lists.proofs.Tests.{T-both, T_true, pick_elim}
use Rattle.graph.specs.Graph.{is_tree}
use Rattle.graph.proofs.Minimal.{minimal_parts}
use Rattle.graph.proofs.Tree.{tree_out}
use Rattle.costs.specs.Costs.{cost_at, cost_of}
use Rattle.costs.specs.Layouts.{must_rows, open_end}
use Rattle.costs.specs.Network.{Kind, Row, added, closing, worst}
use Rattle.costs.proofs.Layouts.{keeps_out, layouts_mem, must_distinct}
use Rattle.costs.proofs.Networks.{cost_length}
use Rattle.forests.proofs.Forest.{Forest}
use Rattle.forests.proofs.Joined.{Lies}
use Rattle.bounds.proofs.Limits.{costs_most}
use Rattle.states.specs.States.{must_row, musts_of}
use Rattle.states.proofs.Open.{forest_open, layouts_exist}
use Rattle.network_file.specs.File.{byte_at, network_of, sizes_of}
use Rattle.network_file.specs.File as file
use Rattle.network_file.proofs.Accepted.{Accepted, rows_length}
use Rattle.operations.specs.Operations.{layouts_in, open_in}
use Rattle.operations.proofs.Files.{formed, node_count_lem, open_formed_in}
use Rattle.completions.specs.Boxes.{inside}
use Rattle.chosen.specs.Chosen.{is_on, rows_on}
use Rattle.chosen.proofs.Flags.{on_mem}
use Rattle.fields.specs.declared.Kind as code
use Rattle.fields.specs.declared.Kind.TheVariants.{Added, Closing, Worst}
use Rattle.tally.specs.Kinds.{number_of, numbers_of}
use Rattle.tally.specs.Tally.{cost_in, kind_of, lead_in, table_of}
use Rattle.tally.proofs.Same.{Tabled}
use Rattle.tally.proofs.Tables.{inside_take}
use Rattle.find.specs.Find.{Tables, graph_in}
use Rattle.costing.specs.Costing.{costs_in, free_flag, free_in, is_node, kind_by, kinds_in, lead_at, leads_in, musts_in, street_in, tops}
use Rattle.costing.proofs.Streets.{lead_own, lead_same, lead_street}

-- The tables of the network

-- a byte that names a kind in the file names it in the tables
kind_known : (b : ℕ) (kind : Kind) → file.kind_of b ≡ some kind → kind_of b ≡ kind
unfolding file.kind_of
kind_known b kind e = by (eqb b 0) (eqb b 1) (eqb b 2) e
  where
    by : (x y z : Bool) → pick x (some added) (pick y (some worst) (pick z (some closing) none)) ≡ some kind → pick x added (pick y worst closing) ≡ kind
    by true y z e = some-injective _ _ e
    by false true z e = some-injective _ _ e
    by false false true e = some-injective _ _ e
    by false false false e = absurd (none-ne-some _ e)

-- a byte names the same kind as the number of the kind that the code takes it for
kind_same : (b : ℕ) → kind_of (number_of (kind_by b)) ≡ kind_of b
kind_same b = by (eqb b 0) (eqb b 1)
  where
    by : (x y : Bool) → kind_of (number_of (pick x Added (pick y Worst Closing))) ≡ pick x added (pick y worst closing)
    by true y = refl
    by false true = refl
    by false false = refl

kinds_same : (k : ℕ) (l : List ℕ) → map kind_of (take k (numbers_of (map kind_by l))) ≡ map kind_of (take k l)
kinds_same zero l = refl
kinds_same (suc k) [] = refl
kinds_same (suc k) (b ∷ l) = rw (kind_same b, kinds_same k l) refl

-- four bytes, each taken for a kind
pub four_kinds : (l : List ℕ) → length l ≡ 4 → {a b c d : code.Kind} → a ≡ kind_by (get_or l 0 0) → b ≡ kind_by (get_or l 1 0) → c ≡ kind_by (get_or l 2 0) → d ≡ kind_by (get_or l 3 0)
    → (a ∷ b ∷ c ∷ d ∷ []) ≡ map kind_by l
four_kinds [] h first second third fourth = absurd (omega arith)
four_kinds (x ∷ []) h first second third fourth = absurd (omega arith)
four_kinds (x ∷ y ∷ []) h first second third fourth = absurd (omega arith)
four_kinds (x ∷ y ∷ z ∷ []) h first second third fourth = absurd (omega arith)
four_kinds (x ∷ y ∷ z ∷ u ∷ []) h first second third fourth = rw (first, second, third, fourth) refl
four_kinds (x ∷ y ∷ z ∷ u ∷ v ∷ l) h first second third fourth = absurd (omega arith)

-- so the network of the bytes is that of the kinds
pub table_same : (l : List ℕ) (k : ℕ) (costs leads : List ℕ) → table_of (numbers_of (map kind_by l)) k costs leads ≡ table_of l k costs leads
unfolding table_of
table_same l k costs leads = rw (kinds_same k l) refl

module _ (f : List ℕ) where
  kinds_at : (c : ℕ) → c < 4 → get_or (kinds_in f) c 0 ≡ byte_at f (9 + c)
  unfolding kinds_in
  kinds_at zero h = refl
  kinds_at (suc zero) h = refl
  kinds_at (suc (suc zero)) h = refl
  kinds_at (suc (suc (suc zero))) h = refl
  kinds_at (suc (suc (suc (suc c)))) h = absurd (omega arith)

  kinds_four : length (kinds_in f) ≡ 4
  unfolding kinds_in
  kinds_four = refl

  cost_at_lem : (c r : ℕ) → c < 4 → r < 256 → cost_in (costs_in f) c r ≡ cost_at (network_of f) c r
  unfolding costs_in
  cost_at_lem c r h l =
      let part : (c * 256 + r) / 256 ≡ c = omega arith in
      let place : (c * 256 + r) % 256 ≡ r = omega arith in
      get_or_map_range (λ i. cost_at (network_of f) (i / 256) (i % 256)) 1024 (c * 256 + r) 0 (omega arith) ∙ ap₂ (cost_at (network_of f)) part place

  lead_at_lem : (r : ℕ) → r < 256 → lead_in (leads_in f) r ≡ lead_at f r
  unfolding leads_in
  lead_at_lem r h = get_or_map_range (lead_at f) 256 r 0 h

module _ (f : List ℕ) (a : Accepted f) where
  kinds_named : map kind_of (take (sizes_of f).k (kinds_in f)) ≡ (network_of f).kinds
  kinds_named =
      let k = (sizes_of f).k in
      let kinds = (network_of f).kinds in
      let long : length (take k (kinds_in f)) ≡ k = length-take-le k (kinds_in f) (omega (arith, kinds_four f, a.criteria_high)) in
      ext_get_or added (map kind_of (take k (kinds_in f))) kinds (length-map (take k (kinds_in f)) kind_of ∙ long ∙ sym a.kinds)
      (λ c h.
      let low : c < k = omega (arith, length-map (take k (kinds_in f)) kind_of, long) in
      map_at kind_of (take k (kinds_in f)) c 0 added (omega (arith, long)) ∙ ap kind_of (get_or-take k (kinds_in f) c 0 low ∙ kinds_at f c (omega (arith, a.criteria_high)))
      ∙ kind_known _ _ (sym (a.named c low) ∙ at_get_or kinds c added (omega (arith, a.kinds))))

  -- TABLED: kinds, costs and leads are those of the network
  pub tabled : Tabled (network_of f) (numbers_of (map kind_by (kinds_in f))) (sizes_of f).k (costs_in f) (leads_in f)
  tabled = record {
    named = kinds_same (sizes_of f).k (kinds_in f) ∙ kinds_named;
    few = omega (arith, a.kinds, a.criteria_high);
    priced = λ c r h l. cost_at_lem f c r (omega (arith, a.kinds, a.criteria_high)) l;
    alone = λ r s h l z e.
        let same : lead_at f s ≡ lead_at f r = sym (lead_at_lem f s l) ∙ e ∙ lead_at_lem f r h in
        let street : street_in f s ≡ 0 = sym (lead_street f s) ∙ ap (street_in f) same ∙ lead_street f r ∙ z in
        sym (lead_own f s street) ∙ same ∙ lead_own f r z;
    together = λ r s h l n. (
      λ e. sym (lead_street f s) ∙ ap (street_in f) (sym (lead_at_lem f s l) ∙ e ∙ lead_at_lem f r h) ∙ lead_street f r,
      λ e. lead_at_lem f s l ∙ lead_same f r s n e ∙ sym (lead_at_lem f r h),
    );
  }

-- The graph without the barred rows

pub same_graph : (f : List ℕ) → graph_in (open_in f).first_ends (open_in f).second_ends (sizes_of f).n ≡ open_in f
unfolding network_of
same_graph f = refl

open_rows : (f : List ℕ) → length (open_in f).first_ends ≡ (sizes_of f).m
open_rows f = length-map (network_of f).rows (λ (row : Row). open_end row row.first_end) ∙ rows_length f

module _ (f : List ℕ) (a : Accepted f) where
  -- TABLES
  pub tables_in : Tables (open_in f).first_ends (open_in f).second_ends (sizes_of f).n (sizes_of f).k
  tables_in = record {
    formed = rw (same_graph f) (open_formed_in f a);
    small = a.nodes_high;
    few_rows = omega (arith, open_rows f, a.rows_high);
    some_criteria = a.criteria_low;
    few_criteria = a.criteria_high;
  }

-- The must rows

-- numbers that do not pass may be left out at the end of a range
filter_cut : (test : ℕ → Bool) (m n from : ℕ) → m ≤ n → ((r : ℕ) → from + m ≤ r → ¬ T (test r)) → filter_b test (range from n) ≡ filter_b test (range from m)
unfolding filter_b range
filter_cut test zero n from h past = filter_none test (range from n) (λ r i. past r (omega (arith, range_out from n i)))
filter_cut test (suc m) zero from h past = absurd (omega arith)
filter_cut test (suc m) (suc n) from h past = ap (keep_if (test from) from) (filter_cut test m n (suc from) (omega arith) (λ r l. past r (omega arith)))

has_end : (x : ℕ) → ltb 0 x ≡ not (eqb x 0)
has_end zero = refl
has_end (suc x) = rw (lt-ltb 0 (suc x) (omega arith), ne_eqb (suc x) 0 (λ e. omega arith))

-- of at most 256 rows, those that have an end there are the must rows
pub musts_on : (heads : List ℕ) → length heads ≤ 256 → musts_in heads ≡ musts_of heads
unfolding rows_on must_row
musts_on heads few =
    filter_cut (is_on heads) (length heads) 256 0 few
    (λ r h t. omega (arith, ltb→lt 0 (get_or heads r 0) t, get_or-eq_default heads 0 {n = r} (omega arith)))
    ∙ filter_same (is_on heads) (must_row heads) (range 0 (length heads)) (λ r i. has_end (get_or heads r 0))

pub musts_forest : (f : List ℕ) → Accepted f → (p : List ℕ) → p ∈ layouts_in f → Forest (open_in f) (must_rows (network_of f)) × (length (must_rows (network_of f)) ≤ 31)
musts_forest f a p listed =
    let w = network_of f in
    let (minimal, keeps) = (layouts_mem w (formed f a) p).0 listed in (
      (forest_open w).0 ((layouts_exist w (formed f a)).0 (p, listed)).1,
      omega (arith, pigeonhole (must_rows w) (must_distinct w) (keeps_out w p keeps).0, (minimal_parts _ p minimal).0, node_count_lem f, a.nodes_high),
    )

-- The free rows

node_mem : (limit v : ℕ) → T (is_node limit v) ↔ (v ∈ range 1 limit)
node_mem limit v = (
  λ t. let (low, high) = (T-both (ltb 0 v) (leb v limit)).0 t in range_in 1 limit v (ltb→lt 0 v low) (omega (arith, leb→le v limit high)),
  λ i. let (low, high) = range_out 1 limit i in (T-both (ltb 0 v) (leb v limit)).1 (lt→ltb 0 v low, le→leb v limit (omega arith)),
)

flag_on : (limit head first second : ℕ) → (0 < free_flag limit head first second) ↔ ((head ≡ 0) × T (is_node limit first) × T (is_node limit second))
flag_on limit head first second = (
  λ h. out h,
  λ (e, p, q). rw (eq-eqb head 0 e, (T_true (is_node limit first)).0 p, (T_true (is_node limit second)).0 q) (omega arith),
)
  where
    out : 0 < free_flag limit head first second → (head ≡ 0) × T (is_node limit first) × T (is_node limit second)
    out = pick_elim (λ (x : ℕ). 0 < x → (head ≡ 0) × T (is_node limit first) × T (is_node limit second)) (eqb head 0)
        (λ t. pick_elim (λ (x : ℕ). 0 < x → (head ≡ 0) × T (is_node limit first) × T (is_node limit second)) (both (is_node limit first) (is_node limit second))
        (λ u h. let (p, q) = (T-both (is_node limit first) (is_node limit second)).0 u in (eqb→eq head 0 t, p, q))
        (λ n h. absurd (omega arith)))
        (λ n h. absurd (omega arith))

module _ (firsts seconds heads : List ℕ) (limit r : ℕ) where
  flag_at_lem : r < 256 → get_or (free_in firsts seconds heads limit) r 0 ≡ free_flag limit (get_or heads r 0) (get_or firsts r 0) (get_or seconds r 0)
  unfolding free_in
  flag_at_lem h = get_or_map_range (λ r. free_flag limit (get_or heads r 0) (get_or firsts r 0) (get_or seconds r 0)) 256 r 0 h

  pub free_lie : r ∈ rows_on (free_in firsts seconds heads limit) → Lies (graph_in firsts seconds limit) r
  free_lie m =
      let (low, on) = (on_mem (free_in firsts seconds heads limit) r).0 m in
      let (e, p, q) = (flag_on limit (get_or heads r 0) (get_or firsts r 0) (get_or seconds r 0)).0 (subst (λ (x : ℕ). 0 < x) (flag_at_lem low) on) in
      record { first = (node_mem limit (get_or firsts r 0)).0 p; second = (node_mem limit (get_or seconds r 0)).0 q }

  pub free_all : length firsts ≤ 256 → Lies (graph_in firsts seconds limit) r → ¬ (r ∈ musts_in heads) → r ∈ rows_on (free_in firsts seconds heads limit)
  free_all few l out =
      let known : r < length firsts = elim (dec_lt r (length firsts)) [
        | yes h ↦ h
        | no h ↦ absurd (omega (arith, range_out 1 limit l.first, get_or-eq_default firsts 0 {n = r} (omega arith)))
      ] in
      let none : get_or heads r 0 ≡ 0 = elim (dec_lt 0 (get_or heads r 0)) [
        | yes h ↦ absurd (out ((on_mem heads r).1 (omega arith, h)))
        | no h ↦ omega arith
      ] in
      (on_mem (free_in firsts seconds heads limit) r).1 (
        omega arith,
        subst (λ (x : ℕ). 0 < x) (sym (flag_at_lem (omega arith)))
            ((flag_on limit (get_or heads r 0) (get_or firsts r 0) (get_or seconds r 0)).1 (none, (node_mem limit (get_or firsts r 0)).1 l.first, (node_mem limit (get_or seconds r 0)).1 l.second)),
      )

-- Limits that hold no tree back

tops_at : (c : ℕ) → c < 4 → get_or tops c 0 ≡ 33554432
tops_at zero h = refl
tops_at (suc zero) h = refl
tops_at (suc (suc zero)) h = refl
tops_at (suc (suc (suc zero))) h = refl
tops_at (suc (suc (suc (suc c)))) h = absurd (omega arith)

module _ (f : List ℕ) (a : Accepted f) (p : List ℕ) (t : T (is_tree (open_in f) p)) where
  pub under_limits : (limits : List ℕ) → length limits ≡ (sizes_of f).k → ((c : ℕ) → c < (sizes_of f).k → 31000000 < get_or limits c 0) → T (inside limits (cost_of (network_of f) p))
  unfolding inside
  under_limits limits long above =
      let v = cost_of (network_of f) p in
      let many : length v ≡ (sizes_of f).k = cost_length (network_of f) p ∙ a.kinds in
      (T_true (inside limits v)).1 (inside_take 0 limits v (long ∙ sym many) (λ c z h.
      let most = costs_most (network_of f) 1000000 a.costs p (get_or v c 0) (get_or_mem v c 0 h) in
      omega (arith, most, above c (omega (arith, many)), (tree_out (open_in f) p t).size, node_count_lem f, a.nodes_high)))

  pub under_top : T (inside (take (sizes_of f).k tops) (cost_of (network_of f) p))
  under_top =
      let k = (sizes_of f).k in
      let few : k ≤ 4 = a.criteria_high in
      under_limits (take k tops) (length-take-le k tops few) (λ c h. omega (arith, get_or-take k tops c 0 h, tops_at c (omega arith)))

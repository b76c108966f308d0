-- What shows whether there is a tree: the first path of all (`first_given`), or a start that is seen to be in the list by its path (`path_listed`).
use mathlib.Core.Path.{◌∙◌, ◌≡◌, ap, refl, subst, sym}
use mathlib.Core.Bool.{false, true}
use mathlib.Core.Option.{none-ne-some, some-ne-none}
use mathlib.Core.List.{List, [], ◌++◌, ◌∷◌, append-nil}
use Prim.Native.Nat.{◌+◌, ◌≤◌, ℕ}
use native.Mathlib.Omega.{arith}
use lib.ListN.{get_or, get_elem?, length}
use lib.Seq.{append_snoc}
use Rattle.std.specs.Prelude.{Err, IsErrAnd, None, Ok, Result, Some, is_some}
use Rattle.std.specs.declared.option.Option as code
use Rattle.lists.proofs.Members.{◌∈◌, has_all_out, length_snoc}
use Rattle.lists.proofs.Tests.{T_true, pick_elim}
use Rattle.lists.specs.Lists.{member}
use Rattle.bounds.proofs.Prefix.{rows_of_append}
use Rattle.chart.proofs.Charts.{Charts, small}
use Rattle.chart.specs.Chart.{firsts_in, graph_in, list_in, musts_in, plant_in, seconds_in, width_in}
use Rattle.graph.proofs.Growth.{rows_of, rows_of_length}
use Rattle.graph.specs.Paths.{Key}
use Rattle.grow.proofs.Leads.{MustsLead, musts_met_lem}
use Rattle.grow.specs.Musts.{musts_met}
use Rattle.operations.specs.Operations.{layouts_in, some_tree}
use Rattle.refusals.specs.declared.Refusal.{Refusal}
use Rattle.refusals.specs.declared.Refusal.TheVariants.{NoTree}
use Rattle.paths.specs.Path.{entered_by}
use Rattle.paths.specs.declared.Path.{Path}
use Rattle.states.proofs.With.{with_of}
use Rattle.trace.proofs.Laws.{extended_room}
use Rattle.trace.specs.Trace.{key_by, trace_from, traced_in}
use Rattle.walk.proofs.Climbing.{climbs_full}
use Rattle.walk.specs.Climbing.{climbs_in}
use Rattle.walk.specs.Walk.{first_in, next_of}
use Rattle.fill.specs.Walkable.{Comes}
use Rattle.fill.proofs.Steps.{comes_first}
use Rattle.start.specs.Start.{ChartOf}
use Rattle.start.proofs.Given.{leads_given, list_read, right_given}
use Rattle.page.specs.Beginning.{Beginning}
use Rattle.page.specs.declared.Begun.{Begun}

-- there is a first path exactly if there is a tree
first_tree : {c : List ℕ} → Charts c → MustsLead c → (first : code.Option Path) → next_of first ≡ first_in c → some_tree (list_in c) ≡ is_some first
first_tree {c} right lead first answer = by (list_in c) first (rw answer (comes_first right lead))
  where
    by : (l : List (List ℕ)) (o : code.Option Path) → Comes c (next_of o) (get_elem? l 0) → some_tree l ≡ is_some o
    by [] None h = refl
    by [] (Some q) h = absurd (none-ne-some _ h.0)
    by (p ∷ l) None h = absurd (some-ne-none _ h)
    by (p ∷ l) (Some q) h = refl

pub first_given : {f c : List ℕ} → ChartOf f c → (first : code.Option Path) → next_of first ≡ first_in c → some_tree (layouts_in f) ≡ is_some first
first_given o first answer = ap some_tree (sym (list_read o)) ∙ first_tree (right_given o) (leads_given o) first answer

-- where there is none, a call is refused by it
pub refused_begin : (f c begin : List ℕ) → some_tree (layouts_in f) ≡ false → {e : Refusal} → e ≡ NoTree → (r : Result Begun Refusal) → IsErrAnd r (λ x. x ≡ e) → Beginning f c begin r
refused_begin f c begin none_listed d (Ok b) h = absurd h
refused_begin f c begin none_listed d (Err x) h = (none_listed, h ∙ d)

-- the path of some rows has these rows, as long as there is room
key_row : (firsts seconds entered : List ℕ) (r : ℕ) → (key_by firsts seconds entered r).row ≡ r
unfolding key_by
key_row firsts seconds entered r = pick_elim (λ (k : Key). k.row ≡ r) (member (get_or firsts r 0) entered) (λ t. refl) (λ n. refl)

trace_rows : (firsts seconds : List ℕ) (plant : ℕ) (keys : List Key) (rows : List ℕ) → length keys + length rows ≤ 31
    → rows_of (trace_from firsts seconds plant keys rows) ≡ rows_of keys ++ rows
unfolding trace_from
trace_rows firsts seconds plant keys [] h = sym (append-nil (rows_of keys))
trace_rows firsts seconds plant keys (r ∷ rows) h =
    let k = key_by firsts seconds (entered_by plant keys) r in
    let one : rows_of (keys ++ (k ∷ [])) ≡ rows_of keys ++ (r ∷ []) =
    rows_of_append keys (k ∷ []) ∙ ap (λ (q : ℕ). rows_of keys ++ (q ∷ [])) (key_row firsts seconds (entered_by plant keys) r) in
    ap (λ (l : List Key). rows_of (trace_from firsts seconds plant l rows)) (extended_room keys k (omega arith))
    ∙ trace_rows firsts seconds plant (keys ++ (k ∷ [])) rows (omega (arith, length_snoc keys k))
    ∙ ap (λ (l : List ℕ). l ++ rows) one ∙ append_snoc (rows_of keys) r rows

-- a start is in the list if its path climbs to a tree's length and it has all must rows
pub path_listed : {c : List ℕ} → Charts c → MustsLead c → (begin : List ℕ) → length begin ≡ width_in c → climbs_in c (plant_in c) (traced_in c begin) ≡ true → musts_met c begin ≡ true
    → begin ∈ list_in c
path_listed {c} right lead begin long climbs met =
    let keys = traced_in c begin in
    let rows : rows_of keys ≡ begin = trace_rows (firsts_in false c) (seconds_in false c) (plant_in c) [] begin (omega (arith, right.wide, small c)) in
    let all = has_all_out (musts_in c) begin ((T_true _).1 (sym (musts_met_lem lead begin) ∙ met)) in
    let full = climbs_full right keys climbs (sym (rows_of_length keys) ∙ ap length rows ∙ long) (rw rows all) in
    subst (λ (q : List ℕ). q ∈ list_in c) rows (with_of (graph_in c) right.charted.formed (musts_in c) keys full)

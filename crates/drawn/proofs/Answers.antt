-- What `drawn` comes to by Open's answer (`open_stops`, `tried_drawn`), and what its callers learn from its answer: the first check that
-- is not met (`stopped_by`), or that all are met and the path is the tree's (`answered_by`); and a call's end with check 11 and others behind
-- (`call_refused`, `call_short`, `call_rest`, `call_stops`, `call_met`).
use mathlib.Core.Path.{◌∙◌, ◌≡◌, ap, refl, sym}
use mathlib.Core.Bool.{Bool, false, true}
use mathlib.Core.Option.{Option, none, some}
use mathlib.Core.List.Memᴰ.{head as here}
use mathlib.Core.List.Memᴰ.{tail as there}
use mathlib.Core.List.{List, ◌++◌, ◌∷◌, map}
use Prim.Native.Nat.{pred, ℕ}
use native.Mathlib.Omega.{arith}
use lib.Dec.{T, eqb}
use lib.ListN.{length}
use borrow.Author.Tests.{eqb-true}
use Rattle.lists.proofs.Tests.{T_true}
use Rattle.graph.specs.Graph.{is_tree, width}
use Rattle.graph.specs.Paths.{Key, and_then, path_of, steps}
use Rattle.graph.proofs.Minimal.{minimal_parts}
use Rattle.graph.proofs.PathOf.{path_of_tree_lem}
use Rattle.graph.proofs.Steps.{steps_rows}
use Rattle.checks.specs.Checks.{Check, Ended, answered, checked, ended, first_unmet, outcome_by, refused}
use Rattle.checks.proofs.Checks.{first_unmet_append, first_unmet_met, first_unmet_unmet, met_all}
use Rattle.checks.proofs.Ended.{checked_answered, checked_refused, checked_unmet, ended_met, ended_same, ended_unmet, first_unmet_stops, unmet_parts}
use Rattle.costs.specs.Layouts.{keeps_states}
use Rattle.bounds.proofs.Missing.{rows_map}
use Rattle.network_file.specs.File.{Sizes, file_checks, network_of, open_of}
use Rattle.network_file.proofs.Accepted.{Accepted, accepted}
use Rattle.network_file.proofs.Opened.{open_answered, open_refused}
use Rattle.operations.specs.Operations.{check, drawn_checks, graph_in, tree_checks}
use Rattle.operations.proofs.Files.{formed}
use Rattle.chart.specs.Chart.{Blank, file_chart_on}
use Rattle.paths.specs.Path.{keys_of, rows_in}
use Rattle.paths.specs.declared.Path.{Path}
use Rattle.tried.specs.Answers.{PathSteps, keys_in, minimal_steps, steps_in}
use Rattle.tried.specs.Tried.{tried_of}
use Rattle.tried.proofs.Files.{tried_file}
use Rattle.drawn.specs.Answers.{drawn_call, drawn_table}

-- By Open's answer

pub open_stops : (f rows : List ℕ) (e : ℕ) → refused e ≡ open_of f → refused e ≡ drawn_call f rows
unfolding drawn_call
open_stops f rows e told = sym (checked_unmet (drawn_table f rows) _ e (first_unmet_stops (file_checks f) (drawn_checks (network_of f) rows) e (open_refused f e (sym told))))

-- Open has answered: the rows are tried in the file's chart
pub tried_drawn : (f : List ℕ) (s : Sizes) → open_of f ≡ answered s → (c : List ℕ) → Blank c → (rows : List ℕ) → tried_of (file_chart_on f c) rows ≡ drawn_call f rows
unfolding drawn_call checked
tried_drawn f s h c empty rows =
    let met = (open_answered f s h).0 in
    tried_file f (accepted f met) c empty rows
    ∙ ap (λ (first : Option ℕ). outcome_by first (minimal_steps (graph_in f) rows)) (sym (first_unmet_append (file_checks f) (drawn_checks (network_of f) rows) met))

-- By the code's answer

-- the rows meet all checks, and ps is the minimal path with exactly these rows
pub record Passed (f rows ps : List ℕ) : Type 0 where
  pub met : first_unmet (drawn_table f rows) ≡ none
  pub file : Accepted f
  pub size : length rows ≡ width (graph_in f)
  pub tree : T (is_tree (graph_in f) rows)
  pub states : T (keeps_states (network_of f) rows)
  pub path : path_of (graph_in f) rows ≡ some ps
  pub long : length ps ≡ width (graph_in f)

-- a refusal's number is that of the first check not met
pub stopped_by : (f rows : List ℕ) (e : ℕ) → refused e ≡ drawn_call f rows → first_unmet (drawn_table f rows) ≡ some e
unfolding drawn_call
stopped_by f rows e told = checked_refused (drawn_table f rows) _ e (sym told)

module _ (f rows : List ℕ) (p : Path) (told : answered (steps_in p) ≡ drawn_call f rows) where
  all_met : first_unmet (drawn_table f rows) ≡ none
  unfolding drawn_call
  all_met = (checked_answered (drawn_table f rows) _ (steps_in p) (sym told)).0

  -- the steps are those of the tree's minimal path
  keys : keys_of p ≡ keys_in (and_then (path_of (graph_in f) rows) (steps (graph_in f)))
  unfolding drawn_call
  keys = ap (λ (s : PathSteps). s.keys) (sym (checked_answered (drawn_table f rows) _ (steps_in p) (sym told)).1)

  pub answered_by : Passed f rows (rows_in p)
  unfolding drawn_checks tree_checks
  answered_by =
      let (of_file, behind) = unmet_parts (file_checks f) (drawn_checks (network_of f) rows) all_met in
      let each = (met_all (drawn_checks (network_of f) rows)).0 behind in
      let file = accepted f of_file in
      let tree = (T_true (is_tree (graph_in f) rows)).1 (each (check 10 (is_tree (graph_in f) rows)) (there (there (here refl)))) in
      let (qs, found, minimal, _, _) = path_of_tree_lem (graph_in f) (formed f file) rows tree in
      let (long, (ks, made, _)) = minimal_parts (graph_in f) qs minimal in
      let count : length qs ≡ pred (length (graph_in f).nodes) = omega (arith, long) in
      let of_path : keys_of p ≡ ks = keys ∙ ap (λ (path : Option (List ℕ)). keys_in (and_then path (steps (graph_in f)))) found ∙ ap keys_in made in
      let e : qs ≡ rows_in p = sym (steps_rows (graph_in f) _ qs ks made) ∙ rows_map ks ∙ ap (λ (keys : List Key). map (λ (k : Key). k.row) keys) (sym of_path) in
      record {
        met = all_met;
        file = file;
        size = eqb-true _ _ (each (check 8 (eqb (length rows) (width (graph_in f)))) (here refl));
        tree = tree;
        states = (T_true (keeps_states (network_of f) rows)).1 (each (check 15 (keeps_states (network_of f) rows)) (there (there (there (here refl)))));
        path = found ∙ ap some e;
        long = sym (ap length e) ∙ count;
      }

-- a call with check 11, which is b, and others behind these
module _ (f rows : List ℕ) {A B : Type 0} (b : Bool) (others : List Check) (answer : A) (before after : B) where
  abbrev own : List Check
  own = check 11 b ∷ others

  abbrev call : Ended A B
  call = ended (drawn_table f rows ++ own) answer before after

  stops : (e : ℕ) → first_unmet (drawn_table f rows ++ own) ≡ some e → call ≡ record { outcome = refused e; buffers = before }
  stops = ended_unmet (drawn_table f rows ++ own) answer before after

  pub call_refused : (e : ℕ) → refused e ≡ drawn_call f rows → call ≡ record { outcome = refused e; buffers = before }
  call_refused e told = stops e (first_unmet_stops (drawn_table f rows) own e (stopped_by f rows e told))

  module _ (p : Path) (told : answered (steps_in p) ≡ drawn_call f rows) where
    own_first : first_unmet (drawn_table f rows ++ own) ≡ first_unmet own
    own_first = first_unmet_append (drawn_table f rows) own (all_met f rows p told)

    pub call_short : b ≡ false → call ≡ record { outcome = refused 11; buffers = before }
    call_short e = stops 11 (own_first ∙ first_unmet_unmet (check 11 b) others e)

    module _ (room : b ≡ true) where
      last : first_unmet (drawn_table f rows ++ own) ≡ first_unmet others
      last = own_first ∙ first_unmet_met (check 11 b) others room

      -- the others decide
      pub call_rest : call ≡ ended others answer before after
      call_rest = ended_same _ _ answer before after last

      pub call_stops : (e : ℕ) → first_unmet others ≡ some e → call ≡ record { outcome = refused e; buffers = before }
      call_stops e stop = call_rest ∙ ended_unmet others answer before after e stop

      pub call_met : first_unmet others ≡ none → call ≡ record { outcome = answered answer; buffers = after }
      call_met met = call_rest ∙ ended_met others answer before after met

-- A start's checks: those of its rows as drawn and then 13, by the answer to these rows (`start_drawn`, `start_path`), which are tried in the chart of a file
-- (`start_tried`). An empty start has none (`start_none`); one that meets them all is a tree of the network's own (`start_met`).
-- The number of a result is that of its refusal (`numbered_by`, `numbered_ok`, `numbered_last`).
use mathlib.Core.Path.{◌∙◌, ◌≡◌, ap, refl, subst, sym}
use mathlib.Core.Bool.{Bool, false, false≢true, true}
use mathlib.Core.Option.{some-injective, none, some}
use mathlib.Core.List.{List, [], ◌++◌, ◌∷◌}
use Prim.Native.Nat.{ℕ}
use native.Mathlib.Omega.{arith}
use lib.Dec.{T}
use lib.ListN.{length}
use Rattle.std.specs.Prelude.{Err, IsErrAnd, IsOk, MatchResult, Ok, Result}
use Rattle.lists.proofs.Members.{same_of, same_out}
use Rattle.lists.proofs.Tests.{T-same}
use Rattle.lists.specs.Lists.{pick, same}
use Rattle.checks.proofs.Checks.{first_unmet_append}
use Rattle.checks.proofs.Ended.{checked_met, first_unmet_stops, unmet_parts}
use Rattle.checks.specs.Checks.{answered, first_unmet, refused}
use Rattle.drawn.specs.Answers.{drawn_call}
use Rattle.drawn.proofs.Answers.{answered_by, stopped_by, tried_drawn}
use Rattle.refusals.specs.Refusals.{number_of}
use Rattle.refusals.specs.declared.Refusal.{Refusal}
use Rattle.tried.specs.Answers.{steps_in}
use Rattle.tried.specs.Tried.{tried_of}
use Rattle.graph.proofs.Minimal.{WellFormed}
use Rattle.graph.proofs.PathOf.{path_of_is, path_of_only}
use Rattle.graph.specs.Graph.{Graph}
use Rattle.graph.specs.Paths.{is_minimal, path_of}
use Rattle.costs.specs.Network.{Network}
use Rattle.network_file.specs.File.{file_checks, network_of, open_of, sizes_of}
use Rattle.network_file.proofs.Accepted.{accepted}
use Rattle.operations.proofs.Files.{formed}
use Rattle.operations.proofs.Passing.{start_listed}
use Rattle.operations.specs.Operations.{check, drawn_checks, graph_in, layouts_in, start_checks}
use Rattle.pages.proofs.TreePages.{Starts}
use Rattle.paths.specs.Path.{rows_in}
use Rattle.paths.specs.declared.Path.{Path}
use Rattle.start.specs.Start.{ChartOf, numbered}

-- the path of a tree's rows: they are written so exactly if they are minimal
minimal_same : (g : Graph) → WellFormed g → (rs ps : List ℕ) → path_of g rs ≡ some ps → is_minimal g rs ≡ same ps rs
minimal_same g wf rs ps e = T-same (is_minimal g rs) (same ps rs)
    (λ m. same_of ps rs (some-injective ps rs (sym e ∙ path_of_is g wf rs rs m (λ x i. i) (λ x i. i))))
    (λ s. subst (λ (p : List ℕ). T (is_minimal g p)) (same_out ps rs s) (path_of_only g wf rs ps e).0)

-- its rows tried in the chart of a file are those drawn in the file
pub start_tried : {f c : List ℕ} → ChartOf f c → (start : List ℕ) → tried_of c start ≡ drawn_call f start
unfolding open_of
start_tried {f} o start = rw o.made (tried_drawn f (sizes_of f) (checked_met (file_checks f) (sizes_of f) o.met) o.lent o.empty start)

-- the number of a result that refuses by e, of one that is no refusal, and of a last check
pub numbered_by : {A : Type 0} (e : Refusal) (r : Result A Refusal) → IsErrAnd r (λ x. x ≡ e) → numbered r ≡ some (number_of e)
numbered_by e (Err x) h = ap (λ (e : Refusal). some (number_of e)) h
numbered_by e (Ok a) h = absurd h

pub numbered_ok : {A : Type 0} (r : Result A Refusal) → IsOk r → numbered r ≡ none
numbered_ok (Ok a) h = refl
numbered_ok (Err e) h = absurd (false≢true h)

pub numbered_last : {A : Type 0} (met : Bool) (e : Refusal) (r : Result A Refusal) → MatchResult r (λ _. met ≡ true) (λ x. (met ≡ false) × (x ≡ e))
    → pick met none (some (number_of e)) ≡ numbered r
numbered_last met e (Ok a) h = rw h
numbered_last met e (Err x) h = rw (h.0, ← h.1)

module _ (f : List ℕ) (met : first_unmet (file_checks f) ≡ none) where
  abbrev g : Graph
  g = graph_in f

  abbrev w : Network
  w = network_of f

  start_all : (start : List ℕ) → ¬ (length start ≡ 0) → start_checks w start ≡ drawn_checks w start ++ (check 13 (is_minimal g start) ∷ [])
  unfolding start_checks
  start_all [] n = absurd (n refl)
  start_all (r ∷ rs) n = refl

  -- 8, 9, 10 and 15, by the answer to its rows as drawn; then 13
  module _ (start : List ℕ) (some_rows : ¬ (length start ≡ 0)) where
    pub start_drawn : (e : ℕ) → refused e ≡ drawn_call f start → first_unmet (start_checks w start) ≡ some e
    start_drawn e told =
        let stop = sym (first_unmet_append (file_checks f) (drawn_checks w start) met) ∙ stopped_by f start e told in
        rw (start_all start some_rows) (first_unmet_stops (drawn_checks w start) (check 13 (is_minimal g start) ∷ []) e stop)

    pub start_path : (p : Path) → answered (steps_in p) ≡ drawn_call f start → first_unmet (start_checks w start) ≡ pick (same (rows_in p) start) none (some 13)
    unfolding first_unmet
    start_path p told =
        let passed = answered_by f start p told in
        let behind = first_unmet_append (drawn_checks w start) (check 13 (is_minimal g start) ∷ []) (unmet_parts (file_checks f) (drawn_checks w start) passed.met).1 in
        ap first_unmet (start_all start some_rows) ∙ behind
        ∙ ap (λ (b : Bool). pick b none (some 13)) (minimal_same g (formed f passed.file) start (rows_in p) passed.path)

  pub start_none : (start : List ℕ) → length start ≡ 0 → first_unmet (start_checks w start) ≡ none
  unfolding start_checks first_unmet
  start_none [] e = refl
  start_none (r ∷ rs) e = absurd (omega arith)

  -- a start that meets its checks is a tree of the network's own
  pub start_met : (start : List ℕ) → first_unmet (start_checks w start) ≡ none → Starts (layouts_in f) start
  start_met [] h few = absurd (omega arith)
  start_met (r ∷ rs) h few = start_listed w (formed f (accepted f met)) r rs h

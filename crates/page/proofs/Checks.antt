-- Page's checks, one after the other: what the call comes to where the first is not met (`page_open`, `page_none`, `page_short`, `page_start`), and
-- where all are met (`page_met`; on the chart of a file, by the page that is filled with its trees, `page_given`); and a refusal of the code as such an end (`page_refused`).
use mathlib.Core.Path.{◌∙◌, ◌≡◌, ap, sym}
use mathlib.Core.Bool.{false, true}
use mathlib.Core.Option.{none, some}
use mathlib.Core.List.{List, ◌∷◌}
use Prim.Native.Nat.{◌<◌, ◌≤◌, ℕ}
use lib.Dec.{leb}
use lib.ListN.{length}
use borrow.Author.Tests.{le-leb, lt-leb}
use Rattle.std.specs.Prelude.{Err, IsErrAnd, Ok, Result}
use Rattle.checks.proofs.Checks.{first_unmet_append, first_unmet_met, first_unmet_unmet}
use Rattle.checks.proofs.Ended.{ended_met, ended_unmet, first_unmet_stops}
use Rattle.checks.specs.Checks.{Check, Ended, first_unmet, refused}
use Rattle.chart.specs.Chart.{list_in, width_in}
use Rattle.graph.specs.Graph.{width}
use Rattle.network_file.specs.File.{file_checks, network_of}
use Rattle.operations.specs.Operations.{Paged, check, graph_in, layouts_in, page_call, page_checks, some_tree, start_checks}
use Rattle.pages.specs.Pages.{rest_after}
use Rattle.refusals.specs.Refusals.{number_of}
use Rattle.refusals.specs.declared.Refusal.{Refusal}
use Rattle.fill.specs.Walkable.{filled_by}
use Rattle.fill.specs.declared.Filled.{Filled}
use Rattle.start.specs.Start.{ChartOf}
use Rattle.start.proofs.Given.{list_read, width_read}
use Rattle.page.specs.Answers.{paged_of}

module _ (f page start : List ℕ) where
  abbrev after12 : List Check
  after12 = check 11 (leb (width (graph_in f)) (length page)) ∷ start_checks (network_of f) start

  abbrev after_open : List Check
  after_open = check 12 (some_tree (layouts_in f)) ∷ after12

  refuses : (e : ℕ) → first_unmet (page_checks f page start) ≡ some e → record { outcome = refused e; buffers = page } ≡ page_call f page start
  unfolding page_call
  refuses e h = sym (ended_unmet (page_checks f page start) _ page _ e h)

  pub page_open : (e : ℕ) → first_unmet (file_checks f) ≡ some e → record { outcome = refused e; buffers = page } ≡ page_call f page start
  unfolding page_checks
  page_open e h = refuses e (first_unmet_stops (file_checks f) after_open e h)

  module _ (met : first_unmet (file_checks f) ≡ none) where
    open_met : first_unmet (page_checks f page start) ≡ first_unmet after_open
    unfolding page_checks
    open_met = first_unmet_append (file_checks f) after_open met

    pub page_none : some_tree (layouts_in f) ≡ false → record { outcome = refused 12; buffers = page } ≡ page_call f page start
    page_none e = refuses 12 (open_met ∙ first_unmet_unmet (check 12 (some_tree (layouts_in f))) after12 e)

    module _ (tree : some_tree (layouts_in f) ≡ true) where
      tree_met : first_unmet (page_checks f page start) ≡ first_unmet after12
      tree_met = open_met ∙ first_unmet_met (check 12 (some_tree (layouts_in f))) after12 tree

      pub page_short : length page < width (graph_in f) → record { outcome = refused 11; buffers = page } ≡ page_call f page start
      page_short short = refuses 11 (tree_met ∙ first_unmet_unmet _ (start_checks (network_of f) start) (lt-leb _ _ short))

      module _ (room : width (graph_in f) ≤ length page) where
        room_met : first_unmet (page_checks f page start) ≡ first_unmet (start_checks (network_of f) start)
        room_met = tree_met ∙ first_unmet_met _ (start_checks (network_of f) start) (le-leb _ _ room)

        pub page_start : (e : ℕ) → first_unmet (start_checks (network_of f) start) ≡ some e → record { outcome = refused e; buffers = page } ≡ page_call f page start
        page_start e h = refuses e (room_met ∙ h)

        pub page_met : first_unmet (start_checks (network_of f) start) ≡ none → filled_by (width (graph_in f)) page (rest_after (layouts_in f) start) ≡ page_call f page start
        unfolding page_call
        page_met h = sym (ended_met (page_checks f page start) _ page _ (room_met ∙ h))

-- the code's refusal by e, as what a call comes to
pub page_refused : {call : Ended Paged (List ℕ)} {page : List ℕ} {d e : Refusal} → record { outcome = refused (number_of e); buffers = page } ≡ call → d ≡ e
    → (r : Result Filled Refusal) → IsErrAnd r (λ x. x ≡ d) → record { outcome = paged_of r; buffers = page } ≡ call
page_refused {page = page} told same (Err x) h = ap (λ (e : Refusal). record { outcome = refused (number_of e); buffers = page }) (h ∙ same) ∙ told
page_refused told same (Ok a) h = absurd h

-- a page that is filled with the trees of a file's chart behind a start that meets its checks
pub page_given : {f c : List ℕ} → ChartOf f c → (start : List ℕ) → first_unmet (start_checks (network_of f) start) ≡ none → (page : List ℕ) (a : Ended Paged (List ℕ))
    → some_tree (layouts_in f) ≡ true → width_in c ≤ length page → a ≡ filled_by (width_in c) page (rest_after (list_in c) start) → a ≡ page_call f page start
page_given {f} {c} o start ok page a tree room e =
    e ∙ ap (λ (L : List (List ℕ)). filled_by (width_in c) page (rest_after L start)) (list_read o)
    ∙ ap (λ (w : ℕ). filled_by w page (rest_after (layouts_in f) start)) (width_read o)
    ∙ page_met f page start o.met tree (rw (← width_read o) room) ok

-- With no start the first path says whether there is a tree; a start that is seen to be in the list is one; of any other its checks and the first path are asked.
use mathlib.Core.Path.{◌∙◌, ◌≡◌, sym}
use mathlib.Core.Bool.{true}
use mathlib.Core.Option.{none}
use mathlib.Core.List.{List}
use Prim.Native.Nat.{◌<◌, ℕ}
use native.Mathlib.Omega.{arith}
use lib.ListN.{length}
use borrow.Author.Rules.{rules}
use borrow.Author.Tests.{eqb-false}
use Rattle.checks.specs.Checks.{first_unmet}
use Rattle.chart.specs.Chart.{list_in}
use Rattle.fill.proofs.Steps.{begins_after, begins_first}
use Rattle.fill.specs.Walkable.{Begins}
use Rattle.network_file.specs.File.{network_of}
use Rattle.operations.specs.Operations.{layouts_in, some_tree, start_checks}
use Rattle.pages.proofs.TreePages.{Starts}
use Rattle.start.specs.Start.{ChartOf}
use Rattle.start.proofs.Checks.{numbered_ok, start_none}
use Rattle.start.proofs.Given.{leads_given, listed_met, listed_tree, right_given, start_given, walk_given}
use Rattle.page.proofs.Seen.{first_given, refused_begin}
use Rattle.page.proofs.begin.Goals as goal
use Rattle.page.proofs.begin.Goals.{After-after-next}

pub returns-in_err-check : goal.returns-in_err-check
returns-in_err-check c f o =
    let first = c.first-next in
    refused_begin _ _ _ (first_given o first.result first.ensures.1 ∙ sym c.is_some.ensures ∙ c.in_err-check.ensures.0) c.in_err-check.ensures.1 _ c.from_residual.ensures.1

pub returns-then-is_empty : goal.returns-then-is_empty
returns-then-is_empty c f o =
    let start = c.args.start.now in
    let next = c.first-next in
    let empty : length start ≡ 0 = search rules in
    record {
      tree = first_given o next.result next.ensures.1 ∙ sym c.is_some.ensures ∙ c.in_ok-check.ensures;
      checked = start_none f o.met start empty;
      next = λ met. begins_first (right_given o) (leads_given o) next.result next.ensures.0 next.ensures.1 start (omega arith);
    }

-- what comes behind a start of the list
behind : (c : After-after-next) →
    let s = c.args in
    (f : List ℕ) → ChartOf f s.chart.now.words → some_tree (layouts_in f) ≡ true → Starts (list_in s.chart.now.words) s.start.now → Begins s.chart.now.words s.start.now c.after-next.result
behind c f o tree starts =
    let width = c.width in
    let some_rows = eqb-false (length c.args.start.now) 0 (sym c.is_empty.ensures ∙ c.if-is_empty.false) in
    let given : 0 < length c.args.start.now = omega (arith, some_rows) in
    begins_after (walk_given o tree) _ given starts c.trace-path.ensures.0 c.trace-path.ensures.1 c.after-next.result c.after-next.ensures.0 width.result
    (omega (arith, width.ensures)) c.after-next.ensures.1

pub returns-then-seen_listed : goal.returns-then-seen_listed
returns-then-seen_listed c f o =
    let path = c.trace-path.ensures in
    let start = c.args.start.now in
    let listed = c.seen_listed.ensures (right_given o) (leads_given o) path.0 path.1 c.if-seen_listed.true in
    let tree = listed_tree o start listed in
    record {
      tree = tree;
      checked = listed_met o start listed;
      next = λ met. behind (goal.at.returns-then-seen_listed c).After-after-next f o tree (λ some_rows. listed);
    }

pub returns-in_err-check-2 : goal.returns-in_err-check-2
returns-in_err-check-2 c f o =
    let first = c.first in
    refused_begin _ _ _ (first_given o first.result first.ensures.1 ∙ sym c.is_some-2.ensures ∙ c.in_err-check-2.ensures.0) c.in_err-check-2.ensures.1 _
    c.from_residual-in_err-check-2.ensures.1

pub returns : goal.returns
returns c f o =
    let first = c.first in
    let start = c.args.start.now in
    let tree : some_tree (layouts_in f) ≡ true = first_given o first.result first.ensures.1 ∙ sym c.is_some-2.ensures ∙ c.in_ok-check-2.ensures in
    let checked = c.check-3.ensures f o in
    record {
      tree = tree;
      checked = checked;
      next = λ met.
          let none_unmet : first_unmet (start_checks (network_of f) start) ≡ none = checked ∙ numbered_ok _ met in
          behind (goal.at.returns c).After-after-next f o tree (start_given o start none_unmet);
    }

-- Each check that is not met ends the call with its number; where all are met, the chart's trees can be listed, and what fills the page answers the call.
use mathlib.Core.Path.{◌∙◌, ◌≡◌, ap, refl, sym}
use mathlib.Core.Option.{none}
use Prim.Native.Nat.{◌≤◌}
use lib.ListN.{length}
use borrow.Author.Tests.{leb-false, leb-true}
use Rattle.chart.proofs.Made.{blank}
use Rattle.checks.specs.Checks.{first_unmet}
use Rattle.network_file.proofs.Opened.{open_answered, open_refused}
use Rattle.network_file.specs.File.{network_of}
use Rattle.graph.specs.Graph.{width}
use Rattle.operations.specs.Operations.{graph_in, start_checks}
use Rattle.start.specs.Start.{ChartOf, numbered}
use Rattle.start.proofs.Given.{start_given, walk_given, width_read}
use Rattle.page.proofs.Checks.{page_given, page_none, page_open, page_refused, page_short, page_start}
use Rattle.page.proofs.page.Goals as goal
use Rattle.page.proofs.page.Goals.{After-begin}

pub returns-in_err-open : goal.returns-in_err-open
returns-in_err-open c =
    let s = c.args in
    let stopped = page_open s.file.now s.page.now s.start.now _ (open_refused s.file.now _ (sym c.in_err-open.ensures)) in
    page_refused stopped refl c.from_residual.result c.from_residual.ensures.1

charted : (c : After-begin) → ChartOf c.args.file.now c.of_file.new.chart.words
charted c = record { met = (open_answered c.args.file.now _ (sym c.in_ok-open.ensures)).0; lent = _; empty = (rw c.empty-chart.ensures blank); made = c.of_file.ensures }

pub returns-in_err-begun : goal.returns-in_err-begun
returns-in_err-begun c =
    let s = c.args in
    let o = charted (goal.at.returns-in_err-begun c).After-begin in
    let (none_listed, told) = c.in_err-begun.ensures s.file.now o in
    page_refused (page_none s.file.now s.page.now s.start.now o.met none_listed) told c.from_residual-in_err-begun.result c.from_residual-in_err-begun.ensures.1

pub returns-in_err-check : goal.returns-in_err-check
returns-in_err-check c =
    let s = c.args in
    let o = charted (goal.at.returns-in_err-check c).After-begin in
    let b = c.in_ok-begun.ensures s.file.now o in
    let short = page_short s.file.now s.page.now s.start.now o.met b.tree (rw (← width_read o, ← c.width.ensures) (leb-false _ _ c.in_err-check.ensures.0)) in
    page_refused short c.in_err-check.ensures.1
    c.from_residual-in_err-check.result c.from_residual-in_err-check.ensures.1

pub returns-in_err-begun-2 : goal.returns-in_err-begun-2
returns-in_err-begun-2 c =
    let s = c.args in
    let o = charted (goal.at.returns-in_err-begun-2 c).After-begin in
    let b = c.in_ok-begun.ensures s.file.now o in
    let unmet = b.checked ∙ ap numbered c.in_err-begun-2.was in
    let room : width (graph_in s.file.now) ≤ length s.page.now = rw (← width_read o, ← c.width.ensures) (leb-true _ _ c.in_ok-check.ensures) in
    page_refused (page_start s.file.now s.page.now s.start.now o.met b.tree room _ unmet) refl
    c.from_residual-in_err-begun-2.result c.from_residual-in_err-begun-2.ensures.1

pub returns : goal.returns
returns c =
    let s = c.args in
    let o = charted (goal.at.returns c).After-begin in
    let b = c.in_ok-begun.ensures s.file.now o in
    let met : first_unmet (start_checks (network_of s.file.now) s.start.now) ≡ none = b.checked ∙ ap numbered c.in_ok-begun-2.was in
    let next = b.next (rw c.in_ok-begun-2.was refl) in
    page_given o s.start.now met s.page.now _ b.tree (rw (← c.width.ensures) (leb-true _ _ c.in_ok-check.ensures))
    (c.fill_from.ensures s.start.now (walk_given o b.tree) (start_given o s.start.now met) next)

-- Each way out is one way of a call to end: there is no first tree, the index does not fit, or it is written.
use mathlib.Core.Path.{◌∙◌, ◌≡◌, sym}
use mathlib.Core.List.{List}
use mathlib.Core.Bool.{true}
use Prim.Native.Nat.{◌/◌, ◌<◌, ℕ}
use borrow.Author.Rules.{rules}
use borrow.Author.Tests.{eqb-true, not-false}
use native.Mathlib.Omega.{arith}
use lib.Dec.{leb}
use lib.ListN.{length}
use Rattle.chart.specs.Chart.{list_in}
use Rattle.indexes.proofs.Checks.{index_none, spacing_least}
use Rattle.indexes.specs.Index.{indexed}
use Rattle.network_file.specs.File.{within}
use Rattle.operations.specs.Operations.{layouts_in, some_tree}
use Rattle.start.proofs.Given.{walk_given}
use Rattle.start.specs.Start.{ChartOf}
use Rattle.index.proofs.Given.{fits_room, fits_short, met_given, short_given, tree_given}
use Rattle.index.proofs.built.Goals as goal
use Rattle.index.proofs.built.Goals.{After-fits, In_ok-check}

pub returns-in_err-check : goal.returns-in_err-check
returns-in_err-check c f o right =
    let first = c.first_tree-first in
    let (none, kind) = c.in_err-check.ensures in
    let stopped = index_none f c.args.spacing c.args.index.now o.met right (tree_given o first.result (first.ensures f o) ∙ sym c.is_some.ensures ∙ none) in
    search (rules, stopped, kind)

some_tree_lem : (c : In_ok-check) (f : List ℕ) → ChartOf f c.args.chart.now.words → some_tree (layouts_in f) ≡ true
some_tree_lem c f o =
    let first = c.first_tree-first in
    tree_given o first.result (first.ensures f o) ∙ sym c.is_some.ensures ∙ c.in_ok-check.ensures

pub returns-in_err-check-2 : goal.returns-in_err-check-2
returns-in_err-check-2 c f o right =
    let some = some_tree_lem (goal.at.returns-in_err-check-2 c).In_ok-check f o in
    absurd (omega (arith, (walk_given o some).several, c.width-width.ensures, eqb-true _ _ (not-false _ c.in_err-check-2.ensures.0)))

-- whether the index has at most as many entries as there is room for
fitting : (c : After-fits) (f : List ℕ) → ChartOf f c.args.chart.now.words → within 1 1000 c.args.spacing ≡ true → some_tree (layouts_in f) ≡ true
    → leb (length (indexed c.args.spacing (list_in c.args.chart.now.words))) (length c.args.index.now / c.width-width.result) ≡ c.fits.result
fitting c f o right tree = sym (c.fits.ensures (walk_given o tree) (c.first_tree-first.ensures f o) (spacing_least _ right))

pub returns-in_err-check-3 : goal.returns-in_err-check-3
returns-in_err-check-3 c f o right =
    let at = goal.at.returns-in_err-check-3 c in
    let some = some_tree_lem at.In_ok-check f o in
    let wide : 0 < c.width-width.result = omega (arith, (walk_given o some).several, c.width-width.ensures) in
    let (short, kind) = c.in_err-check-3.ensures in
    let stopped = short_given o _ right c.args.index.now some
    (fits_short (length (indexed c.args.spacing (list_in c.args.chart.now.words))) _ _ _ c.width-width.ensures wide (fitting at.After-fits f o right some ∙ short)) in
    search (rules, stopped, kind)

pub returns : goal.returns
returns c f o right =
    let at = goal.at.returns c in
    let some = some_tree_lem at.In_ok-check f o in
    let room = fits_room (length (indexed c.args.spacing (list_in c.args.chart.now.words))) _ _ _ c.width-width.ensures (fitting at.After-fits f o right some ∙ c.in_ok-check-3.ensures) in
    met_given o _ right _ some room _ _
    (c.write.ensures (walk_given o some) (c.first_tree-first.ensures f o) (spacing_least _ right) room)

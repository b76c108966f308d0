-- An entry by the answer of `drawn` and check 11; then the path's vector and its rows are entered in the office's half.
use mathlib.Core.Path.{◌∙◌, ◌≡◌, sym}
use native.Mathlib.Omega.{arith}
use lib.ListN.{length, length-take, take}
use borrow.Author.Rules.{rules}
use Rattle.cost.proofs.Laws.{part_length}
use Rattle.office.proofs.Laws.{office_noted, office_refused, office_unfit, sizes_are}
use Rattle.office.proofs.office.Goals as goal
use Rattle.office.proofs.office.Goals.{After-vector-costs_of_path}

pub returns-in_err-path : goal.returns-in_err-path
returns-in_err-path c = search (rules, office_refused)

pub fit-fits-requires : goal.fit-fits-requires
fit-fits-requires c = sizes_are _ _ c.in_ok-path.path c.in_ok-path.ensures c.header_of-header.ensures

pub returns-in_err-check : goal.returns-in_err-check
returns-in_err-check c =
    let unfit = office_unfit _ _ c.in_ok-path.path c.in_ok-path.ensures c.header_of-header.ensures _ _ _ _ (sym c.fit-fits.ensures ∙ c.in_err-check.ensures.0) in
    search (rules, unfit)

sized : (c : After-vector-costs_of_path) → c.header_of-header.result.k ≡ length (take c.header_of-header.result.k c.vector-costs_of_path.result)
sized c = part_length _ _ c.in_ok-path.path c.in_ok-path.ensures c.header_of-header.ensures c.vector-costs_of_path.ensures

pub slice_bounds-costs_of_path-end : goal.slice_bounds-costs_of_path-end
slice_bounds-costs_of_path-end c = omega (arith, sized c, length-take c.header_of-header.result.k c.vector-costs_of_path.result)

pub slice_bounds-vector-end : goal.slice_bounds-vector-end
slice_bounds-vector-end c = sized (goal.at.slice_bounds-vector-end c).After-vector-costs_of_path

pub returns : goal.returns
returns c =
    let whole = office_noted _ _ c.in_ok-path.path c.in_ok-path.ensures c.header_of-header.ensures _ _ _ _ c.vector-costs_of_path.ensures (sym c.fit-fits.ensures ∙ c.in_ok-check.ensures) in
    (rw (← c.rows.ensures.rows) c.enter.ensures) ∙ whole

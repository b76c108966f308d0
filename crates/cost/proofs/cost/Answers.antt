-- Cost by the answer of `drawn`, the file's sizes and the buffer's length.
use mathlib.Core.Path.{◌≡◌}
use native.Mathlib.Omega.{arith}
use lib.ListN.{length, length-take, take}
use borrow.Author.Tests.{leb-true}
use borrow.Author.Rules.{rules}
use Rattle.cost.proofs.Laws.{cost_refused, cost_short, cost_vector, part_length}
use Rattle.cost.proofs.cost.Goals as goal
use Rattle.cost.proofs.cost.Goals.{After-vector-costs}

pub returns-in_err-path : goal.returns-in_err-path
returns-in_err-path c = search (rules, cost_refused)

pub returns-in_err-check : goal.returns-in_err-check
returns-in_err-check c =
    let short = cost_short _ _ c.in_ok-path.path c.in_ok-path.ensures c.header_of-header.ensures c.args.buffer.now c.in_err-check.ensures.0 in
    search (rules, short)

sized : (c : After-vector-costs) → c.header_of-header.result.k ≡ length (take c.header_of-header.result.k c.vector-costs.result)
sized c = part_length _ _ c.in_ok-path.path c.in_ok-path.ensures c.header_of-header.ensures c.vector-costs.ensures

pub slice_bounds-costs-end : goal.slice_bounds-costs-end
slice_bounds-costs-end c = omega (arith, sized c, length-take c.header_of-header.result.k c.vector-costs.result)

pub slice_bounds-vector-end : goal.slice_bounds-vector-end
slice_bounds-vector-end c = sized (goal.at.slice_bounds-vector-end c).After-vector-costs

pub copy_from_slice-requires : goal.copy_from_slice-requires
copy_from_slice-requires c =
    let there = sized (goal.at.copy_from_slice-requires c).After-vector-costs in
    omega (arith, there, length-take c.header_of-header.result.k c.args.buffer.now, leb-true _ _ c.in_ok-check.ensures)

pub returns : goal.returns
returns c =
    let whole = cost_vector _ _ c.in_ok-path.path c.in_ok-path.ensures c.header_of-header.ensures c.vector-costs.ensures c.args.buffer.now c.in_ok-check.ensures in
    search (rules, whole)

use mathlib.Core.Path.{◌∙◌, sym}
use Prim.Native.Nat.{◌<◌}
use native.Mathlib.Omega.{arith}
use lib.ListN.{get_or}
use Rattle.words.proofs.Words.{NextMember}
use Rattle.chart.specs.Chart.{near_in}
use Rattle.chart.proofs.Laws.{firsts_length}
use Rattle.spread.specs.Spread.{open_at}
use Rattle.search.proofs.Laws.{at_row, enter_nodes, leave_nodes, leave_places, leave_rows, next_open, next_rows, over_limit, pass_row}
use Rattle.search.proofs.first_step.Goals as goal
use Rattle.search.proofs.first_step.Goals.{After-lowest-j}

-- the next open node
next : (c : After-lowest-j) → NextMember (open_at (near_in c.args.must c.args.chart.now.words) c.args.fresh (get_or c.args.entered.now c.places.i 0)) c.nodes.j c.lowest-j.result
next c =
    let in_range : c.nodes.j < 64 = omega (arith, c.nodes-test.true, c.limit-limit.ensures.1) in
    next_open _ _ _ _ _ _ _ in_range c.open_at-open.ensures c.above.ensures c.lowest-j.ensures

pub nodes-init : goal.nodes-init
nodes-init c = c.places.invariant ∙ enter_nodes _ _ _ _ _ _ _ _ _ c.places-test.true

pub rows-init : goal.rows-init
rows-init c =
    let n = next (goal.at.rows-init c).After-lowest-j in
    c.nodes.invariant
    ∙ next_rows _ _ _ _ _ _ _ _ _ _ _ _ (omega (arith, c.limit-limit.ensures.0, c.limit-limit.ensures.1)) n
    (omega (arith, c.limit-limit.ensures.0, c.if-j-limit.true)) c.first_row-r.ensures

pub nodes-smaller-in-rows : goal.nodes-smaller-in-rows
nodes-smaller-in-rows c =
    omega (arith, (next (goal.at.nodes-smaller-in-rows c).After-lowest-j).beyond)

pub nodes-preserved-in-rows : goal.nodes-preserved-in-rows
nodes-preserved-in-rows c =
    c.rows.invariant ∙ leave_rows _ _ _ _ _ _ _ _ _ _ _ (omega (arith, firsts_length c.args.must c.args.chart.now.words, c.row_count-rows.ensures.0, c.rows-test.false))

pub rows-preserved : goal.rows-preserved
rows-preserved c =
    c.rows.invariant
    ∙ pass_row _ _ _ _ _ _ _ _ _ _ _ (omega (arith, firsts_length c.args.must c.args.chart.now.words, c.row_count-rows.ensures.0, c.rows-test.true))
    (sym c.joins.ensures ∙ c.if-joins.false)

pub nodes-smaller : goal.nodes-smaller
nodes-smaller c =
    omega (arith, (next (goal.at.nodes-smaller c).After-lowest-j).beyond)

pub nodes-preserved : goal.nodes-preserved
nodes-preserved c =
    let n = next (goal.at.nodes-preserved c).After-lowest-j in
    c.nodes.invariant ∙ over_limit _ _ _ _ _ _ _ _ _ _ _ n (omega (arith, c.limit-limit.ensures.0, c.if-j-limit.false))

pub places-preserved : goal.places-preserved
places-preserved c =
    c.nodes.invariant ∙ leave_nodes _ _ _ _ _ _ _ _ _ _ (omega (arith, c.limit-limit.ensures.0, c.nodes-test.false))

pub returns : goal.returns
returns c = sym (c.places.invariant ∙ leave_places _ _ _ _ _ _ _ _ _ c.places-test.false)

pub returns-then-joins : goal.returns-then-joins
returns-then-joins c =
    sym (c.rows.invariant
    ∙ at_row _ _ _ _ _ _ _ _ _ _ _ (omega (arith, firsts_length c.args.must c.args.chart.now.words, c.row_count-rows.ensures.0, c.rows-test.true))
    (sym c.joins.ensures ∙ c.if-joins.true))

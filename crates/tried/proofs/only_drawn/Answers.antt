use mathlib.Core.Path.{◌∙◌, ◌≡◌, sym}
use native.Mathlib.Omega.{arith}
use Rattle.chart.specs.Chart.{entered_down}
use Rattle.tried.proofs.Laws.{only_start, only_turn}
use Rattle.tried.proofs.only_drawn.Goals as goal

pub loop-r-preserved : goal.loop-r-preserved
loop-r-preserved c =
    c.loop-r.invariant
    ∙ only_turn _ _ _ _ c.only_row.result c.loop-r-test.true (omega (arith, c.loop-r.auto.r, c.row_count-count.ensures.0)) c.only_row.ensures ∙ rw c.enter.ensures

pub returns : goal.returns
unfolding entered_down
returns c =
    let none : c.loop-r.r ≡ 0 = omega arith in
    sym (only_start _ _ _ _ _ _ _ _ _ c.limit.ensures.0 c.plant.ensures c.nodes.ensures c.width.ensures c.row_count-count.ensures.0 c.begin.ensures
    ∙ c.loop-r.invariant ∙ rw none)

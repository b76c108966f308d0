use mathlib.Core.Path.{◌∙◌, ◌≡◌, sym}
use native.Mathlib.Omega.{arith}
use Rattle.chart.specs.Chart.{entered_down}
use Rattle.chart.proofs.Files.{file_turn}
use Rattle.charting.proofs.enter_cut.Goals as goal

pub loop-r-preserved : goal.loop-r-preserved
loop-r-preserved c = c.loop-r.invariant ∙ file_turn _ _ _ c.row_at.result c.loop-r-test.true c.row_at.ensures ∙ rw c.enter.ensures

pub returns : goal.returns
unfolding entered_down
returns c = let none : c.loop-r.r ≡ 0 = omega (arith, c.loop-r-test.false) in sym (c.loop-r.invariant ∙ rw none)

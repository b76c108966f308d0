use borrow.Author.Tests.{lt-ltb}
use Rattle.chart.specs.Chart.{entered_by}
use Rattle.charting.proofs.enter.Goals as goal

pub returns-then-r-le255 : goal.returns-then-r-le255
unfolding entered_by
returns-then-r-le255 c = c.enter_by.ensures

pub returns-else-r-le255 : goal.returns-else-r-le255
unfolding entered_by
returns-else-r-le255 c = simp (lt-ltb _ _ c.if-r-le255.false)

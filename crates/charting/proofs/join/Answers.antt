use Rattle.chart.specs.Chart.{joined_by}
use Rattle.charting.proofs.join.Goals as goal

pub returns : goal.returns
unfolding joined_by
returns c = rw c.bit.ensures

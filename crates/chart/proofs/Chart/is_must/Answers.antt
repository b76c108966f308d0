use Rattle.states.specs.States.{must_row}
use Rattle.chart.proofs.Chart.is_must.Goals as goal

pub returns : goal.returns
unfolding must_row
returns c = rw c.first_end.ensures

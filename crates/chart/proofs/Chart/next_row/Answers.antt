use Rattle.chart.specs.Chart.{next_in}
use Rattle.chart.proofs.Chart.next_row.Goals as goal

pub returns : goal.returns
unfolding next_in
returns c = rw c.word_at.ensures

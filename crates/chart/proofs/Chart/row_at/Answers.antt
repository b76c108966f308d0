use Rattle.chart.proofs.Laws.{row_here}
use Rattle.chart.proofs.Chart.row_at.Goals as goal

pub returns : goal.returns
returns c = rw (c.state_by.ensures, c.word_at-w.ensures) (row_here _ _)

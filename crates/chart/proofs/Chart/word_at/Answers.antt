use Rattle.chart.proofs.Laws.{word_here, word_past}
use Rattle.chart.proofs.Chart.word_at.Goals as goal

pub returns-then-r-row_count : goal.returns-then-r-row_count
returns-then-r-row_count c = word_here _ _ (rw c.row_count.ensures.0 at c.if-r-row_count.true)

pub returns-else-r-row_count : goal.returns-else-r-row_count
returns-else-r-row_count c = word_past _ _ (rw c.row_count.ensures.0 at c.if-r-row_count.false)

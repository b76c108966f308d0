use Rattle.chart.specs.Chart.{linked_by}
use Rattle.charting.proofs.link.Goals as goal

pub returns : goal.returns
unfolding linked_by
returns c = rw (c.row_word.ensures, c.join-2.ensures, c.join.ensures)

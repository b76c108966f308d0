use Rattle.chart.specs.Chart.{claimed_by}
use Rattle.charting.proofs.claim.Goals as goal

pub returns : goal.returns
unfolding claimed_by
returns c = rw (c.join-4.ensures, c.join-3.ensures, c.join-2.ensures, c.join.ensures)

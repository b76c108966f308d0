use mathlib.Core.Bool.{false, true}
use Rattle.chart.proofs.Laws.{near_at}
use Rattle.chart.proofs.Chart.near.Goals as goal

pub returns-then-must : goal.returns-then-must
returns-then-must c = rw c.if-must.true (near_at _ true _)

pub returns-else-must : goal.returns-else-must
returns-else-must c = rw c.if-must.false (near_at _ false _)

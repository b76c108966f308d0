use borrow.Author.Tests.{le-ltb, lt-ltb}
use Rattle.chart.specs.Chart.{head_in}
use Rattle.chart.proofs.Chart.first_row.Goals as goal
use Rattle.chart.proofs.Chart.first_row.Goals.{then-u-gt32-via-then-u-gt32, then-u-gt32-via-else-u-gt32+then-v-gt32}

pub returns-then-u-gt32 : goal.returns-then-u-gt32
unfolding head_in
returns-then-u-gt32 c = elim c.then-u-gt32.branch [
  | then-u-gt32-via-then-u-gt32 w ↦ simp (lt-ltb _ _ w.if-u-gt32.true)
  | then-u-gt32-via-else-u-gt32+then-v-gt32 w ↦ simp (le-ltb _ _ w.if-u-gt32.false, lt-ltb _ _ w.if-v-gt32.true)
]

pub returns : goal.returns
unfolding head_in
returns c = simp (le-ltb _ _ c.if-u-gt32.false, le-ltb _ _ c.if-v-gt32.false)

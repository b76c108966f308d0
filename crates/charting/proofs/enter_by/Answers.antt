use borrow.Author.Tests.{le-ltb, lt-ltb}
use Rattle.chart.specs.Chart.{entered_by}
use Rattle.charting.proofs.enter_by.Goals as goal
use Rattle.charting.proofs.enter_by.Goals.{then-a-gt32-via-then-a-gt32, then-a-gt32-via-else-a-gt32+then-b-gt32}

pub returns-then-a-gt32 : goal.returns-then-a-gt32
unfolding entered_by
returns-then-a-gt32 c = elim c.then-a-gt32.branch [
  | then-a-gt32-via-then-a-gt32 w ↦ simp (le-ltb _ _ c.requires, lt-ltb _ _ w.if-a-gt32.true)
  | then-a-gt32-via-else-a-gt32+then-b-gt32 w ↦ simp (le-ltb _ _ c.requires, le-ltb _ _ w.if-a-gt32.false, lt-ltb _ _ w.if-b-gt32.true)
]

pub returns-in-Open : goal.returns-in-Open
unfolding entered_by
returns-in-Open c = simp (le-ltb _ _ c.requires, le-ltb _ _ c.if-a-gt32.false, le-ltb _ _ c.if-b-gt32.false, c.in-Open.is) c.link.ensures

pub returns-in-Must : goal.returns-in-Must
unfolding entered_by
returns-in-Must c =
    simp (le-ltb _ _ c.requires, le-ltb _ _ c.if-a-gt32.false, le-ltb _ _ c.if-b-gt32.false, c.in-Must.is) (rw (← c.link-in-Must.ensures) c.claim.ensures)

pub returns-in-Barred : goal.returns-in-Barred
unfolding entered_by
returns-in-Barred c =
    simp (le-ltb _ _ c.requires, le-ltb _ _ c.if-a-gt32.false, le-ltb _ _ c.if-b-gt32.false, c.in-Barred.is) (rw c.row_word.ensures)

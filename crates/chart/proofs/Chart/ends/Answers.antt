use borrow.Author.Tests.{eq-eqb, ne_eqb}
use Rattle.chart.proofs.Laws.{ends_at}
use Rattle.chart.proofs.Chart.ends.Goals as goal
use Rattle.chart.proofs.Chart.ends.Goals.{else-must-via-then-must+else-w-ne1, else-must-via-else-must}

pub returns-then-w-ne1 : goal.returns-then-w-ne1
returns-then-w-ne1 c = ends_at _ _ _ _ (λ _. 0) c.word_at-w.ensures (λ end. simp (c.if-must.true, ne_eqb _ _ c.if-w-ne1.true))

pub returns : goal.returns
returns c = ends_at _ _ _ _ (λ end. end) c.word_at-w.ensures (λ end. elim c.else-must.branch [
  | else-must-via-then-must+else-w-ne1 w ↦ simp (w.if-must.true, eq-eqb _ _ w.if-w-ne1.false)
  | else-must-via-else-must w ↦ simp w.if-must.false
])

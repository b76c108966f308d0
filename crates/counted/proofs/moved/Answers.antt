use native.Mathlib.Omega.{arith}
use Rattle.counted.proofs.Laws.{moving_end, moving_next, moving_skip}
use borrow.Author.Rules.{rules}
use Rattle.counted.proofs.moved.Goals as goal
use Rattle.counted.proofs.moved.Goals.{else-y-x, then-y-x}

pub loop-y-preserved : goal.loop-y-preserved
loop-y-preserved c = elim c.if-y-x.branch [
  | then-y-x w ↦ rw w.links-is (
      moving_next c.loop-y.invariant _ (search rules) w.if-y-x.true
      (w.add.ensures.added (search rules) (search rules) (λ e. omega (arith, w.if-y-x.true))))
  | else-y-x w ↦ rw w.links-is (moving_skip c.loop-y.invariant (search rules) w.if-y-x.false)
]

pub returns : goal.returns
returns c = moving_end c.loop-y.invariant (search rules)

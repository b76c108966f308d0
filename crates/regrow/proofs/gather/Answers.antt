use native.Mathlib.Omega.{arith}
use Rattle.regrow.proofs.Growing.{gathered_next, gathered_start}
use Rattle.regrow.proofs.gather.Goals as goal

pub loop-i-init : goal.loop-i-init
loop-i-init c h = gathered_start h

pub loop-i-preserved : goal.loop-i-preserved
loop-i-preserved c h = rw c.bit-set.ensures (gathered_next (c.loop-i.invariant h) (omega arith) (omega arith))

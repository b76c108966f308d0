use native.Mathlib.Omega.{arith}
use Rattle.counted.proofs.Laws.{rows_copied}
use Rattle.counted.proofs.copied.Goals as goal

pub loop-a-init : goal.loop-a-init
loop-a-init c i j l n = absurd (omega arith)

pub loop-a-preserved : goal.loop-a-preserved
loop-a-preserved c i j l n =
    let next = c.row_copied.ensures in
    rows_copied _ _ _ c.loop-a.a c.loop-a.invariant next.row next.before (omega (arith, c.requires, c.loop-a-test.true)) i j l (omega arith)

pub returns : goal.returns
returns c i j l n = c.loop-a.invariant i j l (omega (arith, c.loop-a-test.false))

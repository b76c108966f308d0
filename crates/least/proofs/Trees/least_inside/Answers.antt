use mathlib.Core.Path.{◌≡◌}
use native.Mathlib.Omega.{arith}
use lib.ListN.{length}
use Rattle.least.proofs.Vectors.{count_is, on_least, on_settled, on_start}
use Rattle.least.proofs.Trees.least_inside.Goals as goal
use Rattle.least.proofs.Trees.least_inside.Goals.{Start}

-- the array has the length of its type
four : (c : Start) → length c.args.limits ≡ 4
four c = omega arith

pub returns-in_err-v : goal.returns-in_err-v
returns-in_err-v c = rw c.from_residual.ensures c.in_err-v.ensures

pub loop-c-init : goal.loop-c-init
loop-c-init c = on_start _ _ _ _ _ _ _ _ _ _ (four (goal.at.loop-c-init c).Start) _ c.in_ok-v.ensures

pub loop-c-preserved : goal.loop-c-preserved
loop-c-preserved c =
    let l = c.loop-c in
    on_settled _ _ _ _ _ _ _ _ _ _ (four (goal.at.loop-c-preserved c).Start) _ (count_is _ _ c.count-c-end.ensures.0) l.lower l.v l.c l.invariant _ _
    c.loop-c-test.true c.lowered-v.ensures c.above.ensures

pub returns : goal.returns
returns c =
    let l = c.loop-c in
    on_least _ _ _ _ _ _ _ _ _ _ (four (goal.at.returns c).Start) _ (count_is _ _ c.count-c-end.ensures.0) l.lower l.v l.c l.invariant (omega arith) (omega arith)

use Prim.Native.Nat.{◌<◌, ◌^◌}
use native.Mathlib.Omega.{arith}
use Rattle.spread.proofs.Members.{all_in, falls, spread_begins, turn}
use Rattle.spread.proofs.spread.Goals as goal

pub loop-left-init : goal.loop-left-init
loop-left-init c = let fresh : c.args.fresh < 2 ^ 64 = omega arith in let seeds : c.args.seeds < 2 ^ 64 = omega arith in spread_begins _ _ _ _ fresh seeds

pub loop-left-smaller : goal.loop-left-smaller
loop-left-smaller c =
    let a = c.args in
    let fresh : a.fresh < 2 ^ 64 = omega arith in
    let seeds : a.seeds < 2 ^ 64 = omega arith in
    rw (c.minus.ensures, c.bit.ensures)
    (falls _ _ _ _ fresh seeds c.loop-left.invariant c.loop-left-test.true c.lowest-u.ensures c.brought.ensures c.minus-more.ensures)

pub loop-left-preserved : goal.loop-left-preserved
loop-left-preserved c =
    let a = c.args in
    let fresh : a.fresh < 2 ^ 64 = omega arith in
    let seeds : a.seeds < 2 ^ 64 = omega arith in
    rw (c.minus.ensures, c.bit.ensures)
    (turn _ _ _ _ fresh seeds c.loop-left.invariant c.loop-left-test.true c.lowest-u.ensures c.brought.ensures c.minus-more.ensures)

pub returns : goal.returns
returns c =
    let a = c.args in
    let fresh : a.fresh < 2 ^ 64 = omega arith in
    let seeds : a.seeds < 2 ^ 64 = omega arith in
    all_in _ _ _ _ fresh seeds c.loop-left.invariant c.loop-left-test.false

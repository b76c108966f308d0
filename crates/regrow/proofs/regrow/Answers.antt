use mathlib.Core.Path.{ap, refl}
use Prim.Native.Nat.{◌<◌}
use native.Mathlib.Omega.{arith}
use Rattle.search.specs.Search.{found_of}
use Rattle.regrow.proofs.Growing.{left_end, left_next, left_none}
use Rattle.regrow.proofs.regrow.Goals as goal

pub returns-in_default : goal.returns-in_default
returns-in_default c keys h e r full =
    let l = c.loop-s.invariant keys h e r in
    let told = rw c.minus-fresh.ensures at c.accepted.ensures in
    absurd (omega (arith, left_none l c.nodes-nodes.ensures refl (omega (arith, l.width_is)) told (ap found_of c.in_default.is)))

pub loop-s-preserved : goal.loop-s-preserved
loop-s-preserved c keys h e r =
    let l = c.loop-s.invariant keys h e r in
    let told = rw c.minus-fresh.ensures at c.accepted.ensures in
    let room : c.loop-s.s < 31 = omega arith in
    rw c.bit.ensures (left_next l c.nodes-nodes.ensures refl (omega (arith, l.width_is)) told _ room (ap found_of c.in-Some.is))

pub returns : goal.returns
returns c keys h e r full = left_end (c.loop-s.invariant keys h e r) (omega arith) full

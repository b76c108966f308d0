use native.Mathlib.Omega.{arith}
use Rattle.room.specs.Room.{room_in}
use Rattle.room.proofs.Rooms.{room_end, room_start, room_turn}
use Rattle.room.proofs.room.Goals as goal

pub loop-c-init : goal.loop-c-init
loop-c-init c = room_start (omega (arith, c.count-c.ensures.0, c.count-c.ensures.1)) c.count-c.ensures.0

pub loop-c-preserved : goal.loop-c-preserved
loop-c-preserved c =
    room_turn c.loop-c.invariant c.loop-c-test.true
    (rw c.cost_of.ensures at c.left_of-sum.ensures.0) c.left_of-sum.ensures.1

pub returns : goal.returns
unfolding room_in
returns c = room_end c.loop-c.invariant c.loop-c-test.false

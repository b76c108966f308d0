-- The loop's invariant: the sum is what the criteria from c on leave, and has room for the others.
use lib.Dec.{ltb}
use Rattle.lists.specs.Lists.{pick}
use Rattle.chosen.specs.Chosen.{rows_of}
use Rattle.tally.specs.Kinds.{numbers_of}
use Rattle.weighing.specs.Weighing.{factor_in}
use Rattle.room.specs.Room.{left_in}
use Rattle.room.proofs.Rooms.{RoomTo}
use Rattle.room.proofs.room.Given as goal

abbrev pub invariant-loop-c : goal.invariant-loop-c
invariant-loop-c l =
    let w = l.criteria in
    RoomTo (left_in (numbers_of w.kinds) w.costs.now w.leads.now l.limits (rows_of l.inc)) (factor_in l.limits l.factors) (pick (ltb w.k 4) w.k 4) l.c l.sum

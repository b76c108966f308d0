-- `copies::insert` meets its contract: at each turn the places from place i to `end` are raised.
use Rattle.copies.proofs.Moves.{Raising}
use Rattle.copies.proofs.insert.Given as goal

abbrev pub invariant-loop-i : goal.invariant-loop-i
invariant-loop-i g l = Raising l.initial.table l.at l.end l.k l.table l.i

-- The invariant: the bytes so far stand in the buffer, up to the place (`Putting`).
use Rattle.printout.proofs.Laws.{Putting}
use Rattle.printout.proofs.put_some.Given as goal

abbrev pub invariant-loop-byte : goal.invariant-loop-byte
invariant-loop-byte l = Putting l.initial.out l.at l.bytes l.out l.place l.byte-index

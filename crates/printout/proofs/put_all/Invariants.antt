-- The invariant: the first i bytes stand in the buffer (`Putting`).
use Rattle.std.proofs.Common.{◌+◌}
use Rattle.printout.proofs.Laws.{Putting}
use Rattle.printout.proofs.put_all.Given as goal

abbrev pub invariant-loop-i : goal.invariant-loop-i
invariant-loop-i l = Putting l.initial.out l.at l.bytes l.out (l.at + l.i) l.i

-- The numbers so far stand in the buffer (`Numbered`).
use Rattle.std.proofs.Common.{map}
use Rattle.printout.proofs.Spelling.{Numbered}
use Rattle.printout.proofs.numbers.Given as goal

abbrev pub invariant-loop-n : goal.invariant-loop-n
invariant-loop-n g l = Numbered (map g.N.AsNumber.value l.numbers) l.initial.out l.at l.out l.place l.n-index

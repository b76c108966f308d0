-- `copies::copy` meets its contract: at each turn the first i places stand in the table.
use Rattle.copies.proofs.Pasting.{Pasting}
use Rattle.copies.proofs.copy.Given as goal

abbrev pub invariant-loop-i : goal.invariant-loop-i
invariant-loop-i g l = Pasting l.initial.table l.at l.places l.m l.table l.i

-- `copies::shift` meets its contract: at each turn the first i places are moved.
use lib.ListN.{drop}
use Rattle.copies.proofs.Pasting.{Pasting}
use Rattle.copies.proofs.shift.Given as goal

abbrev pub invariant-loop-i : goal.invariant-loop-i
invariant-loop-i g l = Pasting l.initial.table l.to (drop l.from l.initial.table) l.n l.table l.i

-- The loop's invariant: the rows that stay of the first i stand in the first places.
use Rattle.table.proofs.Closing.{Closing}
use Rattle.table.proofs.close_up.Given as goal

abbrev pub invariant-loop-i : goal.invariant-loop-i
invariant-loop-i l = Closing l.vector l.initial.costs l.initial.witnesses l.w l.count l.i l.kept l.costs l.witnesses

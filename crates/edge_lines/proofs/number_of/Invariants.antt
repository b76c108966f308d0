-- At each turn the bytes so far are digits, and the value is theirs, held at the cap.
use Rattle.edge_lines.proofs.Numbers.{NumberTo}
use Rattle.edge_lines.proofs.number_of.Given as goal

abbrev pub invariant-loop-b : goal.invariant-loop-b
invariant-loop-b l = NumberTo l.bytes l.b-index l.value

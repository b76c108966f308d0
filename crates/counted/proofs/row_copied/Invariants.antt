-- The loop's invariant: the node's first b links are copied, and the places before them are as they were (`RowCopied`).
use Rattle.counted.proofs.Laws.{RowCopied}
use Rattle.counted.proofs.row_copied.Given as goal

abbrev pub invariant-loop-b : goal.invariant-loop-b
invariant-loop-b l = RowCopied l.links.weights l.initial.next.weights l.next.weights l.a l.b

-- At each turn the rows are those of the tree so many moves behind the first as are made (`Kept`). The moves that are left get fewer.
use Rattle.moves.proofs.Turns.{Kept}
use Rattle.moves.proofs.moved.Given as goal

abbrev pub invariant-loop-left : goal.invariant-loop-left
invariant-loop-left l = Kept l.chart.words l.moves l.width l.initial.rows l.rows l.part l.left

abbrev pub decreases-loop-left : goal.decreases-loop-left
decreases-loop-left l = l.left

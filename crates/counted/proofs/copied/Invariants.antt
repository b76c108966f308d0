-- The loop's invariant: the links of the nodes below a are copied.
use Rattle.counts.specs.Matrix.{Agree}
use Rattle.weights.specs.Weights.{matrix_in}
use Rattle.counted.proofs.copied.Given as goal

abbrev pub invariant-loop-a : goal.invariant-loop-a
invariant-loop-a l = Agree (matrix_in l.next.weights) (matrix_in l.links.weights) l.a

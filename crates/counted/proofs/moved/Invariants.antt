-- The loop's invariant: with the links from y on moved too, it is the matrix with all links moved (`Moving`).
use Rattle.weights.specs.Weights.{matrix_in}
use Rattle.counted.proofs.Laws.{Moving}
use Rattle.counted.proofs.moved.Given as goal

abbrev pub invariant-loop-y : goal.invariant-loop-y
invariant-loop-y l = Moving l.v l.x (matrix_in l.fn.links.weights) (matrix_in l.links.weights) l.y

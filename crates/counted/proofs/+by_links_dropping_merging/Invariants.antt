-- The invariant of the loop of `by_links`: what was counted so far and what is left of v's links come to the whole count (`Linking`). Its measure is how many are left.
-- Three functions call each other: with each call the number of links left falls, or it is the same and the function is nearer to `dropping`.
use Rattle.std.proofs.Common.{◌*◌, ◌+◌, ◌-◌}
use Rattle.weights.specs.Weights.{matrix_in}
use Rattle.counted.specs.Counted.{links_left}
use Rattle.counted.proofs.Steps.{Linking}
use Rattle.counted.proofs.+by_links_dropping_merging.Given as goal

abbrev pub decreases-by_links : goal.decreases-by_links
decreases-by_links l = 3 * links_left l.v + 2

abbrev pub decreases-dropping : goal.decreases-dropping
decreases-dropping l = 3 * links_left l.k

abbrev pub decreases-merging : goal.decreases-merging
decreases-merging l = 3 * links_left l.v + 1

abbrev pub invariant-by_links-loop-x : goal.invariant-by_links-loop-x
invariant-by_links-loop-x l = Linking l.v l.f l.so (matrix_in l.initial.links.weights) (matrix_in l.links.weights) l.g l.s l.from

abbrev pub decreases-by_links-loop-x : goal.decreases-by_links-loop-x
decreases-by_links-loop-x l = l.v - l.from

-- The loop's invariant: the vector is in the box, if the first was. The measure: its component c.
use Prim.Native.Nat.{◌<◌}
use lib.ListN.{get_or}
use Rattle.least.specs.Trees.{OnTrees, count_of}
use Rattle.least.proofs.Vectors.{InBox}
use Rattle.least.proofs.Trees.lowered.Given as goal

abbrev pub invariant-loop-w : goal.invariant-loop-w
invariant-loop-w l = OnTrees l.self l.limits (λ Of. (l.c < count_of l.self → InBox Of (count_of l.self) l.limits l.initial.v → InBox Of (count_of l.self) l.limits l.v))

abbrev pub decreases-loop-w : goal.decreases-loop-w
decreases-loop-w l = get_or l.v l.c 0

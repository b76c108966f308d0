use mathlib.Core.Path.{◌≡◌}
use lib.ListN.{drop}
use Rattle.grow.specs.Grow.{fresh_after}
use Rattle.grow.proofs.fresh_after.Given as goal

abbrev pub invariant-loop-node : goal.invariant-loop-node
invariant-loop-node l = fresh_after l.nodes l.node-items ≡ fresh_after l.word (drop l.node-index l.node-items)

-- `front::has_few_trees` is safe: the product stays at most ten million.
use Prim.Native.Nat.{◌≤◌}
use Rattle.front.proofs.has_few_trees.Given as goal

abbrev pub invariant-loop-v : goal.invariant-loop-v
invariant-loop-v l = (l.product ≤ 10000000) × (l.most ≤ 10000000)

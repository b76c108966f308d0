use native.Mathlib.Nat.{mul-le-mul_right}
use native.Mathlib.Omega.{arith}
use Rattle.front.proofs.has_few_trees.Goals as goal

pub overflow_mul-product : goal.overflow_mul-product
overflow_mul-product c = omega (arith, c.degree-product.ensures, mul-le-mul_right c.degree-product.result c.loop-v.invariant.0)

-- `counted::counted` meets its contract: no node is not counted.
use mathlib.Core.Path.{◌≡◌, sym}
use Prim.Native.Nat.{min, ℕ}
use native.Mathlib.Omega.{arith}
use Rattle.counts.specs.Matrix.{Matrix, held_total, limit}
use Rattle.counts.proofs.HeldSteps.{held_empty}
use Rattle.counted.proofs.counted.Goals as goal

nothing : (w : Matrix) (k : ℕ) → k ≡ 0 → 0 ≡ held_total limit 0 1 w (min k 32)
nothing w k e = let z : min k 32 ≡ 0 = omega arith in rw z (sym (held_empty limit 0 1 w))

pub returns-then-k-eq0 : goal.returns-then-k-eq0
returns-then-k-eq0 c = nothing _ _ c.if-k-eq0.true

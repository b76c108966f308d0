use Prim.Native.Nat.{◌*◌, ◌≤◌}
use native.Mathlib.Omega.{arith}
use Rattle.fields.proofs.Laws.{row_reach}
use Rattle.fields.proofs.row_start.Goals as goal

reach : (c : goal.After-row_bytes) → c.args.row * c.row_bytes.result ≤ 65536 * 1025
reach c = rw c.row_bytes.ensures (row_reach _ c.args.row (omega arith) (omega (arith, c.at-k.ensures)))

pub overflow_mul-result : goal.overflow_mul-result
overflow_mul-result c = omega (arith, reach c)

pub overflow_add-result-2 : goal.overflow_add-result-2
overflow_add-result-2 c = omega (arith, reach c)

pub returns : goal.returns
returns c = (rw (c.at-k.ensures, c.row_bytes.ensures), omega (arith, reach c))

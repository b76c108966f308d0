use mathlib.Core.Path.{ap}
use Prim.Native.Nat.{◌*◌, ◌≤◌}
use native.Mathlib.Omega.{arith}
use Rattle.network_file.specs.File.{Sizes}
use Rattle.fields.proofs.Laws.{row_reach}
use Rattle.network.proofs.Laws.{body_by}
use Rattle.network.proofs.body_met.Goals as goal
use Rattle.network.proofs.body_met.Goals.{After-row_bytes}

reach : (c : After-row_bytes) → c.args.header.m * c.row_bytes.result ≤ 65536 * 1025
reach c =
    rw c.row_bytes.ensures (row_reach _ c.args.header.m (omega arith) (omega (arith, ap (λ (s : Sizes). s.k) c.requires)))

pub overflow_mul-result : goal.overflow_mul-result
overflow_mul-result c = omega (arith, reach c)

pub overflow_add-result-2 : goal.overflow_add-result-2
overflow_add-result-2 c = omega (arith, reach c)

pub returns : goal.returns
returns c = rw (body_by _ _ c.requires, c.length_field.ensures, c.row_bytes.ensures)

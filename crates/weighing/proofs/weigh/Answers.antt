use mathlib.Core.Path.{◌≡◌, ap}
use Prim.Native.Nat.{◌*◌, ◌≤◌, ℕ}
use native.Mathlib.Nat.{mul-le-mul}
use native.Mathlib.Omega.{arith}
use lib.ListN.{get_or, take}
use lib.Seq.{take_all}
use Rattle.weighing.proofs.Turns.{fresh, next_row, raised_end, raised_next, raised_start}
use Rattle.weighing.proofs.weigh.Goals as goal

-- a rate times a factor
product : (rate factor : ℕ) → rate ≤ 4294967295 * 840 → factor ≤ 65535 → rate * factor ≤ 288230376151711744
product rate factor h k = omega (arith, mul-le-mul {n₁ = rate} {m₁ = factor} {n₂ = 4294967295 * 840} {m₂ = 65535} h k)

pub loop-row-init : goal.loop-row-init
loop-row-init c = raised_start (omega arith)

pub overflow_add-weights : goal.overflow_add-weights
overflow_add-weights c =
    let l = c.loop-row in
    let row = get_or c.args.usable.now l.row-index 0 in
    omega (
      arith,
      l.invariant.others row (fresh c.args.usable.now l.row-index c.requires.once c.loop-row-test.true),
      c.requires.room row (omega (arith, c.type_inv.usable l.row-index)),
      product c.rate_of.result c.args.factor c.rate_of.ensures.1 (omega (arith, c.ranges.factor)),
    )

pub loop-row-preserved : goal.loop-row-preserved
loop-row-preserved c =
    let l = c.loop-row in
    rw (next_row c.args.usable.now l.row-index c.loop-row-test.true) (raised_next l.invariant (omega (arith, c.type_inv.usable l.row-index))
    (fresh c.args.usable.now l.row-index c.requires.once c.loop-row-test.true)
    (ap (λ (x : ℕ). x * c.args.factor) c.rate_of.ensures.0) (product c.rate_of.result c.args.factor c.rate_of.ensures.1 (omega (arith, c.ranges.factor))))

pub returns : goal.returns
returns c =
    let all : take c.loop-row.row-index c.args.usable.now ≡ c.args.usable.now = take_all c.loop-row.row-index c.args.usable.now c.loop-row-test.false in
    λ q h. raised_end (rw all at c.loop-row.invariant) q

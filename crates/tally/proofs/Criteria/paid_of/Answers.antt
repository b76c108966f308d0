use mathlib.Core.Path.{refl}
use native.Mathlib.Omega.{arith}
use Rattle.lists.specs.Lists.{filter_b, largest, range}
use Rattle.chosen.proofs.Passed.{passed_start, passed_turn}
use Rattle.tally.proofs.Laws.{paid_start, paid_turn}
use Rattle.tally.proofs.Criteria.paid_of.Goals as goal

pub loop-row-init : goal.loop-row-init
unfolding range filter_b largest
loop-row-init c = passed_start (cc) (paid_start refl)

pub loop-row-preserved : goal.loop-row-preserved
loop-row-preserved c =
    passed_turn c.loop-row.invariant c.in-Some.field-0.now c.in-Some.ensures.steps
    (λ done so. paid_turn so c.lead_of-lead.ensures c.cost_at-cost.ensures (omega (arith, c.lead_of-lead.type_inv)) (omega (arith, c.cost_at-cost.type_inv))
    c.saturating_sub.ensures c.max.ensures)

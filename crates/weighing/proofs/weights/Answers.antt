use mathlib.Core.Path.{◌∙◌, ◌≡◌, refl, subst, sym}
use native.Mathlib.Omega.{arith}
use Rattle.lists.specs.Lists.{range}
use Rattle.lists.proofs.Distinct.{Distinct}
use Rattle.chosen.specs.Chosen.{rows_on}
use Rattle.chosen.proofs.Flags.{on_distinct, on_member}
use Rattle.weighing.specs.Weighing.{weights_in}
use Rattle.weighing.proofs.Turns.{mixed_end, mixed_more, mixed_skip, mixed_start}
use Rattle.weighing.proofs.weights.Goals as goal
use Rattle.weighing.proofs.weights.Goals.{After-rows-usable}

pub loop-c-init : goal.loop-c-init
unfolding range
loop-c-init c = mixed_start _ c.count-c.ensures.0 refl

-- the usable rows are those whose flags are set
usable : (c : After-rows-usable) → c.rows-usable.result.now ≡ rows_on c.args.flags.now
usable c = c.rows-usable.ensures.0 ∙ c.rows_on-on.ensures

pub weigh-requires-clause-once : goal.weigh-requires-clause-once
weigh-requires-clause-once c = subst Distinct (sym (usable (goal.at.weigh-requires-clause-once c).After-rows-usable)) (on_distinct c.args.flags.now)

pub loop-c-preserved-then-factor-gt0 : goal.loop-c-preserved-then-factor-gt0
loop-c-preserved-then-factor-gt0 c =
    let on = usable (goal.at.loop-c-preserved-then-factor-gt0 c).After-rows-usable in
    mixed_more c.loop-c.invariant c.loop-c-test.true (omega arith) c.factor_at-factor.ensures (rw on at c.streets_of-streets.ensures)
    (λ q h. let more = rw on at (c.weigh.ensures q h) in rw (on_member c.args.flags.now q h) at more)

pub loop-c-preserved : goal.loop-c-preserved
loop-c-preserved c = mixed_skip c.loop-c.invariant c.loop-c-test.true c.factor_at-factor.ensures c.if-factor-gt0.false

pub returns : goal.returns
unfolding weights_in
returns c = mixed_end c.loop-c.invariant c.loop-c-test.false

use Rattle.std.proofs.Common.{arith, refl}
use lib.Seq.{take_all}
use Rattle.survey.proofs.Parts.{first_read, laid_end, laid_start, laid_turn}
use Rattle.survey.proofs.Putting.{row_wide}
use Rattle.survey.proofs.Surveyed.put_costs.Goals as goal

pub loop-c-init : goal.loop-c-init
loop-c-init c = laid_start refl

pub loop-c-preserved : goal.loop-c-preserved
loop-c-preserved c =
    let wide = row_wide _ _ c.args.self.now.fitting.same _ c.requires in
    laid_turn c.loop-c.invariant c.loop-c-test.true _ (first_read _ _ 0 (omega (arith, wide)) c.cost_at.ensures) c.put_u32-at.auto.buffer c.put_u32-at.ensures

pub returns : goal.returns
returns c =
    let wide = row_wide _ _ c.args.self.now.fitting.same _ c.requires in
    laid_end c.loop-c.invariant c.loop-c-test.false (take_all _ _ (omega (arith, wide)))

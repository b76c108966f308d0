use Rattle.std.proofs.Common.{refl}
use lib.Seq.{take_all}
use Rattle.costs.specs.Network.{no_row}
use Rattle.survey.proofs.Parts.{first_read, laid_end, laid_start, laid_turn}
use Rattle.survey.proofs.Putting.{row_there, rows_few}
use Rattle.survey.proofs.Surveyed.put_rows.Goals as goal

pub loop-r-init : goal.loop-r-init
loop-r-init c = laid_start refl

pub loop-r-preserved : goal.loop-r-preserved
loop-r-preserved c =
    let more = c.loop-r-test.true in
    let there = row_there _ _ c.args.self.now.fitting.same _ more in
    laid_turn c.loop-r.invariant more _ (first_read _ _ no_row there refl) c.put_row-at.auto.buffer c.put_row-at.ensures

pub returns : goal.returns
returns c = laid_end c.loop-r.invariant c.loop-r-test.false (take_all _ _ (rows_few _ _ c.args.self.now.fitting.same))

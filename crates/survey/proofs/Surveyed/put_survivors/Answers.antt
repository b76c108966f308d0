use Rattle.std.proofs.Common.{◌∙◌, ap, ap₂, sym, length}
use Rattle.network_file.specs.File.{network_of}
use Rattle.printout.specs.Text.{filled}
use Rattle.survey.proofs.Parts.{laid_end, laid_skip, laid_start, laid_turn}
use Rattle.survey.proofs.Putting.{row_there, rows_few}
use Rattle.survey.proofs.Standing.{standing_all, standing_more, standing_none, standing_same}
use Rattle.survey.proofs.Surveyed.put_survivors.Goals as goal
use Rattle.survey.proofs.Surveyed.put_survivors.Goals.{else-stands, then-stands}

pub loop-r-init : goal.loop-r-init
loop-r-init c = laid_start (standing_none (network_of c.args.self.now.file.now).rows _)

pub loop-r-preserved : goal.loop-r-preserved
loop-r-preserved c =
    let more = c.loop-r-test.true in
    let there = row_there _ _ c.args.self.now.fitting.same _ more in
    let says = sym c.stands.ensures in
    elim c.if-stands.branch [
      | then-stands w ↦
          laid_turn c.loop-r.invariant more _ (standing_more _ _ _ there (says ∙ w.if-stands.true)) (ap length w.buffer-is ∙ w.put_row-at.auto.buffer)
          (ap₂ filled w.buffer-is w.at-is ∙ w.put_row-at.ensures)
      | else-stands w ↦ laid_skip c.loop-r.invariant more (standing_same _ _ _ there (says ∙ w.if-stands.false)) w.buffer-is w.at-is
    ]

pub returns : goal.returns
returns c = laid_end c.loop-r.invariant c.loop-r-test.false (standing_all _ _ _ (rows_few _ _ c.args.self.now.fitting.same))

use Rattle.std.proofs.Common.{◌∙◌, arith, sym}
use Rattle.survey.proofs.Counting.{counting_end, counting_more, counting_same, counting_start}
use Rattle.survey.proofs.Putting.{row_there, rows_few}
use Rattle.survey.proofs.Surveyed.survivor_count.Goals as goal
use Rattle.survey.proofs.Surveyed.survivor_count.Goals.{else-stands, then-stands}

pub loop-r-init : goal.loop-r-init
loop-r-init c = counting_start

pub loop-r-preserved : goal.loop-r-preserved
loop-r-preserved c =
    let few = row_there _ _ c.args.self.now.fitting.same _ c.loop-r-test.true in
    elim c.if-stands.branch [
      | then-stands w ↦ rw w.count-is (counting_more c.loop-r.invariant few (sym c.stands.ensures ∙ w.if-stands.true))
      | else-stands w ↦ rw w.count-is (counting_same c.loop-r.invariant few (sym c.stands.ensures ∙ w.if-stands.false))
    ]

pub returns-clause-count : goal.returns-clause-count
returns-clause-count c = (counting_end c.loop-r.invariant (omega (arith, c.loop-r-test.false, rows_few _ _ c.args.self.now.fitting.same))).0

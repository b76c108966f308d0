use mathlib.Core.Path.{◌∙◌, sym}
use Rattle.table.proofs.Closing.{closing_gone, closing_start, closing_stays}
use Rattle.table.proofs.close_up.Goals as goal
use Rattle.table.proofs.close_up.Goals.{In-loop-i, else-not-dominates, then-not-dominates}

pub loop-i-init : goal.loop-i-init
loop-i-init c = closing_start _ _ _ _ _

pub loop-i-preserved : goal.loop-i-preserved
loop-i-preserved c =
    elim c.if-not-dominates.branch [
      | then-not-dominates w ↦
          let costs = w.shift in
          let paths = w.shift-then-not-dominates in
          rw (w.costs-is, w.witnesses-is, w.kept-is)
          (closing_stays c.loop-i.invariant c.requires.0 c.requires.1 c.loop-i-test.true (sym c.dominates.ensures ∙ w.if-not-dominates.true)
          costs.ensures paths.ensures costs.auto.table paths.auto.table)
      | else-not-dominates w ↦
          rw (w.costs-is, w.witnesses-is, w.kept-is)
          (closing_gone c.loop-i.invariant c.requires.0 c.requires.1 c.loop-i-test.true (sym c.dominates.ensures ∙ w.if-not-dominates.false))
    ]

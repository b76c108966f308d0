use mathlib.Core.Path.{◌∙◌}
use Rattle.completions.specs.Labels.{labels_of}
use Rattle.chosen.proofs.Passed.{passed_start, passed_turn}
use Rattle.labels.proofs.Ends.labels_of.Goals as goal

pub loop-row-init : goal.loop-row-init
unfolding labels_of
loop-row-init c = passed_start (cc) c.own-labels.ensures

pub loop-row-preserved : goal.loop-row-preserved
unfolding labels_of
loop-row-preserved c =
    passed_turn c.loop-row.invariant c.in-Some.field-0.now c.in-Some.ensures.steps
    (λ done so. c.relabel.ensures ∙ (rw (c.labels_at-a.ensures.first, c.labels_at-a.ensures.second, so, c.in-Some.row-is)))

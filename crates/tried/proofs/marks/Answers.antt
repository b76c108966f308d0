use mathlib.Core.Path.{◌∙◌, ap}
use mathlib.Core.Bool.{Bool, true}
use mathlib.Core.List.{List}
use lib.ListN.{get_or, set}
use Rattle.tried.proofs.Laws.{marks_next, marks_skip, marks_start}
use Rattle.tried.proofs.marks.Goals as goal
use Rattle.tried.proofs.marks.Goals.{else-row-lt256, then-row-lt256}

pub loop-row-init : goal.loop-row-init
loop-row-init c = marks_start

pub loop-row-preserved : goal.loop-row-preserved
loop-row-preserved c =
    let row = get_or c.args.rows.now c.loop-row.row-index 0 in
    elim c.if-row-lt256.branch [
      | then-row-lt256 w ↦ w.drawn-is ∙ ap (λ (drawn : List Bool). set drawn row true) c.loop-row.invariant ∙ marks_next _ _ c.loop-row-test.true w.if-row-lt256.true
      | else-row-lt256 w ↦ w.drawn-is ∙ c.loop-row.invariant ∙ marks_skip _ _ c.loop-row-test.true w.if-row-lt256.false
    ]

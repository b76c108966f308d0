use mathlib.Core.Path.{◌∙◌, ap, sym}
use native.Mathlib.Omega.{arith}
use lib.Dec.{ltb}
use lib.ListN.{length-take}
use borrow.Author.Tests.{eq-eqb, le-ltb, lt-ltb, ne_eqb}
use Rattle.chosen.specs.Chosen.{rows_of}
use Rattle.labels.proofs.Laws.{choose_closed, choose_end, choose_enough, choose_off, choose_start, choose_taken}
use Rattle.labels.proofs.Ends.choose.Goals as goal
use Rattle.labels.proofs.Ends.choose.Goals.{else-a-b, then-a-b}

pub loop-row-init : goal.loop-row-init
loop-row-init c = choose_start _ _ _ _ c.args.need c.args.start _ c.empty-chosen.ensures

pub loop-row-preserved-then-at-eq0 : goal.loop-row-preserved-then-at-eq0
loop-row-preserved-then-at-eq0 c =
    let l = c.loop-row in
    let off = ap (ltb 0) (sym c.at.ensures) ∙ le-ltb 0 c.at.result (omega (arith, c.if-at-eq0.true)) in
    l.invariant ∙ choose_off _ _ _ _ l.left l.labels (rows_of l.chosen) l.row-index c.loop-row-test.true off

pub loop-row-preserved : goal.loop-row-preserved
loop-row-preserved c =
    let l = c.loop-row in
    let on = ap (ltb 0) (sym c.at.ensures) ∙ lt-ltb 0 c.at.result (omega (arith, c.if-at-eq0.false)) in
    let a = c.labels_at-a.ensures.first in
    let b = c.labels_at-a.ensures.second in
    l.invariant ∙ elim c.if-a-b.branch [
      | then-a-b w ↦
          choose_taken _ _ _ _ l.left l.labels (rows_of l.chosen) l.row-index c.loop-row-test.true c.if-left-eq0.false on (rw (sym a, sym b) (ne_eqb _ _ w.if-a-b.true))
          ∙ (rw (w.left-is, w.labels-is, w.chosen-is, w.extended-chosen.ensures, w.relabel.ensures, a, b))
      | else-a-b w ↦
          choose_closed _ _ _ _ l.left l.labels (rows_of l.chosen) l.row-index c.loop-row-test.true c.if-left-eq0.false on (rw (sym a, sym b) (eq-eqb _ _ w.if-a-b.false))
          ∙ (rw (w.left-is, w.labels-is, w.chosen-is))
    ]

pub returns-after-loop-row : goal.returns-after-loop-row
returns-after-loop-row c =
    let l = c.loop-row in
    sym (l.invariant ∙ choose_end _ _ _ _ l.left l.labels (rows_of l.chosen) l.row-index c.loop-row-test.false (simp length-take (omega arith)))

pub returns-then-left-eq0 : goal.returns-then-left-eq0
returns-then-left-eq0 c =
    let l = c.loop-row in
    sym (l.invariant ∙ (rw c.if-left-eq0.true (choose_enough _ _ _ _ l.labels (rows_of l.chosen) l.row-index (simp length-take (omega arith)))))

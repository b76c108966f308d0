use mathlib.Core.Path.{◌∙◌, sym}
use Rattle.copies.proofs.Moves.{move_reads, move_start, moved_all}
use Rattle.copies.proofs.Pasting.{pasting_end, pasting_more}
use Rattle.copies.proofs.shift.Goals as goal

pub loop-i-init : goal.loop-i-init
loop-i-init g c = move_start _ _ _ _ c.if-within.ensures.order c.if-within.ensures.inside

pub loop-i-preserved : goal.loop-i-preserved
loop-i-preserved g c =
    let w = c.if-within.ensures in
    let l = c.loop-i in
    let reads = move_reads _ _ _ _ w.order w.inside l.invariant c.loop-i-test.true in
    pasting_more l.invariant _ c.loop-i-test.true (rw (← reads) cc)

pub returns-after-loop-i : goal.returns-after-loop-i
returns-after-loop-i g c =
    let w = c.if-within.ensures in
    pasting_end c.loop-i.invariant c.loop-i-test.false ∙ sym (moved_all _ _ _ _ w.order w.inside)

use mathlib.Core.Path.{◌∙◌, refl}
use Rattle.copies.proofs.Moves.{raise_start, raised_more, raised_row}
use Rattle.copies.proofs.insert.Goals as goal

pub loop-i-init : goal.loop-i-init
loop-i-init g c = raise_start _ _ _ _ c.if-within.ensures.order c.if-within.ensures.inside

pub loop-i-preserved : goal.loop-i-preserved
loop-i-preserved g c = raised_more c.loop-i.invariant _ c.loop-i-test.true c.index-table-i.is

pub returns-after-loop-i : goal.returns-after-loop-i
returns-after-loop-i g c = c.copy.ensures ∙ raised_row c.loop-i.invariant c.loop-i-test.false _ refl

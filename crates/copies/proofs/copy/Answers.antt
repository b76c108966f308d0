use mathlib.Core.Path.{◌∙◌}
use Rattle.copies.proofs.Copies.{copied_is, room_least}
use Rattle.copies.proofs.Pasting.{pasting_end, pasting_more, pasting_start}
use Rattle.copies.proofs.copy.Goals as goal

pub loop-i-init : goal.loop-i-init
loop-i-init g c =
    let least = room_least _ _ _ _ _ _ c.min.ensures c.min-m.ensures in
    pasting_start _ _ _ _ least.1 least.2

pub loop-i-preserved : goal.loop-i-preserved
loop-i-preserved g c = pasting_more c.loop-i.invariant _ c.loop-i-test.true c.index-places-i.is

pub returns-after-loop-i : goal.returns-after-loop-i
returns-after-loop-i g c =
    let least = room_least _ _ _ _ _ _ c.min.ensures c.min-m.ensures in
    pasting_end c.loop-i.invariant c.loop-i-test.false ∙ copied_is _ _ _ _ _ least.0

use mathlib.Core.Path.{refl}
use Rattle.fields.proofs.Laws.{row_read}
use Rattle.fields.proofs.row_at.Goals as goal

pub returns-then-at-file : goal.returns-then-at-file
returns-then-at-file c =
    row_read _ _ _ c.header_of-header.ensures _ _ _ _ c.state_or_open-state.result _ c.if-row-m.true c.row_start-at.ensures.0
    refl refl c.u16_at.ensures c.state_at.ensures
    c.state_or_open-state.ensures

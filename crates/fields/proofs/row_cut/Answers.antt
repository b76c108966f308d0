use Rattle.fields.proofs.Laws.{row_none, row_read}
use Rattle.fields.proofs.row_cut.Goals as goal

pub returns-then-row-m : goal.returns-then-row-m
returns-then-row-m c =
    row_read _ _ _ c.header_of-header.ensures _ _ _ _ c.state_or_open-state.result _ c.if-row-m.true c.row_start-at.ensures.0
    c.at.ensures c.at-then-row-m.ensures c.u16_at.ensures c.state_at.ensures
    c.state_or_open-state.ensures

pub returns-else-row-m : goal.returns-else-row-m
returns-else-row-m c = row_none _ _ _ c.header_of-header.ensures c.if-row-m.false

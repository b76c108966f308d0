use Rattle.fields.proofs.Laws.{street_none, street_read}
use Rattle.fields.proofs.street_at.Goals as goal

pub returns-then-row-m : goal.returns-then-row-m
returns-then-row-m c =
    street_read _ _ _ c.header_of-header.ensures _ _ c.if-row-m.true c.row_start.ensures.0 c.u16_at.ensures

pub returns-else-row-m : goal.returns-else-row-m
returns-else-row-m c = street_none _ _ _ c.header_of-header.ensures c.if-row-m.false

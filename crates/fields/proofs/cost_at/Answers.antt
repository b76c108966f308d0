use Rattle.fields.proofs.Laws.{cost_nowhere, cost_past, cost_read}
use Rattle.fields.proofs.cost_at.Goals as goal

pub returns-then-criterion-k : goal.returns-then-criterion-k
returns-then-criterion-k c =
    cost_read _ _ _ c.header_of-header.ensures c.args.criterion _ _ c.if-row-m.true c.if-criterion-k.true
    (rw (c.state_width.ensures, c.row_start.ensures.0)) c.u32_at.ensures

pub returns-else-criterion-k : goal.returns-else-criterion-k
returns-else-criterion-k c =
    cost_past _ _ _ c.header_of-header.ensures c.args.criterion c.if-row-m.true c.if-criterion-k.false

pub returns-else-row-m : goal.returns-else-row-m
returns-else-row-m c = cost_nowhere _ _ _ c.header_of-header.ensures c.args.criterion c.if-row-m.false

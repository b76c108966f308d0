use Rattle.std.proofs.Common.{◌∙◌, ap}
use Rattle.edge_lines.specs.Numbers.{lines_left}
use Rattle.edge_read.proofs.Turns.{rows_end, rows_start, rows_turn}
use Rattle.edge_read.proofs.put_rows.Goals as goal

pub loop-line-init : goal.loop-line-init
loop-line-init c = rows_start _ _ (ap lines_left c.into_iter-line-iterator.ensures.into_iter_gives ∙ c.new-line-items.ensures)

pub loop-line-preserved : goal.loop-line-preserved
loop-line-preserved c = rows_turn c.loop-line.invariant c.in-Some.ensures.steps c.put_line-at.ensures c.put_line-at.auto.buffer

pub returns : goal.returns
returns c = rows_end c.loop-line.invariant c.in-None.ensures.steps.0

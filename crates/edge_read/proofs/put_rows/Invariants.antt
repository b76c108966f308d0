-- What has been put into the buffer, with the rows of the lines that are left, comes to the rows of all lines (`RowsTo`).
use Rattle.edge_lines.specs.Numbers.{lines_left}
use Rattle.edge_lines.specs.Reading.{held_lines}
use Rattle.edge_read.proofs.Turns.{RowsTo}
use Rattle.edge_read.proofs.put_rows.Given as goal

abbrev pub invariant-loop-line : goal.invariant-loop-line
invariant-loop-line l = RowsTo (held_lines l.text) (lines_left l.line-iterator) l.initial.buffer l.from l.buffer l.at

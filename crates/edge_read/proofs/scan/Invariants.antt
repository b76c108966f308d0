-- The lines that are left, scanned from the tally on, come to the scan of the whole text (`ScanTo`).
use Rattle.edge_lines.specs.Numbers.{lines_left}
use Rattle.edge_lines.specs.Reading.{held_lines}
use Rattle.edge_read.specs.Answers.{scan_of}
use Rattle.edge_read.proofs.Turns.{ScanTo}
use Rattle.edge_read.proofs.scan.Given as goal

abbrev pub invariant-loop-line : goal.invariant-loop-line
invariant-loop-line l = ScanTo (held_lines l.text) (lines_left l.line-iterator) l.tally.edges (scan_of l.tally)

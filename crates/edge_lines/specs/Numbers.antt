-- What the types of the code stand for: a number, two, a line, a step of the cursor, and the lines that are left.
use Rattle.std.specs.Prelude.{List, ℕ, Option as OptionOf, Some, None, drop}
use Rattle.std.proofs.Math.Option.{Option, none, some}
use Rattle.edge_file.specs.Text.{Ends, Line, comment, edge, other, problem}
use Rattle.edge_lines.specs.Reading.{Stepped, done, held_lines, line}
use Rattle.edge_lines.specs.declared.Cursor.{Cursor}
use Rattle.edge_lines.specs.declared.Lines.{Lines}
use Rattle.edge_lines.specs.declared.TextLine.{TextLine}
use Rattle.edge_lines.specs.declared.TextLine.TheVariants as read

abbrev pub number_in : OptionOf ℕ → Option ℕ
number_in (Some x) = some x
number_in None = none

abbrev pub two_in : OptionOf (ℕ × ℕ) → Option Ends
two_in (Some e) = some (record { one = e.0; two = e.1 })
two_in None = none

abbrev pub line_in : TextLine → Line
line_in read.Comment = comment
line_in (read.Problem n m) = problem n m
line_in (read.Edge u v) = edge u v
line_in read.Other = other

abbrev pub step_in : OptionOf (TextLine × Cursor) → Stepped
step_in (Some s) = line (line_in s.0) s.1.at
step_in None = done

abbrev pub lines_left : Lines → List Line
lines_left l = held_lines (drop l.cursor.at l.text.now)

-- The first line feed of what is left ends the line.
use Rattle.std.proofs.Common.{refl}
use Rattle.edge_file.specs.Text.{line_feed}
use Rattle.edge_lines.proofs.Places.{place_first, place_none}
use Rattle.edge_lines.proofs.Steps.{step_done, step_found, step_stray}
use Rattle.edge_lines.proofs.Cursor.step.Goals as goal

pub returns-then-n-at : goal.returns-then-n-at
returns-then-n-at c = step_done _ _ c.if-n-at.true

pub returns-in_default : goal.returns-in_default
returns-in_default c = step_stray _ _ c.if-n-at.false refl refl (place_none line_feed _ c.in_default.ensures)

pub returns : goal.returns
returns c =
    let (within, is, none) = c.in-Some.ensures in
    step_found _ _ c.if-n-at.false refl (place_first line_feed _ within is none) within c.line_of-line.ensures

-- A line that is no edge line has no bytes.
use Rattle.std.proofs.Common.{◌∙◌, ◌≡◌, ℕ, [], ap, refl}
use Rattle.edge_lines.specs.Numbers.{line_in}
use Rattle.edge_lines.specs.declared.TextLine.{TextLine}
use Rattle.edge_lines.specs.declared.TextLine.TheVariants as read
use Rattle.printout.specs.Text.{put}
use Rattle.printout.proofs.Laws.{put_none}
use Rattle.edge_read.specs.Scan.{line_bytes}
use Rattle.edge_read.proofs.put_line.Goals as goal

no_edge : (l : TextLine) → ((u v : ℕ) → ¬ (l ≡ read.Edge u v)) → [] ≡ line_bytes (line_in l)
no_edge read.Comment n = refl
no_edge (read.Problem a b) n = refl
no_edge (read.Edge u v) n = absurd (n u v refl)
no_edge read.Other n = refl

pub returns-in_default : goal.returns-in_default
returns-in_default c = put_none _ _ ∙ ap (put c.args.buffer.now c.args.at) (no_edge c.args.line c.in_default.not-Edge)

use mathlib.Core.Path.{sym}
use native.Mathlib.Omega.{arith}
use borrow.Author.Rules.{rules}
use Rattle.paths.proofs.Laws.{entered_at_lem, entered_past}
use Rattle.paths.proofs.Path.entered_at.Goals as goal

pub returns-then-i-length : goal.returns-then-i-length
returns-then-i-length c = entered_at_lem c.args.self (search rules) (search rules) (search rules) c.args.i (omega arith)

pub returns-else-i-length : goal.returns-else-i-length
returns-else-i-length c = sym (entered_past c.args.self c.args.i (omega arith))

use mathlib.Core.Path.{ap, sym}
use native.Mathlib.Omega.{arith}
use borrow.Author.Rules.{rules}
use Rattle.graph.specs.Paths.{Key}
use Rattle.paths.proofs.Laws.{key_past, row_at_lem}
use Rattle.paths.proofs.Path.row_at.Goals as goal

pub returns-then-i-length : goal.returns-then-i-length
returns-then-i-length c = row_at_lem c.args.self (search rules) (search rules) (search rules) c.args.i (omega arith)

pub returns-else-i-length : goal.returns-else-i-length
returns-else-i-length c = ap (λ (k : Key). k.row) (sym (key_past c.args.self c.args.i (omega arith)))

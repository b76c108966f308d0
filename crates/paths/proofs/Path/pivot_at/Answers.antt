use mathlib.Core.Path.{ap, sym}
use native.Mathlib.Omega.{arith}
use borrow.Author.Rules.{rules}
use Rattle.graph.specs.Paths.{Key}
use Rattle.paths.proofs.Laws.{key_past, place_at}
use Rattle.paths.proofs.Path.pivot_at.Goals as goal

pub returns-then-i-length : goal.returns-then-i-length
returns-then-i-length c = place_at c.args.self (search rules) (search rules) (search rules) c.args.i (omega arith)

pub returns-else-i-length : goal.returns-else-i-length
returns-else-i-length c = ap (λ (k : Key). k.place) (sym (key_past c.args.self c.args.i (omega arith)))

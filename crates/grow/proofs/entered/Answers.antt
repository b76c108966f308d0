use native.Mathlib.Omega.{arith}
use Rattle.paths.proofs.Laws.{entered_is}
use Rattle.grow.proofs.entered.Goals as goal

pub returns : goal.returns
returns c = rw c.length.ensures (entered_is c.args.path.now (omega arith) (omega arith) (omega arith))

use native.Mathlib.Omega.{arith}
use Rattle.counted.proofs.Laws.{none_copied, one_copied}
use borrow.Author.Rules.{rules}
use Rattle.counted.proofs.row_copied.Goals as goal

pub loop-b-init : goal.loop-b-init
loop-b-init c = none_copied _ _ _

pub loop-b-preserved : goal.loop-b-preserved
loop-b-preserved c = one_copied c.loop-b.invariant (search rules)

pub returns : goal.returns
returns c = let all = c.loop-b.invariant in record { row = λ b h. all.row b (omega (arith, c.loop-b-test.false)); before = all.before }

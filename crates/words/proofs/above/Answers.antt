use native.Mathlib.Omega.{arith}
use Rattle.words.proofs.Words.{above_none, above_shift}
use Rattle.words.proofs.above.Goals as goal

pub returns-then-v-lt63 : goal.returns-then-v-lt63
returns-then-v-lt63 c = above_shift _ _ (omega arith) c.if-v-lt63.true

pub returns-else-v-lt63 : goal.returns-else-v-lt63
returns-else-v-lt63 c = above_none _ _ (omega arith) c.if-v-lt63.false

use Rattle.words.proofs.Words.{bit_none, bit_shift}
use Rattle.words.proofs.bit.Goals as goal

pub returns-then-v-lt64 : goal.returns-then-v-lt64
returns-then-v-lt64 c = bit_shift _ c.if-v-lt64.true

pub returns-else-v-lt64 : goal.returns-else-v-lt64
returns-else-v-lt64 c = bit_none _ c.if-v-lt64.false

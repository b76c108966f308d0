use mathlib.Core.Path.{sym}
use native.Mathlib.Omega.{arith}
use borrow.Author.Tests.{le-ltb}
use borrow.Author.Rules.{rules}
use Rattle.words.specs.Words.{has}
use Rattle.words.proofs.Words.{has_beyond}
use Rattle.words.proofs.has.Goals as goal

pub returns-then-v-lt64 : goal.returns-then-v-lt64
unfolding has
returns-then-v-lt64 c = search rules

pub returns-else-v-lt64 : goal.returns-else-v-lt64
returns-else-v-lt64 c = rw (le-ltb _ _ c.if-v-lt64.false) (sym (has_beyond 64 _ _ (omega arith) c.if-v-lt64.false))

use borrow.Author.Tests.{le-ltb, lt-ltb}
use Rattle.trace.specs.Trace.{entry_after}
use Rattle.trace.proofs.entry_after.Goals as goal

pub returns-then-entry-gt0 : goal.returns-then-entry-gt0
unfolding entry_after
returns-then-entry-gt0 c = simp (lt-ltb _ _ c.if-entry-gt0.true)

pub returns-else-entry-gt0 : goal.returns-else-entry-gt0
unfolding entry_after
returns-else-entry-gt0 c = simp (le-ltb _ _ c.if-entry-gt0.false)

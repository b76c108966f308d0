use borrow.Author.Tests.{le-ltb, lt-ltb}
use Rattle.trace.specs.Trace.{end_by}
use Rattle.trace.proofs.end_by.Goals as goal

pub returns-then-first-gt0 : goal.returns-then-first-gt0
unfolding end_by
returns-then-first-gt0 c = simp (lt-ltb _ _ c.if-first-gt0.true)

pub returns-else-first-gt0 : goal.returns-else-first-gt0
unfolding end_by
returns-else-first-gt0 c = simp (le-ltb _ _ c.if-first-gt0.false)

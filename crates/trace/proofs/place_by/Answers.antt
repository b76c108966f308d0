use borrow.Author.Tests.{le-ltb, lt-ltb}
use Rattle.trace.specs.Trace.{place_by}
use Rattle.trace.proofs.place_by.Goals as goal

pub returns-then-first-gt0 : goal.returns-then-first-gt0
unfolding place_by
returns-then-first-gt0 c = simp (lt-ltb _ _ c.if-first-gt0.true)

pub returns-then-second-gt0 : goal.returns-then-second-gt0
unfolding place_by
returns-then-second-gt0 c = simp (le-ltb _ _ c.if-first-gt0.false, lt-ltb _ _ c.if-second-gt0.true)

pub returns-else-second-gt0 : goal.returns-else-second-gt0
unfolding place_by
returns-else-second-gt0 c = simp (le-ltb _ _ c.if-first-gt0.false, le-ltb _ _ c.if-second-gt0.false)

use Rattle.search.specs.Search.{joins_at}
use Rattle.search.proofs.joins.Goals as goal

pub returns-then-eq : goal.returns-then-eq
unfolding joins_at
returns-then-eq c = rw (← c.ends-ends.ensures.0, ← c.ends-ends.ensures.1, ← c.eq.ensures, c.if-eq.true)

pub returns-else-eq : goal.returns-else-eq
unfolding joins_at
returns-else-eq c = rw (← c.ends-ends.ensures.0, ← c.ends-ends.ensures.1, ← c.eq.ensures, c.if-eq.false) c.eq-else-eq.ensures

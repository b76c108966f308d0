use borrow.Author.Tests.{eq-eqb, le-ltb, lt-ltb, ne_eqb}
use Rattle.spread.specs.Spread.{brought_by}
use Rattle.spread.proofs.brought.Goals as goal
use Rattle.spread.proofs.brought.Goals.{then-u-eq0-via-then-u-eq0, then-u-eq0-via-else-u-eq0+then-limit-u}

pub returns-then-u-eq0 : goal.returns-then-u-eq0
unfolding brought_by
returns-then-u-eq0 c = elim c.then-u-eq0.branch [
  | then-u-eq0-via-then-u-eq0 w ↦ simp (eq-eqb _ _ w.if-u-eq0.true)
  | then-u-eq0-via-else-u-eq0+then-limit-u w ↦ simp (ne_eqb _ _ w.if-u-eq0.false, lt-ltb _ _ (rw w.limit.ensures.0 at w.if-limit-u.true))
]

pub returns : goal.returns
unfolding brought_by
returns c = simp (ne_eqb _ _ c.if-u-eq0.false, le-ltb _ _ (rw c.limit.ensures.0 at c.if-limit-u.false)) c.open_at.ensures

use native.Mathlib.Omega.{arith}
use Rattle.chosen.proofs.Laws.{extended_is, full_is}
use Rattle.chosen.proofs.Chosen.extended.Goals as goal
use Rattle.chosen.proofs.Chosen.extended.Goals.{else-self-lt31, then-self-lt31}

pub returns : goal.returns
returns c = let self = c.args.self in elim c.if-self-lt31.branch [
  | then-self-lt31 w ↦ rw w.self-is (extended_is self.rows self.len c.args.row (omega arith) (omega (arith, w.if-self-lt31.true)))
  | else-self-lt31 w ↦ rw w.self-is (full_is self.rows self.len c.args.row (omega arith) (omega (arith, w.if-self-lt31.false)))
]

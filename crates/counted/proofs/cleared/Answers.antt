use Rattle.counted.proofs.Laws.{clear_next, clear_skip}
use borrow.Author.Rules.{rules}
use Rattle.counted.proofs.cleared.Goals as goal
use Rattle.counted.proofs.cleared.Goals.{else-link-eq0, then-link-eq0}

pub loop-link-preserved : goal.loop-link-preserved
loop-link-preserved c =
    let so = c.loop-link.invariant in
    elim c.if-link-eq0.branch [
      | then-link-eq0 w ↦ rw (w.link-items-is, w.g-is)
          (clear_next _ _ _ _ _ _ (search rules) (search rules) (search rules) (search rules) so w.if-link-eq0.true _ w.times-g.ensures)
      | else-link-eq0 w ↦ rw (w.link-items-is, w.g-is) (clear_skip _ _ _ _ _ _ (search rules) (search rules) (search rules) (search rules) so w.if-link-eq0.false)
    ]

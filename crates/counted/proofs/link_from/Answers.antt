use Rattle.counted.proofs.Laws.{found_from, none_from}
use borrow.Author.Rules.{rules}
use Rattle.counted.proofs.link_from.Goals as goal

pub returns-in_err-passed : goal.returns-in_err-passed
returns-in_err-passed c = rw c.from_residual.ensures (none_from _ _ _ _ (search rules) (search rules) c.first_merged.ensures c.in_err-passed.was)

pub returns : goal.returns
returns c = found_from _ _ _ _ (search rules) (search rules) c.first_merged.ensures _ c.in_ok-passed.was

use Rattle.planner_c.specs.Calls.{planner_fetch}
use Rattle.planner_c.proofs.Laws.{beside_short, beside_told}
use borrow.Author.Rules.{rules}
use Rattle.planner_c.proofs.planner_index_fetch.Goals as goal

pub returns-then-is_empty : goal.returns-then-is_empty
unfolding planner_fetch
returns-then-is_empty c = beside_short _ _ _ _ _ (search rules)

pub returns : goal.returns
unfolding planner_fetch
returns c = beside_told _ _ _ _ _ _ _ _ _ _ (search rules) c.fetch.ensures c.status.ensures

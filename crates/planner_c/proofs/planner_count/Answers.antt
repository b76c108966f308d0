use Rattle.planner_c.specs.Calls.{planner_count}
use Rattle.planner_c.proofs.Laws.{answering_short, answering_told}
use borrow.Author.Rules.{rules}
use Rattle.planner_c.proofs.planner_count.Goals as goal

pub returns-then-is_empty : goal.returns-then-is_empty
unfolding planner_count
returns-then-is_empty c = answering_short _ _ _ _ (search rules)

pub returns : goal.returns
unfolding planner_count
returns c = answering_told _ _ _ _ _ _ _ _ (search rules) c.count.ensures c.status.ensures

use Rattle.planner_c.specs.Calls.{planner_dimacs_write}
use Rattle.planner_c.proofs.Laws.{beside_short, beside_told}
use borrow.Author.Rules.{rules}
use Rattle.planner_c.proofs.planner_dimacs_write.Goals as goal

pub returns-then-is_empty : goal.returns-then-is_empty
unfolding planner_dimacs_write
returns-then-is_empty c = beside_short _ _ _ _ _ (search rules)

pub returns : goal.returns
unfolding planner_dimacs_write
returns c = beside_told _ _ _ _ _ _ _ _ _ _ (search rules) c.write.ensures c.status.ensures

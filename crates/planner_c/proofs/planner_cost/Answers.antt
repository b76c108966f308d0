use Rattle.planner_c.specs.Calls.{planner_cost}
use Rattle.planner_c.proofs.Laws.{ending_told}
use Rattle.planner_c.proofs.planner_cost.Goals as goal

pub returns : goal.returns
unfolding planner_cost
returns c = ending_told _ _ _ _ _ _ _ _ c.cost.ensures c.status.ensures

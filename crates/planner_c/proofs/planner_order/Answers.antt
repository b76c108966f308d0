use Rattle.planner_c.specs.Calls.{planner_order}
use Rattle.planner_c.proofs.Laws.{ending_told}
use Rattle.planner_c.proofs.planner_order.Goals as goal

pub returns : goal.returns
unfolding planner_order
returns c = ending_told _ _ _ _ _ _ _ _ c.order.ensures c.status.ensures

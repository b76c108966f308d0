use Rattle.planner_c.specs.Calls.{planner_reach}
use Rattle.planner_c.proofs.Laws.{answering_short, answering_told}
use Rattle.planner_c.proofs.planner_reach.Goals as goal

pub returns-then-answer-lt-PLACES : goal.returns-then-answer-lt-PLACES
unfolding planner_reach
returns-then-answer-lt-PLACES c = answering_short _ _ _ _ c.if-answer-lt-PLACES.true

pub returns : goal.returns
unfolding planner_reach
returns c = answering_told _ _ _ _ _ _ _ _ c.if-answer-lt-PLACES.false c.reach.ensures c.status.ensures

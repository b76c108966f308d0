use Rattle.planner_c.specs.Calls.{planner_front}
use Rattle.planner_c.proofs.Laws.{beside_short, beside_told}
use Rattle.planner_c.proofs.planner_front.Goals as goal

pub returns-then-answer-lt-PLACES : goal.returns-then-answer-lt-PLACES
unfolding planner_front
returns-then-answer-lt-PLACES c = beside_short _ _ _ _ _ c.if-answer-lt-PLACES.true

pub returns : goal.returns
unfolding planner_front
returns c = beside_told _ _ _ _ _ _ _ _ _ _ c.if-answer-lt-PLACES.false c.front.ensures c.status.ensures

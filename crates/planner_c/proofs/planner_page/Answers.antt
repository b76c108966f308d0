use Rattle.planner_c.specs.Calls.{planner_page}
use Rattle.planner_c.proofs.Laws.{beside_short, beside_told}
use Rattle.planner_c.proofs.planner_page.Goals as goal

pub returns-then-answer-lt-PLACES : goal.returns-then-answer-lt-PLACES
unfolding planner_page
returns-then-answer-lt-PLACES c = beside_short _ _ _ _ _ c.if-answer-lt-PLACES.true

pub returns : goal.returns
unfolding planner_page
returns c = beside_told _ _ _ _ _ _ _ _ _ _ c.if-answer-lt-PLACES.false c.page.ensures c.status.ensures

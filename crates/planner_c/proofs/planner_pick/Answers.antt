use native.Mathlib.Omega.{arith}
use Rattle.planner_c.proofs.Laws.{pick_copied, pick_none}
use Rattle.planner_c.proofs.planner_pick.Goals as goal

pub returns-in_default : goal.returns-in_default
returns-in_default c = pick_none _ _ _ _ (omega (arith, c.in_default.ensures))

pub returns : goal.returns
returns c = pick_copied _ _ _ _ _ _ (rw (← c.in-Ok.ensures.1) c.pick-part.ensures) c.copy.ensures

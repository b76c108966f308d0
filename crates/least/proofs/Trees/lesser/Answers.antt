-- With no best so far, with none inside, with a lesser one inside, and with none that is less.
use native.Mathlib.Omega.{arith}
use mathlib.Core.Path.{◌≡◌}
use lib.ListN.{length}
use Rattle.least.proofs.Vectors.{on_first, on_kept, on_less, on_stays}
use Rattle.least.proofs.Trees.lesser.Goals as goal
use Rattle.least.proofs.Trees.lesser.Goals.{Start}

-- the array has the length of its type
four : (c : Start) → length c.args.limits ≡ 4
four c = omega arith

pub returns-in_default : goal.returns-in_default
returns-in_default c = rw c.in_default.is (on_first _ _ _ _ _ _ _ _ _ _ (four (goal.at.returns-in_default c).Start) _ c.least_inside.ensures)

pub returns-in_default-next : goal.returns-in_default-next
returns-in_default-next c =
    rw c.in-Some.is
    (on_stays _ _ _ _ _ _ _ _ _ _ (four (goal.at.returns-in_default-next c).Start) _ _ c.above-top.ensures _ c.with_limit.ensures c.in_default-next.ensures)

pub returns-then-is_less : goal.returns-then-is_less
returns-then-is_less c =
    rw c.in-Some.is
    (on_less _ _ _ _ _ _ _ _ _ _ (four (goal.at.returns-then-is_less c).Start) _ _ c.above-top.ensures _ c.with_limit.ensures
    _ c.in-Some-next.ensures _ c.is_less.ensures c.if-is_less.true)

pub returns-else-is_less : goal.returns-else-is_less
returns-else-is_less c =
    rw c.in-Some.is
    (on_kept _ _ _ _ _ _ _ _ _ _ (four (goal.at.returns-else-is_less c).Start) _ _ c.above-top.ensures _ c.with_limit.ensures
    _ c.in-Some-next.ensures _ c.is_less.ensures c.if-is_less.false)

use mathlib.Core.Path.{◌≡◌}
use native.Mathlib.Omega.{arith}
use lib.ListN.{length}
use Rattle.least.proofs.Vectors.{on_end, on_next}
use Rattle.least.proofs.Trees.lowered.Goals as goal
use Rattle.least.proofs.Trees.lowered.Goals.{Start}

-- the array has the length of its type
four : (c : Start) → length c.args.limits ≡ 4
four c = omega arith

pub returns : goal.returns
returns c =
    λ ground past low of within.
    on_end _ _ _ _ _ _ _ _ _ _ (four (goal.at.returns c).Start) _ _ _ c.with_limit.ensures c.in_default.ensures ground past low (c.loop-w.invariant ground past low (of, within))

pub returns-then-v-c : goal.returns-then-v-c
returns-then-v-c c =
    λ ground past low of within.
    let below =
    (on_next _ _ _ _ _ _ _ _ _ _ (four (goal.at.returns-then-v-c c).Start) _ _ _ c.with_limit.ensures _ c.in-Some.ensures ground past low
    (c.loop-w.invariant ground past low (of, within))).1 in
    absurd (omega (arith, below))

pub loop-w-preserved : goal.loop-w-preserved
loop-w-preserved c =
    λ ground past low i.
    (on_next _ _ _ _ _ _ _ _ _ _ (four (goal.at.loop-w-preserved c).Start) _ _ _ c.with_limit.ensures _ c.in-Some.ensures ground past low
    (c.loop-w.invariant ground past low i)).0

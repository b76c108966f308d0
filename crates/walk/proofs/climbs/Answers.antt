use mathlib.Core.Path.{◌∙◌, sym}
use Prim.Native.Nat.{◌≤◌}
use native.Mathlib.Omega.{arith}
use lib.ListN.{length}
use Rattle.paths.proofs.Laws.{keys_most}
use Rattle.paths.specs.Path.{keys_of}
use Rattle.walk.proofs.Climbing.{StepAt, climbs_late, climbs_next, climbs_not, climbs_over, climbs_start, step_at_lem}
use Rattle.walk.proofs.climbs.Goals as goal
use Rattle.walk.proofs.climbs.Goals.{In-loop-i}

pub loop-i-init : goal.loop-i-init
loop-i-init c = rw (c.minus-fresh.ensures, c.bit.ensures, c.nodes.ensures) (climbs_start _ _ _)

-- the step of a turn
here : (c : In-loop-i) → StepAt c.args.path c.loop-i.i
here c =
    let rows = c.well_formed.1.0.1.1.0.1.0.1 in
    let nodes = c.well_formed.1.0.1.1.1.0.1.0.1 in
    let pivots = c.well_formed.1.0.1.1.1.1.0.1.0.1 in
    let p = c.args.path in
    let i = c.loop-i.i in
    step_at_lem p nodes rows pivots i (omega (arith, c.length-i-end.ensures))

pub returns-then-i-at : goal.returns-then-i-at
returns-then-i-at c =
    let step = here (goal.at.returns-then-i-at c).In-loop-i in
    sym (c.loop-i.invariant ∙ climbs_late _ _ _ _ _ _ _ _ step.within step.key c.if-i-at.true)

pub returns-then-not-legal : goal.returns-then-not-legal
returns-then-not-legal c =
    let step = here (goal.at.returns-then-not-legal c).In-loop-i in
    sym (c.loop-i.invariant ∙ climbs_not _ _ _ _ _ _ _ _ step.within step.key c.if-i-at.false (step.entered _ c.if-i-at.false)
    (sym c.legal.ensures ∙ c.if-not-legal.true))

pub loop-i-preserved : goal.loop-i-preserved
loop-i-preserved c =
    let step = here (goal.at.loop-i-preserved c).In-loop-i in
    rw (c.minus-fresh-in-loop-i.ensures, c.bit-in-loop-i.ensures)
    (c.loop-i.invariant ∙ climbs_next _ _ _ _ _ _ _ _ step.within step.key c.if-i-at.false (step.entered _ c.if-i-at.false)
    (sym c.legal.ensures ∙ c.if-not-legal.false))

pub returns : goal.returns
returns c =
    let p = c.args.path in
    let over : length (keys_of p) ≤ c.loop-i.i = omega (arith, keys_most p, c.loop-i-test.false, c.length-i-end.ensures) in
    sym (c.loop-i.invariant ∙ climbs_over _ _ _ _ _ _ _ over)

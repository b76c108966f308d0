use mathlib.Core.Path.{◌∙◌, ◌≡◌, ap, sym}
use Prim.Native.Nat.{◌+◌, ◌-◌, ℕ}
use native.Mathlib.Omega.{arith}
use Rattle.search.specs.Search.{found_of}
use Rattle.paths.specs.Path.{entered_by, keys_of}
use Rattle.grow.proofs.Musts.{grow_with_none, grow_with_over, grow_with_some}
use Rattle.grow.proofs.grown_with.Goals as goal

pub loop-preserved : goal.loop-preserved
loop-preserved c =
    let l = c.loop in
    let from = c.entered.ensures ∙ ap (λ (plant : ℕ). entered_by plant (keys_of l.path)) l.invariant.0 in
    let one : c.args.steps - l.counter - 1 ≡ c.args.steps - (l.counter + 1) = omega arith in
    let next = grow_with_some _ _ (c.args.steps - l.counter) _ _ _ _ _ (omega arith) from c.accepted.ensures (ap found_of c.in-Some.is) in (
      c.extended-path.ensures.0 ∙ l.invariant.0,
      l.invariant.1 ∙ next ∙ (rw (one, c.minus-fresh.ensures, c.bit.ensures, c.extended-path.ensures.1)),
    )

pub returns-after-loop : goal.returns-after-loop
returns-after-loop c = (c.loop.invariant.0, sym (c.loop.invariant.1 ∙ grow_with_over _ _ _ _ _ _ _ (omega arith)))

pub returns-in_default : goal.returns-in_default
returns-in_default c =
    let l = c.loop in
    let from = c.entered.ensures ∙ ap (λ (plant : ℕ). entered_by plant (keys_of l.path)) l.invariant.0 in
    (l.invariant.0, sym (l.invariant.1 ∙ grow_with_none _ _ _ _ _ _ _ (omega arith) from c.accepted.ensures (ap found_of c.in_default.is)))

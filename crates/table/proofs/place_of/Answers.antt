use mathlib.Core.Path.{◌∙◌, ◌≡◌, ap, sym}
use native.Mathlib.Nat.{zero-add}
use native.Mathlib.Omega.{arith}
use Rattle.table.specs.Parts.{before}
use Rattle.compare.proofs.Rows.{rest_start}
use Rattle.table.proofs.Rows.{before_end, before_more, before_stop}
use Rattle.table.proofs.place_of.Goals as goal
use Rattle.table.proofs.place_of.Goals.{In-loop-i}

pub loop-i-init : goal.loop-i-init
loop-i-init c = ap (before _) (rest_start _ _ _) ∙ sym (zero-add _)

pub loop-i-preserved : goal.loop-i-preserved
loop-i-preserved c = c.loop-i.invariant ∙ before_more _ _ _ _ _ c.loop-i-test.true (cc)

pub returns-then-not-less : goal.returns-then-not-less
returns-then-not-less c = sym (c.loop-i.invariant ∙ before_stop _ _ _ _ _ c.loop-i-test.true (cc))

pub returns : goal.returns
returns c =
    let all : c.loop-i.i ≡ c.args.count = omega arith in
    sym all ∙ sym (c.loop-i.invariant ∙ before_end _ _ _ _ _ c.loop-i-test.false)

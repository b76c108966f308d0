use mathlib.Core.Path.{◌∙◌, sym}
use Rattle.std.proofs.Common.{rules}
use Rattle.compare.proofs.Compare.{met_end, met_more, met_yes, pieces_short}
use Rattle.compare.proofs.meets.Goals as goal

pub returns-in_default : goal.returns-in_default
returns-in_default c = sym (c.loop.invariant ∙ pieces_short _ _ _ (search rules))

pub returns-then-none_larger : goal.returns-then-none_larger
returns-then-none_larger c = sym (c.loop.invariant ∙ met_yes _ _ _ _ c.loop-test.true (search rules))

pub loop-preserved : goal.loop-preserved
loop-preserved c =
    let more = met_more c.args.vector.now c.loop.left.now _ _ c.loop-test.true (search rules) in
    c.loop.invariant ∙ more ∙ (search rules)

pub returns : goal.returns
returns c = sym (c.loop.invariant ∙ met_end _ _ _ _ c.loop-test.false)

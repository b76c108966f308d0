use mathlib.Core.Path.{◌∙◌, ap, sym}
use Rattle.grow.specs.Grow.{fresh_after}
use Rattle.grow.proofs.Laws.{fresh_more, fresh_over}
use Rattle.grow.proofs.fresh_after.Goals as goal

pub loop-node-preserved : goal.loop-node-preserved
loop-node-preserved c = rw (c.minus-word.ensures, c.bit.ensures) (c.loop-node.invariant ∙ fresh_more _ _ _ c.loop-node-test.true)

pub returns : goal.returns
returns c =
    sym (ap (fresh_after c.args.nodes) (sym c.entered-node-items.ensures) ∙ c.loop-node.invariant ∙ fresh_over _ _ _ c.loop-node-test.false)

use mathlib.Core.Path.{◌∙◌}
use borrow.Author.Tests.{ne_eqb}
use Rattle.frames.proofs.Agreeing.{kinds_decide, kinds_there, pointwise_same, nodes_decide}
use Rattle.frames.proofs.same_frame.Goals as goal

pub slice_bounds-kinds-end : goal.slice_bounds-kinds-end
slice_bounds-kinds-end c = kinds_there _ c.requires.1 c.requires.0

pub slice_bounds-others-end : goal.slice_bounds-others-end
slice_bounds-others-end c = kinds_there _ c.requires.3 c.requires.2

pub returns-then-one-two : goal.returns-then-one-two
returns-then-one-two c =
    c.eq.ensures ∙ pointwise_same _ _ ∙ kinds_decide _ _ c.requires.1 c.requires.3 c.requires.0 c.requires.2 c.if-one-two.true

pub returns-else-one-two : goal.returns-else-one-two
returns-else-one-two c = ne_eqb _ _ c.if-one-two.false ∙ nodes_decide _ _ c.requires.1 c.requires.3 c.if-one-two.false

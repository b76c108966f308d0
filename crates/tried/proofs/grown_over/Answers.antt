-- The call is the model: over the chart of the drawn rows no step is entered, and the fresh nodes are all but the plant.
use mathlib.Core.Path.{◌∙◌}
use Rattle.tried.specs.Tried.{drawn_keys}
use Rattle.tried.proofs.grown_over.Goals as goal

pub returns : goal.returns
unfolding drawn_keys
returns c =
    let at = c.start-start.ensures in
    let plant = at.0 ∙ c.plant.ensures in
    let alone = c.only_drawn.ensures in (
      c.grown_with.ensures.0 ∙ plant,
      c.grown_with.ensures.1 ∙ (rw (alone, c.empty-alone.ensures, c.fresh_after-fresh.ensures, c.nodes.ensures, c.width.ensures, at.1, plant)),
    )

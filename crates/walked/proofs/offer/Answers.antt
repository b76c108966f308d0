-- `walked::offer`: what is offered is the path's vector of the file's criteria, and its rows.
use mathlib.Core.Path.{◌∙◌, ap}
use native.Mathlib.Omega.{arith}
use lib.ListN.{length, length-take}
use Rattle.walked.proofs.Vectors.{costs_are, long}
use Rattle.walked.proofs.offer.Goals as goal

pub slice_bounds-offer-end : goal.slice_bounds-offer-end
slice_bounds-offer-end c =
    let four = ap length c.vector-vector.ensures ∙ long _ _ in
    simp length-take (omega arith)

pub returns : goal.returns
returns c =
    let costs = costs_are c.args.path _ _ _ c.requires.0 c.requires.1 c.vector-vector.ensures in
    c.offer.ensures ∙ (rw (costs, c.rows.ensures.rows))

-- What `find` tells of the tree, told of its vector.
use mathlib.Core.Path.{◌≡◌}
use native.Mathlib.Omega.{arith}
use lib.ListN.{length, length-map}
use Rattle.tally.specs.Kinds.{numbers_of}
use Rattle.least.proofs.Vectors.{asked_none, asked_some}
use Rattle.least.proofs.Trees.vector_in.Goals as goal
use Rattle.least.proofs.Trees.vector_in.Goals.{Start}

-- there are four kinds
four : (c : Start) → length (numbers_of c.args.self.space.criteria.kinds) ≡ 4
four c = simp length-map (omega arith)

pub returns-in_err-rows : goal.returns-in_err-rows
returns-in_err-rows c = rw c.from_residual.ensures (asked_none _ _ _ _ _ _ _ _ _ _ c.in_err-rows.ensures)

pub returns : goal.returns
returns c = asked_some _ _ _ _ _ _ _ _ _ _ (four (goal.at.returns c).Start) _ _ c.vector.ensures c.in_ok-rows.ensures

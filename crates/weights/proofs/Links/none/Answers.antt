use mathlib.Core.Path.{refl}
use Rattle.weights.proofs.Stores.{nothing}
use Rattle.weights.proofs.Links.none.Goals as goal

pub returns-clause-absent : goal.returns-clause-absent
returns-clause-absent c = nothing 1024 refl

use mathlib.Core.Path.{refl}
use Rattle.paths.specs.Path.{keys_from, keys_of}
use Rattle.paths.proofs.Path.start.Goals as goal

pub returns : goal.returns
unfolding keys_of keys_from
returns c = (refl, refl)

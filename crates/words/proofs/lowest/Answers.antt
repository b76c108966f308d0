use mathlib.Core.Path.{refl}
use Rattle.words.specs.Words.{lowest}
use Rattle.words.proofs.lowest.Goals as goal

pub returns : goal.returns
unfolding lowest
returns c = refl

use mathlib.Core.Path.{refl}
use Rattle.words.specs.Words.{minus}
use Rattle.words.proofs.minus.Goals as goal

pub returns : goal.returns
unfolding minus
returns c = refl

use mathlib.Core.Path.{◌∙◌, ap, refl}
use Prim.Native.Nat.{min, ℕ}
use Rattle.paths.proofs.Laws.{shortened_is}
use Rattle.paths.proofs.Path.shortened.Goals as goal

pub returns : goal.returns
returns c = (refl, shortened_is c.args.self c.args.steps _ (c.min.ensures ∙ ap (λ (n : ℕ). min n c.args.steps) c.length.ensures))

use mathlib.Core.Path.{refl}
use native.Mathlib.Omega.{arith}
use borrow.Author.Rules.{rules}
use Rattle.paths.proofs.Laws.{extended_is, full_is, plant_stays}
use Rattle.paths.proofs.Path.extended.Goals as goal

pub returns-then-at-lt31 : goal.returns-then-at-lt31
returns-then-at-lt31 c =
    let p = c.args.self in (
      plant_stays p (search rules) (search rules) (search rules) c.length-at.result _,
      extended_is p (search rules) (search rules) (search rules) c.length-at.result _ _ _ c.length-at.ensures (omega arith),
    )

pub returns-else-at-lt31 : goal.returns-else-at-lt31
returns-else-at-lt31 c = (refl, full_is c.args.self (search rules) (search rules) (search rules) _ (omega arith))

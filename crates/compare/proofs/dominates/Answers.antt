use mathlib.Core.Path.{◌∙◌, ◌≡◌, refl}
use denote.Enum.Bare.{sameb}
use Rattle.costs.specs.Cases.{is_better}
use Rattle.compare.specs.Answers.{case_of}
use Rattle.compare.specs.contracts.Comparison.{the_type}
use Rattle.compare.specs.declared.Comparison.{Comparison}
use Rattle.compare.specs.declared.Comparison.TheVariants.{SoFarBetter, SoFarEqual, WorseSomewhere}
use Rattle.compare.proofs.Compare.{case_end}
use Rattle.compare.proofs.dominates.Goals as goal

-- the test that the derive gives says whether the case is 'so far better'
better : (k : Comparison) → sameb the_type k SoFarBetter ≡ is_better (case_of k)
better WorseSomewhere = refl
better SoFarEqual = refl
better SoFarBetter = refl

pub returns : goal.returns
returns c =
    c.eq.ensures ∙ better c.loop-i.case ∙ case_end _ _ _ c.if-v-w.false c.loop-i.auto.i-end c.loop-i-test.false c.loop-i.invariant

use mathlib.Core.Path.{◌∙◌, refl}
use native.Mathlib.Omega.{arith}
use lib.Seq.{take_all}
use Rattle.charges.specs.Charges.{charges_by}
use Rattle.charges.proofs.Charges.{charges_length}
use Rattle.charge.specs.Answers.{charge_in}
use Rattle.charge.proofs.Laws.{charges_next}
use Rattle.charge.proofs.put.Goals as goal

pub loop-i-preserved : goal.loop-i-preserved
loop-i-preserved c = (rw c.loop-i.invariant) ∙ charges_next _ _ _ _ _ _ c.loop-i-test.true (omega arith) refl c.borne.ensures

pub returns : goal.returns
returns c =
    c.loop-i.invariant
    ∙ (rw (take_all c.loop-i.i (charges_by (charge_in c.args.split) c.args.nodes) (omega (arith, c.loop-i-test.false, charges_length (charge_in c.args.split) c.args.nodes))))

-- All bytes fit, so that the loop ends behind the last.
use Rattle.std.proofs.Common.{◌∙◌, ap, arith, refl}
use Rattle.std.proofs.Math.Seq.{paste}
use Rattle.printout.proofs.Laws.{putting_at, putting_more, putting_start}
use Rattle.printout.proofs.put_all.Goals as goal

pub loop-i-init : goal.loop-i-init
loop-i-init c = putting_at putting_start (omega arith)

pub loop-i-preserved : goal.loop-i-preserved
loop-i-preserved c = putting_at (putting_more c.loop-i.invariant _ (omega (arith, c.requires)) refl) (omega arith)

pub returns : goal.returns
returns c = c.loop-i.invariant.pasted ∙ ap (paste c.args.out.now c.args.at c.args.bytes.now) (omega (arith, c.loop-i.invariant.few))

-- The loop ends behind the last byte, or where the buffer does; all that fit stand there then.
use Rattle.std.proofs.Common.{arith, refl}
use Rattle.printout.proofs.Laws.{all_put, putting_more, putting_start}
use Rattle.printout.proofs.put_some.Goals as goal

pub loop-byte-init : goal.loop-byte-init
loop-byte-init c = putting_start

pub loop-byte-preserved : goal.loop-byte-preserved
loop-byte-preserved c = putting_more c.loop-byte.invariant _ (omega arith) refl

pub returns-then-place-out : goal.returns-then-place-out
returns-then-place-out c = all_put c.loop-byte.invariant (omega arith)

pub returns-after-loop-byte : goal.returns-after-loop-byte
returns-after-loop-byte c = all_put c.loop-byte.invariant (omega arith)

-- The loop's invariant: the first i charges are written over the buffer.
use mathlib.Core.Path.{◌≡◌}
use lib.ListN.{take}
use Rattle.operations.specs.Operations.{over}
use Rattle.charges.specs.Charges.{charges_by}
use Rattle.charge.specs.Answers.{charge_in}
use Rattle.charge.proofs.put.Given as goal

abbrev pub invariant-loop-i : goal.invariant-loop-i
invariant-loop-i l = l.buffer ≡ over (take l.i (charges_by (charge_in l.split) l.nodes)) l.initial.buffer

-- `trials::fill` is safe and ends: the file keeps its length, and the measure is the bytes left.
use mathlib.Core.Path.{◌≡◌}
use Prim.Native.Nat.{◌-◌}
use lib.ListN.{length}
use Rattle.trials.proofs.fill.Given as goal

abbrev pub invariant-loop-at : goal.invariant-loop-at
invariant-loop-at l = length l.file ≡ length l.initial.file

abbrev pub decreases-loop-at : goal.decreases-loop-at
decreases-loop-at l = length l.initial.file - l.at

-- Once `sets` has 32 places: at place i the word is the set of the first i nodes, and the first i places hold their sets (`Gathered`).
use mathlib.Core.Path.{◌≡◌}
use lib.ListN.{length}
use Rattle.regrow.proofs.Growing.{Gathered}
use Rattle.regrow.proofs.gather.Given as goal

abbrev pub invariant-loop-i : goal.invariant-loop-i
invariant-loop-i l = length l.initial.sets ≡ 32 → Gathered l.entered l.sets l.set l.i

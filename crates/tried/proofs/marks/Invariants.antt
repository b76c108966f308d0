-- The loop's invariant: the array has the marks of the drawn rows so far.
use mathlib.Core.Path.{◌≡◌}
use lib.ListN.{take}
use Rattle.tried.specs.Only.{marks_of}
use Rattle.tried.proofs.marks.Given as goal

abbrev pub invariant-loop-row : goal.invariant-loop-row
invariant-loop-row l = l.drawn ≡ marks_of (take l.row-index l.rows)

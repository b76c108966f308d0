-- The loop's invariant: the next path is that of the walk back from step i on, for any path that the arrays hold.
use mathlib.Core.List.{List}
use Rattle.graph.specs.Paths.{Key}
use Rattle.trail.proofs.Back.{LeftAt, Walked}
use Rattle.trail.proofs.next_turn.Given as goal

abbrev pub invariant-loop-i : goal.invariant-loop-i
invariant-loop-i l = (keys : List Key) → Walked l.chart.words l.entered l.pivots l.sets l.rows keys → LeftAt l.chart.words keys l.i

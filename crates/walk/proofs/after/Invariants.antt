-- The loop's invariant: the whole answer is that of the rest of the walk back.
use mathlib.Core.Path.{◌≡◌}
use Rattle.paths.specs.Path.{keys_of, plant_of}
use Rattle.walk.specs.Walk.{after_from, after_of}
use Rattle.walk.proofs.after.Given as goal

abbrev pub invariant-loop-i : goal.invariant-loop-i
invariant-loop-i l = after_of l.chart.words (plant_of l.path) (keys_of l.path) l.len ≡ after_from l.chart.words (plant_of l.path) l.i l.fresh (keys_of l.path)

-- The loop's invariant: the whole answer is what is left to be asked behind the steps that were.
use mathlib.Core.Path.{◌≡◌}
use Rattle.paths.specs.Path.{keys_of, plant_of}
use Rattle.walk.specs.Climbing.{climbs_in}
use Rattle.walk.proofs.Climbing.{left_at}
use Rattle.walk.proofs.climbs.Given as goal

abbrev pub invariant-loop-i : goal.invariant-loop-i
invariant-loop-i l = climbs_in l.chart.words (plant_of l.path) (keys_of l.path) ≡ left_at l.chart.words (plant_of l.path) (keys_of l.path) l.fresh l.place l.node l.i

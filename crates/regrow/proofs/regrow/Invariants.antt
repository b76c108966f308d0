-- Whatever path the arrays held: they hold its growth up to step s, which goes on from there to the same end (`Left`).
use mathlib.Core.Path.{◌≡◌}
use mathlib.Core.List.{List}
use Prim.Native.Nat.{◌-◌}
use lib.ListN.{length, take}
use Rattle.graph.specs.Paths.{Key}
use Rattle.graph.proofs.Growth.{rows_of}
use Rattle.chart.specs.Chart.{plant_in}
use Rattle.trail.specs.Trail.{Holds, grown_on}
use Rattle.regrow.proofs.Growing.{Left}
use Rattle.regrow.proofs.regrow.Given as goal

abbrev pub invariant-loop-s : goal.invariant-loop-s
invariant-loop-s l =
    (keys : List Key) → Holds l.initial.entered l.initial.pivots l.initial.sets (plant_in l.chart.words) keys → length keys ≡ l.initial.s → take l.initial.s l.initial.rows ≡ rows_of keys
    → Left l.chart.words (plant_in l.chart.words) (grown_on l.chart.words (plant_in l.chart.words) (length l.initial.rows - l.initial.s) keys l.initial.place l.initial.node) (length l.initial.rows) l.entered
    l.pivots l.sets l.rows l.s l.place l.node

use mathlib.Core.Path.{◌≡◌}
use Prim.Native.Nat.{◌-◌}
use Rattle.paths.specs.Path.{keys_of, plant_of}
use Rattle.grow.specs.Musts.{grow_with}
use Rattle.grow.proofs.grown_with.Given as goal

abbrev pub invariant-loop : goal.invariant-loop
invariant-loop l = (plant_of l.path ≡ plant_of l.initial.path)
    × (grow_with l.chart.words (plant_of l.initial.path) l.steps l.initial.fresh (keys_of l.initial.path) l.initial.place l.initial.node
    ≡ grow_with l.chart.words (plant_of l.initial.path) (l.steps - l.counter) l.fresh (keys_of l.path) l.place l.node)

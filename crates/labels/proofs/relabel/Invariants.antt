-- The loop's invariant: in the labels before the place, a has become b.
use mathlib.Core.Path.{◌≡◌}
use mathlib.Core.List.{◌++◌, map}
use lib.Dec.{eqb}
use lib.ListN.{drop, take}
use Rattle.lists.specs.Lists.{pick}
use Rattle.labels.proofs.relabel.Given as goal

abbrev pub invariant-loop-label : goal.invariant-loop-label
invariant-loop-label l = l.labels ≡ map (λ x. pick (eqb x l.a) l.b x) (take l.label-index l.initial.labels) ++ drop l.label-index l.initial.labels

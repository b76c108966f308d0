-- The loop's invariant: the vector is settled in the components before c.
use Rattle.completions.proofs.Least.{Settled}
use Rattle.least.specs.Least.{OpenPast}
use Rattle.least.specs.Trees.{OnTrees, count_of, first_of}
use Rattle.least.proofs.Trees.least_inside.Given as goal

abbrev pub invariant-loop-c : goal.invariant-loop-c
invariant-loop-c l = OnTrees l.self l.initial.lower
    (λ Of. OpenPast (count_of l.self) l.lower × Settled Of (first_of l.self l.initial.lower) l.c (first_of l.self l.lower) (first_of l.self l.v))

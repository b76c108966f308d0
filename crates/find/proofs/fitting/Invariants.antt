-- The loop's invariant: of the flags, those of some rows that reach a limit beside `inc` are cleared.
use mathlib.Core.List.{◌∷◌}
use Prim.Native.Nat.{ℕ}
use Rattle.chosen.specs.Chosen.{rows_of}
use Rattle.tally.specs.Kinds.{numbers_of}
use Rattle.find.specs.Nodes.{Reached, Sifted}
use Rattle.find.proofs.fitting.Given as goal

abbrev pub invariant-loop-c : goal.invariant-loop-c
invariant-loop-c l =
    Sifted (λ (r : ℕ). Reached (numbers_of l.criteria.kinds) l.criteria.k l.criteria.costs.now l.criteria.leads.now l.limits (r ∷ rows_of l.inc)) l.initial.next l.next

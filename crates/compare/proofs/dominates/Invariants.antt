-- At each turn the case is that after the first i components.
use mathlib.Core.Path.{◌≡◌}
use Rattle.costs.specs.Cases.{case_after}
use Rattle.compare.specs.Answers.{case_of}
use Rattle.compare.proofs.dominates.Given as goal

abbrev pub invariant-loop-i : goal.invariant-loop-i
invariant-loop-i l = case_of l.case ≡ case_after l.i l.v l.w

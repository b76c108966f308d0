-- The loop's invariant: of the flags, those of some rows that pass the test are cleared.
use mathlib.Core.Bool.{true}
use Prim.Native.Nat.{ℕ}
use Rattle.find.specs.Nodes.{Sifted}
use Rattle.find.proofs.without.Given as goal

abbrev pub invariant-loop-r : goal.invariant-loop-r
invariant-loop-r g l = Sifted (λ (r : ℕ). goal.F-post g l.passes r true) l.initial.next l.next

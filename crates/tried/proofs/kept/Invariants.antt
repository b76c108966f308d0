-- The loop's invariant: check 15 comes to what it comes to from row r on.
use mathlib.Core.Path.{◌≡◌}
use Prim.Native.Nat.{◌-◌}
use Rattle.lists.specs.Lists.{all, range}
use Rattle.tried.specs.Tried.{kept_by}
use Rattle.tried.proofs.Laws.{kept_at}
use Rattle.tried.proofs.kept.Given as goal

abbrev pub invariant-loop-r : goal.invariant-loop-r
invariant-loop-r l = kept_by l.chart.words l.drawn ≡ all (kept_at l.chart.words l.drawn) (range l.r (l.r-end - l.r))

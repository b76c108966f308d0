-- The loop's invariant: `Spreading`, of what is in and of what has not brought in its neighbours yet. The measure: what is in grows, or what is left falls.
use Prim.Native.Nat.{◌*◌, ◌+◌, ◌-◌, ◌^◌}
use Rattle.chart.specs.Chart.{limit_in, near_in}
use Rattle.spread.proofs.Members.{Spreading}
use Rattle.spread.proofs.spread.Given as goal

abbrev pub invariant-loop-left : goal.invariant-loop-left
invariant-loop-left l = Spreading (near_in l.must l.chart.words) (limit_in l.chart.words) l.fresh l.seeds l.word l.left

abbrev pub decreases-loop-left : goal.decreases-loop-left
decreases-loop-left l = (2 ^ 64 - l.word) * 2 ^ 64 + l.left

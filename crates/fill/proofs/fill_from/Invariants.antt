-- At each turn `count` trees end at place `at`, and of a chart whose trees can be listed they are the first of those that are left, and the arrays show the one behind
-- them (`Kept`). The page's places behind `at` get fewer.
use Prim.Native.Nat.{◌-◌}
use lib.ListN.{length}
use Rattle.fill.proofs.Turns.{Kept}
use Rattle.fill.proofs.fill_from.Given as goal

abbrev pub invariant-loop-page : goal.invariant-loop-page
invariant-loop-page l = Kept l.chart.words l.width l.initial.page l.initial.entered l.initial.pivots l.initial.rows l.initial.sets l.page l.entered l.pivots l.rows l.sets l.at l.count

abbrev pub decreases-loop-page : goal.decreases-loop-page
decreases-loop-page l = length l.initial.page - l.at

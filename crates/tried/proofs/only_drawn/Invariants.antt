-- The loop's invariant: with the first r rows entered the chart is what it is to become.
use mathlib.Core.Path.{◌≡◌}
use Rattle.chart.specs.Chart.{entered_down}
use Rattle.tried.specs.Only.{only_rows}
use Rattle.tried.proofs.only_drawn.Given as goal

abbrev pub invariant-loop-r : goal.invariant-loop-r
invariant-loop-r l = entered_down (only_rows l.chart.words l.drawn) l.count l.initial.out.words ≡ entered_down (only_rows l.chart.words l.drawn) l.r l.out.words

-- The loop's invariant: with the first r rows entered the chart is what it is to become, and they end at `at`.
use mathlib.Core.Path.{◌≡◌}
use Rattle.network_file.specs.File.{network_of}
use Rattle.chart.specs.Chart.{HasRows, entered_down}
use Rattle.charting.proofs.enter_whole.Given as goal

abbrev pub invariant-loop-r : goal.invariant-loop-r
invariant-loop-r l = (entered_down (network_of l.file).rows l.initial.r l.initial.chart.words ≡ entered_down (network_of l.file).rows l.r l.chart.words) × HasRows l.file l.r l.at

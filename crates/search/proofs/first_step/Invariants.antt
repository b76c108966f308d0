-- Nested loops over places, nodes and rows. The invariant of each: the whole answer is what the rest of the search answers. The measure is what is left of the nodes.
use mathlib.Core.Path.{◌≡◌}
use Prim.Native.Nat.{◌-◌}
use Rattle.chart.specs.Chart.{firsts_in, head_in, limit_in, near_in, seconds_in}
use Rattle.search.specs.Search.{step_in}
use Rattle.search.proofs.Laws.{from_node, from_row}
use Rattle.search.proofs.first_step.Given as goal

abbrev pub invariant-rows : goal.invariant-rows
invariant-rows l = step_in l.chart.words l.must l.fresh l.entered l.place l.node
    ≡ from_row (near_in l.must l.chart.words) (head_in l.chart.words) (firsts_in l.must l.chart.words) (seconds_in l.must l.chart.words) (limit_in l.chart.words) l.fresh l.entered l.i l.pivot l.j l.r

abbrev pub invariant-nodes : goal.invariant-nodes
invariant-nodes l = step_in l.chart.words l.must l.fresh l.entered l.place l.node
    ≡ from_node (near_in l.must l.chart.words) (head_in l.chart.words) (firsts_in l.must l.chart.words) (seconds_in l.must l.chart.words) (limit_in l.chart.words) l.fresh l.entered l.i l.pivot l.j

abbrev pub decreases-nodes : goal.decreases-nodes
decreases-nodes l = l.limit - l.j

abbrev pub invariant-places : goal.invariant-places
invariant-places l = step_in l.chart.words l.must l.fresh l.entered l.place l.node ≡ step_in l.chart.words l.must l.fresh l.entered l.i l.j

-- At each turn the path has i steps, in arrays of a path's lengths; the rows from i on, behind those steps, make the whole path; and the table holds the entries.
use mathlib.Core.Path.{◌≡◌}
use mathlib.Core.Bool.{false}
use lib.ListN.{drop, length}
use Rattle.chart.specs.Chart.{firsts_in, seconds_in}
use Rattle.paths.specs.Path.{entered_by, keys_of, length_of, plant_of}
use Rattle.trace.specs.Trace.{trace_from, trace_of}
use Rattle.trace.proofs.Laws.{Table}
use Rattle.trace.proofs.trace.Given as goal

abbrev pub invariant-loop-i : goal.invariant-loop-i
invariant-loop-i l = (length_of l.path ≡ l.i)
    × (length l.path.nodes ≡ 32)
    × (length l.path.rows ≡ 31)
    × (length l.path.pivots ≡ 31)
    × (plant_of l.path ≡ l.plant)
    × (trace_of (firsts_in false l.chart.words) (seconds_in false l.chart.words) l.plant l.rows ≡ trace_from (firsts_in false l.chart.words) (seconds_in false l.chart.words) l.plant (keys_of l.path) (drop l.i l.rows))
    × (length l.entries ≡ 256)
    × Table l.entries (entered_by l.plant (keys_of l.path))

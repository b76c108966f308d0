-- The loop's invariant: the walk stands at a path before which no wanted one stands (`Seeking`). The measure is how many paths stand behind it, and how many rows are not known yet.
use Prim.Native.Nat.{◌+◌, ◌-◌}
use Rattle.passes.proofs.Places.{left}
use Rattle.chart.specs.Chart.{graph_in, list_in}
use Rattle.paths.specs.Path.{rows_in}
use Rattle.tally.specs.Kinds.{numbers_of}
use Rattle.sought.specs.Spaces.{ReadyIn}
use Rattle.sought.proofs.Seeking.{Seeking}
use Rattle.sought.proofs.witness.Given as goal

abbrev pub invariant-loop-len : goal.invariant-loop-len
invariant-loop-len l =
    let criteria = l.space.criteria in
    (ready : ReadyIn l.chart.words l.space l.heads) → Seeking ready.0 (numbers_of criteria.kinds) criteria.costs.now criteria.leads.now l.limits l.path l.len

abbrev pub decreases-loop-len : goal.decreases-loop-len
decreases-loop-len l = left (graph_in l.chart.words) (list_in l.chart.words) (rows_in l.path) + (l.width - l.len)

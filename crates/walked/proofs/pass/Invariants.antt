-- `walked::pass`: at each turn the pass stands before the path, and the scratch table holds what stands behind the known rows of the trees that were met.
-- The measure is how many trees of the list stand behind the path.
use Rattle.chart.specs.Chart.{graph_in}
use Rattle.operations.specs.Operations.{layouts_in}
use Rattle.passes.proofs.Places.{left}
use Rattle.paths.specs.Path.{rows_in}
use Rattle.walked.specs.Passes.{scratch_rows}
use Rattle.walked.proofs.Turns.{Turn}
use Rattle.walked.proofs.pass.Given as goal

abbrev pub invariant-loop-next : goal.invariant-loop-next
invariant-loop-next l = Turn l.file l.chart.words scratch_rows l.count l.initial.costs l.initial.witnesses l.scratch l.path l.costs l.witnesses

abbrev pub decreases-loop-next : goal.decreases-loop-next
decreases-loop-next l = left (graph_in l.chart.words) (layouts_in l.file) (rows_in l.path)

-- The loop's invariant: the labels are those of the rows that the loop has passed.
use mathlib.Core.Path.{◌≡◌}
use Rattle.lists.specs.Lists.{range}
use Rattle.chosen.specs.Chosen.{rows_of}
use Rattle.chosen.proofs.Passed.{Passed}
use Rattle.completions.specs.Labels.{labels_of}
use Rattle.labels.proofs.Ends.labels_of.Given as goal

abbrev pub invariant-loop-row : goal.invariant-loop-row
invariant-loop-row l =
    Passed (rows_of l.fn.rows) l.row-iterator.iter.rest.now (λ done. l.labels ≡ labels_of l.self.firsts.now l.self.seconds.now (range 0 33) done)

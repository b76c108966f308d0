-- The loop's invariant: the days and their sum are those of the rows that the loop has passed.
use Rattle.chosen.specs.Chosen.{rows_of}
use Rattle.chosen.proofs.Passed.{Passed}
use Rattle.tally.proofs.Laws.{PaidFor}
use Rattle.tally.proofs.Criteria.paid_of.Given as goal

abbrev pub invariant-loop-row : goal.invariant-loop-row
invariant-loop-row l = Passed (rows_of l.fn.rows) l.row-iterator.iter.rest.now (PaidFor l.self.costs.now l.self.leads.now l.c l.sum l.days)

-- The loop's invariant: the first rows of the front stand in the lent tables (`Standing`).
use mathlib.Core.Path.{◌≡◌}
use lib.ListN.{length}
use Rattle.chart.specs.Chart.{width_in}
use Rattle.tally.specs.Kinds.{numbers_of}
use Rattle.fronted.specs.Filled.{Holding}
use Rattle.sought.specs.Spaces.{SearchedIn}
use Rattle.sought.proofs.Tables.{Standing}
use Rattle.sought.proofs.rows.Given as goal

abbrev pub invariant-loop-count : goal.invariant-loop-count
invariant-loop-count l = (s : SearchedIn l.chart.words l.space l.heads) (four : length (numbers_of l.space.criteria.kinds) ≡ 4)
    (lent : Holding l.capacity l.space.criteria.k (width_in l.chart.words) l.initial.costs l.initial.witnesses)
    → Standing s.0 four lent l.count l.costs l.witnesses

-- `search`: at each turn what is found among the usable rows that are left tells of all (`Turn`). The measure of the loop is how many they are, and so is
-- that of the call of itself.
use lib.ListN.{length}
use Rattle.chosen.specs.Chosen.{rows_of, rows_on}
use Rattle.tally.specs.Kinds.{numbers_of}
use Rattle.find.proofs.Turns.{Turn}
use Rattle.find.proofs.Space.+search.Given as goal

abbrev pub invariant-loop-tree : goal.invariant-loop-tree
invariant-loop-tree l =
    let s = l.self in
    Turn s.ends.firsts.now s.ends.seconds.now s.limit s.criteria.k (numbers_of s.criteria.kinds) s.criteria.costs.now s.criteria.leads.now l.limits (rows_of l.inc) l.initial.us l.us

abbrev pub decreases-loop-tree : goal.decreases-loop-tree
decreases-loop-tree l = length (rows_on l.us)

abbrev pub decreases-search : goal.decreases-search
decreases-search l = length (rows_on l.usable)

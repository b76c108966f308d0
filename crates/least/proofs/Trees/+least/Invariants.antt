-- The loop's invariant: what the rest of the search answers, the whole does (`Searching`). Its measure: the limit of component 2; that of the call of itself is the
-- limit of component 3.
use lib.ListN.{get_or}
use Rattle.chosen.specs.Chosen.{rows_of}
use Rattle.tally.specs.Kinds.{numbers_of}
use Rattle.least.proofs.Regions.{Searching}
use Rattle.least.proofs.Trees.+least.Given as goal

abbrev pub invariant-loop-row : goal.invariant-loop-row
invariant-loop-row l =
    let t = l.self in
    let s = t.space in
    Searching s.ends.firsts.now s.ends.seconds.now s.limit (numbers_of s.criteria.kinds) s.criteria.k s.criteria.costs.now s.criteria.leads.now (rows_of t.musts) t.free
    l.known l.initial.lower l.initial.lows l.initial.best l.lower l.lows l.best

abbrev pub decreases-loop-row : goal.decreases-loop-row
decreases-loop-row l = get_or l.lower 2 0

abbrev pub decreases-least : goal.decreases-least
decreases-least l = get_or l.limits 3 0

-- The loop's invariant: the sums are mixed of the rates of the criteria from c on.
use lib.Dec.{ltb}
use lib.ListN.{get_or}
use Rattle.lists.specs.Lists.{pick}
use Rattle.chosen.specs.Chosen.{is_on, rows_of, rows_on}
use Rattle.tally.specs.Kinds.{numbers_of}
use Rattle.weighing.specs.Weighing.{factor_in, rate_in}
use Rattle.weighing.proofs.Turns.{Mixed}
use Rattle.weighing.proofs.weights.Given as goal

abbrev pub invariant-loop-c : goal.invariant-loop-c
invariant-loop-c l =
    let w = l.criteria in
    Mixed (is_on l.flags) (λ i q. rate_in (get_or (numbers_of w.kinds) i 0) w.costs.now w.leads.now i (rows_of l.inc) (rows_on l.flags) q) (factor_in l.limits l.factors) 288230376151711744
    (pick (ltb w.k 4) w.k 4) l.sums l.c

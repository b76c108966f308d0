use Rattle.std.proofs.Common.{arith, rules}
use Rattle.counts.proofs.Agreement.{merged_must}
use Rattle.counted.proofs.Laws.{absent_set}
use Rattle.counted.proofs.Steps.{answer_cleared, answer_enough, answer_next, answer_pair, answer_single, answer_zero, counted_as}
use Rattle.counted.proofs.Steps.{linking_next, linking_none, linking_one, linking_two, links_fewer}
use Rattle.counted.proofs.+by_links_dropping_merging.Goals as goal
use Rattle.counted.proofs.+by_links_dropping_merging.Goals.{dropping-then-so-eq-LIMIT-via-then-so-eq-LIMIT, dropping-then-so-eq-LIMIT-via-else-so-eq-LIMIT+then-f-eq0}

pub by_links-returns-in_default-link_from : goal.by_links-returns-in_default-link_from
by_links-returns-in_default-link_from t c =
    linking_one c.loop-x.invariant c.in-Some.ensures c.in_default-link_from.ensures c.times.ensures c.dropping.ensures.0

pub by_links-returns-in_default-link_from-2 : goal.by_links-returns-in_default-link_from-2
by_links-returns-in_default-link_from-2 t c =
    linking_two c.loop-x.invariant c.in-Some.ensures c.in-Some-link_from.ensures c.in_default-link_from-2.ensures c.chained.ensures
    c.dropping-in_default-link_from-2.ensures.0

pub by_links-loop-x-preserved : goal.by_links-loop-x-preserved
by_links-loop-x-preserved t c =
    let merging = c.merging-s.ensures in
    linking_next c.loop-x.invariant c.in-Some.ensures (absent_set _ _ _ (search rules) (search rules) (search rules)) c.times-in-Some.ensures
    merging.0 merging.1 c.times-g.ensures

pub by_links-returns : goal.by_links-returns
by_links-returns t c = linking_none c.loop-x.invariant c.in_default.ensures

pub dropping-returns-then-so-eq-LIMIT : goal.dropping-returns-then-so-eq-LIMIT
dropping-returns-then-so-eq-LIMIT t c = elim c.then-so-eq-LIMIT.branch [
  | dropping-then-so-eq-LIMIT-via-then-so-eq-LIMIT w ↦ answer_enough _ _ _ _ w.if-so-eq-LIMIT.true
  | dropping-then-so-eq-LIMIT-via-else-so-eq-LIMIT+then-f-eq0 w ↦ answer_zero _ _ _ _ (search rules) w.if-f-eq0.true
]

pub dropping-returns-then-k-eq1 : goal.dropping-returns-then-k-eq1
dropping-returns-then-k-eq1 t c = answer_single _ _ _ _ _ c.if-k-eq1.true c.plus.ensures

pub dropping-returns-then-k-eq2 : goal.dropping-returns-then-k-eq2
dropping-returns-then-k-eq2 t c = answer_pair _ _ _ _ _ _ c.if-k-eq2.true c.times.ensures c.plus-then-k-eq2.ensures

pub dropping-by_links-requires : goal.dropping-by_links-requires
dropping-by_links-requires t c =
    (omega (arith, links_fewer c.args.k (search rules), c.decreases), (search rules, search rules, search rules, search rules, c.cleared-g.ensures.clear))

pub dropping-dropping-requires : goal.dropping-dropping-requires
dropping-dropping-requires t c =
    (omega (arith, links_fewer c.args.k (search rules), c.decreases), (search rules, search rules, search rules, search rules))

pub dropping-returns : goal.dropping-returns
dropping-returns t c =
    let x = c.in-Some.ensures in
    answer_cleared _ _ _ _ _ _ _ (search rules) c.cleared-g.ensures.same
    (merged_must _ _ _ _ x.0 (search rules) (absent_set _ _ _ (search rules) x.0 (search rules)) _ _ _ _ _ x.1 c.times-2.ensures (counted_as _ _ _ _ _ _ c.moved.ensures c.dropping.ensures.0))

pub merging-returns : goal.merging-returns
merging-returns t c = answer_next _ _ _ _ _ _ _ _ (search rules) c.copied.ensures c.moved.ensures c.dropping.ensures.0

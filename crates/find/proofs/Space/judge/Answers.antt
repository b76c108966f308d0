-- `judge` meets its contract: the choice closes the node, or says what `settled` says of it.
use mathlib.Core.Path.{◌∙◌, ◌≡◌, sym}
use native.Mathlib.Omega.{arith}
use lib.Dec.{ltb→lt}
use lib.ListN.{length, length-map}
use Rattle.lists.proofs.Tests.{T_true}
use Rattle.tally.specs.Kinds.{numbers_of}
use Rattle.find.proofs.Judging.{choice_on, settles, settles_usable, short, too_heavy}
use Rattle.find.proofs.Space.judge.Goals as goal
use Rattle.find.proofs.Space.judge.Goals.{After-count, Start}

-- there are four kinds
four : (c : Start) → length (numbers_of c.args.self.criteria.kinds) ≡ 4
four c = simp length-map (omega arith)

pub returns-then-count-need-clause-says : goal.returns-then-count-need-clause-says
returns-then-count-need-clause-says c = λ nodes given.
    let criteria = c.args.self.criteria in
    short given (numbers_of criteria.kinds) criteria.costs.now criteria.leads.now (four (goal.at.returns-then-count-need-clause-says c).Start) (omega arith)
    c.weights-weights.result c.lightest-chosen.ensures (λ e. omega (arith, c.count.ensures.0, e))

pub returns-then-exceed-clause-says : goal.returns-then-exceed-clause-says
returns-then-exceed-clause-says c = λ nodes given.
    let criteria = c.args.self.criteria in
    too_heavy given (numbers_of criteria.kinds) criteria.costs.now criteria.leads.now (four (goal.at.returns-then-exceed-clause-says c).Start) (omega arith)
    c.weights-weights.result c.lightest-chosen.ensures c.args.factors c.weights-weights.ensures c.room-left.ensures
    (ltb→lt _ _ ((T_true _).1 (sym c.exceed.ensures ∙ c.if-exceed.true)))

pub returns-clause-usable : goal.returns-clause-usable
returns-clause-usable c =
    let a = c.args in
    settles_usable _ _ _ _ _ _ _ c.settled.result c.settled.ensures (sym c.count.ensures.0 ∙ c.if-count-need.false)
    (choice_on a.self.ends.firsts.now a.self.ends.seconds.now c.weights-weights.result a.flags.now a.need a.labels c.lightest-chosen.ensures)

pub returns-clause-says : goal.returns-clause-says
returns-clause-says c = λ nodes given.
    let criteria = c.args.self.criteria in
    settles given (numbers_of criteria.kinds) criteria.costs.now criteria.leads.now (four (goal.at.returns-clause-says c).Start) (omega arith)
    c.weights-weights.result c.lightest-chosen.ensures (sym c.count.ensures.0 ∙ c.if-count-need.false) c.settled.result c.settled.ensures

use borrow.Author.Rules.{rules}
use Rattle.chart.proofs.Made.{blank}
use Rattle.reach.proofs.Opened.{reach_answered, reach_refused}
use Rattle.reach.proofs.reach.Goals as goal

pub returns-in_err-open : goal.returns-in_err-open
returns-in_err-open c = search (rules, reach_refused)

pub returns : goal.returns
returns c = reach_answered _ _ _ _ _ c.in_ok-open.ensures (rw c.empty-chart.ensures blank) c.of_file.ensures c.reached_word-reached.ensures

-- Each way out is one way of a call to end.
use Rattle.chart.proofs.Made.{blank}
use Rattle.count.proofs.Ends.{count_empty, count_many, count_some, count_stops, sizes_are}
use borrow.Author.Rules.{rules}
use Rattle.count.proofs.count.Goals as goal

pub returns-in_err-header : goal.returns-in_err-header
returns-in_err-header c = search (rules, count_stops)

pub returns-then-is_err : goal.returns-then-is_err
returns-then-is_err c = count_empty _ _ c.in_ok-header.ensures _ (search rules) (c.listed.ensures.0 (rw c.empty-chart.ensures blank))

pub trees_of-trees-requires : goal.trees_of-trees-requires
trees_of-trees-requires c = sizes_are _ _ c.in_ok-header.ensures

pub returns-in_err-check : goal.returns-in_err-check
returns-in_err-check c =
    let refused = count_many _ _ c.in_ok-header.ensures _ c.trees_of-trees.ensures (search (rules, c.in_err-check.ensures.0)) in search (rules, refused)

pub returns : goal.returns
returns c = count_some _ _ c.in_ok-header.ensures _ c.trees_of-trees.ensures (search (rules, c.in_ok-check.ensures))

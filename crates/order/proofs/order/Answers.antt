use borrow.Author.Rules.{rules}
use Rattle.order.proofs.Laws.{order_path, order_refused, order_short}
use Rattle.order.proofs.order.Goals as goal

pub returns-in_err-path : goal.returns-in_err-path
returns-in_err-path c = search (rules, order_refused)

pub returns-in_err-check : goal.returns-in_err-check
returns-in_err-check c = search (rules, order_short)

pub returns : goal.returns
returns c = search (rules, order_path)

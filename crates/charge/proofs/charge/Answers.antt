-- The charge by the answer of `drawn`, the file's sizes, the buffer's length and the criterion.
use mathlib.Core.Path.{◌∙◌, sym}
use Prim.Native.Nat.{◌≤◌}
use native.Mathlib.Omega.{arith}
use borrow.Author.Tests.{leb-true}
use borrow.Author.Rules.{rules}
use Rattle.charge.proofs.Laws.{charge_refused, charge_short, charge_split, charge_strange, nodes_low, quotient_small, total_small}
use Rattle.charge.proofs.charge.Goals as goal
use Rattle.charge.proofs.charge.Goals.{After-added-total}

pub returns-in_err-path : goal.returns-in_err-path
returns-in_err-path c = search (rules, charge_refused)

pub overflow_sub-nodes : goal.overflow_sub-nodes
overflow_sub-nodes c = omega (arith, nodes_low _ _ c.in_ok-path.path c.in_ok-path.ensures c.header_of-header.ensures)

pub returns-in_err-check : goal.returns-in_err-check
returns-in_err-check c =
    let short = charge_short _ _ c.in_ok-path.path c.in_ok-path.ensures c.header_of-header.ensures c.args.criterion c.args.buffer.now c.in_err-check.ensures.0 in
    search (rules, short)

pub returns-in_err-check-2 : goal.returns-in_err-check-2
returns-in_err-check-2 c =
    let strange = charge_strange _ _ c.in_ok-path.path c.in_ok-path.ensures c.header_of-header.ensures _ _ c.in_ok-check.ensures (sym c.is_added.ensures ∙ c.in_err-check-2.ensures.0) in
    search (rules, strange)

several : (c : After-added-total) → 2 ≤ c.header_of-header.result.n
several c = nodes_low _ _ c.in_ok-path.path c.in_ok-path.ensures c.header_of-header.ensures

small : (c : After-added-total) → c.added-total.result ≤ 31000000
small c = total_small _ _ c.in_ok-path.path c.in_ok-path.ensures _ c.added-total.ensures

pub overflow_cast-total : goal.overflow_cast-total
overflow_cast-total c = omega (arith, small c)

pub nonzero_div-quotient : goal.nonzero_div-quotient
nonzero_div-quotient c = omega (arith, several c)

pub nonzero_rem-remainder : goal.nonzero_rem-remainder
nonzero_rem-remainder c = omega (arith, several c)

pub put-requires : goal.put-requires
put-requires c = (leb-true _ _ c.in_ok-check.ensures, quotient_small _ _ (small (goal.at.put-requires c).After-added-total))

pub returns : goal.returns
returns c =
    let whole = charge_split _ _ c.in_ok-path.path c.in_ok-path.ensures c.header_of-header.ensures _ _ c.in_ok-check.ensures
    c.added-total.ensures (sym c.is_added.ensures ∙ c.in_ok-check-2.ensures) in
    search (rules, whole, c.put.ensures)

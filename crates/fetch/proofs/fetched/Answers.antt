-- Each way out is one way of a fetch to end. The entry lies within the index (`ends`), since there are more entries than its number.
use Prim.Native.Nat.{◌*◌, ◌+◌, ◌/◌, ◌≤◌}
use borrow.Author.Rules.{rules}
use borrow.Author.Tests.{eqb-false, eqb-true, leb-false, leb-true, ltb-false, ltb-true, not-false, not-true}
use lib.ListN.{length}
use Rattle.fetch.proofs.Laws.{entry_ends, fetched_ends, fetched_entry, fetched_met, fetched_none, fetched_short, width_some}
use Rattle.fetch.proofs.fetched.Goals as goal
use Rattle.fetch.proofs.fetched.Goals.{In_ok-check, In_ok-check-4}

pub returns-in_err-check : goal.returns-in_err-check
returns-in_err-check c f o right =
    let s = c.args in
    let (short, kind) = c.in_err-check.ensures in
    let stopped = fetched_short o _ c.width-width.ensures s.spacing right s.index.now s.tree s.buffer.now (leb-false _ _ short) in
    search (rules, stopped, kind)

pub returns-in_err-check-2 : goal.returns-in_err-check-2
returns-in_err-check-2 c f o right =
    absurd (width_some o _ c.width-width.ensures (eqb-true _ _ (not-false _ c.in_err-check-2.ensures.0)))

room : (c : In_ok-check) → c.width-width.result ≤ length c.args.buffer.now
room c = leb-true _ _ c.in_ok-check.ensures

pub returns-in_err-check-4 : goal.returns-in_err-check-4
returns-in_err-check-4 c f o right =
    let s = c.args in
    let (few, kind) = c.in_err-check-4.ensures in
    let stopped = fetched_none o _ c.width-width.ensures s.spacing right s.index.now s.tree s.buffer.now (room (goal.at.returns-in_err-check-4 c).In_ok-check) (ltb-false _ _ few) in
    search (rules, stopped, kind)

ends : (c : In_ok-check-4) →
    let s = c.args in
    s.tree / s.spacing * c.width-width.result + c.width-width.result ≤ length s.index.now
ends c = entry_ends _ _ _ (eqb-false _ _ (not-true _ c.in_ok-check-2.ensures)) (ltb-true _ _ c.in_ok-check-4.ensures)

pub returns-in_err-check-5 : goal.returns-in_err-check-5
returns-in_err-check-5 c f o right =
    let s = c.args in
    let at = goal.at.returns-in_err-check-5 c in
    let stopped = fetched_entry o _ c.width-width.ensures s.spacing right s.index.now s.tree s.buffer.now (room at.In_ok-check) (ends at.In_ok-check-4) _ (c.in_err-check-5.ensures f o) in
    search (rules, stopped)

pub returns-in_default : goal.returns-in_default
returns-in_default c f o right =
    let s = c.args in
    let at = goal.at.returns-in_default c in
    fetched_ends o _ c.width-width.ensures s.spacing right s.index.now s.tree s.buffer.now (room at.In_ok-check) (ends at.In_ok-check-4) (c.in_ok-check-5.ensures f o)
    c.placed.result c.moved.result c.placed.ensures c.moved.ensures c.in_default.is

pub returns : goal.returns
returns c f o right =
    let s = c.args in
    let at = goal.at.returns c in
    fetched_met o _ c.width-width.ensures s.spacing right s.index.now s.tree s.buffer.now (room at.In_ok-check) (ends at.In_ok-check-4) (c.in_ok-check-5.ensures f o)
    c.placed.result c.moved.result c.placed.ensures c.moved.ensures _ c.in-Some.is c.copy.ensures

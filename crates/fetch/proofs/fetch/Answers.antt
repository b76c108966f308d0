-- A refusal of Open's is the call's, and so is a spacing out of range; with any other, what is fetched over the file's chart answers the call.
use mathlib.Core.Path.{◌∙◌, sym}
use borrow.Author.Rules.{rules}
use Rattle.chart.proofs.Made.{blank}
use Rattle.indexes.proofs.Checks.{fetch_open, fetch_spacing}
use Rattle.network_file.proofs.Opened.{open_answered, open_refused}
use Rattle.fetch.proofs.fetch.Goals as goal

pub returns-in_err-open : goal.returns-in_err-open
returns-in_err-open c =
    let s = c.args in
    let stopped = fetch_open s.file.now s.spacing s.index.now s.tree s.buffer.now _ (open_refused _ _ (sym c.in_err-open.ensures)) in
    search (rules, stopped)

pub returns-in_err-check : goal.returns-in_err-check
returns-in_err-check c =
    let s = c.args in
    let met = (open_answered _ _ (sym c.in_ok-open.ensures)).0 in
    let (far, kind) = c.in_err-check.ensures in
    let stopped = fetch_spacing s.file.now s.spacing s.index.now s.tree s.buffer.now met (sym c.is_spacing.ensures ∙ far) in
    search (rules, stopped, kind)

pub returns : goal.returns
returns c =
    let met = (open_answered _ _ (sym c.in_ok-open.ensures)).0 in
    c.fetched.ensures _ (record { met = met; lent = _; empty = rw c.empty-chart.ensures blank; made = c.of_file.ensures }) (sym c.is_spacing.ensures ∙ c.in_ok-check.ensures)

-- A refusal of Open's is the build's, and so is a spacing out of range; with any other the file's chart is built from.
use mathlib.Core.Path.{◌∙◌, sym}
use borrow.Author.Rules.{rules}
use Rattle.chart.proofs.Made.{blank}
use Rattle.indexes.proofs.Checks.{index_open, index_spacing}
use Rattle.network_file.proofs.Opened.{open_answered, open_refused}
use Rattle.index.proofs.build.Goals as goal

pub returns-in_err-open : goal.returns-in_err-open
returns-in_err-open c =
    let stopped = index_open c.args.file.now c.args.spacing c.args.index.now _ (open_refused _ _ (sym c.in_err-open.ensures)) in
    search (rules, stopped)

pub returns-in_err-check : goal.returns-in_err-check
returns-in_err-check c =
    let met = (open_answered _ _ (sym c.in_ok-open.ensures)).0 in
    let (far, kind) = c.in_err-check.ensures in
    let stopped = index_spacing c.args.file.now c.args.spacing c.args.index.now met (sym c.is_spacing.ensures ∙ far) in
    search (rules, stopped, kind)

pub returns : goal.returns
returns c =
    let met = (open_answered _ _ (sym c.in_ok-open.ensures)).0 in
    c.built.ensures _ (record { met = met; lent = _; empty = rw c.empty-chart.ensures blank; made = c.of_file.ensures }) (sym c.is_spacing.ensures ∙ c.in_ok-check.ensures)

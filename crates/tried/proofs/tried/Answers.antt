-- The path is grown over the drawn rows (`grown`), and has as many steps as it says (`steps`).
use mathlib.Core.Path.{◌∙◌, ◌≡◌, ap, sym}
use mathlib.Core.Bool.{Bool}
use mathlib.Core.List.{List}
use lib.ListN.{length}
use borrow.Author.Rules.{rules}
use Rattle.checks.specs.Checks.{checked, first_unmet}
use Rattle.paths.specs.Path.{keys_of}
use Rattle.paths.proofs.Laws.{keys_length}
use Rattle.tried.specs.Only.{marks_of}
use Rattle.tried.specs.Tried.{drawn_keys, tried_checks, tried_of}
use Rattle.tried.proofs.tried.Goals as goal
use Rattle.tried.proofs.tried.Goals.{After-grown_over-path, After-length}

grown : (c : After-grown_over-path) → keys_of c.grown_over-path.result ≡ drawn_keys c.args.chart.now.words (marks_of c.args.rows.now)
grown c = c.grown_over-path.ensures.1 ∙ ap (λ (drawn : List Bool). drawn_keys c.args.chart.now.words drawn) c.marks-drawn.ensures

steps : (c : After-length) → c.length.result ≡ length (drawn_keys c.args.chart.now.words (marks_of c.args.rows.now))
steps c =
    let path = c.grown_over-path in
    c.length.ensures
    ∙ sym (keys_length path.result (path.type_inv.1.1.1.0.1.0.1) (path.type_inv.1.1.0.1.0.1) (path.type_inv.1.1.1.1.0.1.0.1))
    ∙ ap length (grown (goal.at.After-length c).After-grown_over-path)

pub returns-in_err-check-3 : goal.returns-in_err-check-3
unfolding tried_of tried_checks checked first_unmet
returns-in_err-check-3 c = search (rules, steps (goal.at.returns-in_err-check-3 c).After-length)

pub returns-in_err-check-4 : goal.returns-in_err-check-4
unfolding tried_of tried_checks checked first_unmet
returns-in_err-check-4 c = search (rules, steps (goal.at.returns-in_err-check-4 c).After-length)

pub returns : goal.returns
unfolding tried_of tried_checks checked first_unmet
returns c = search (rules, steps (goal.at.returns c).After-length, grown (goal.at.returns c).After-grown_over-path)

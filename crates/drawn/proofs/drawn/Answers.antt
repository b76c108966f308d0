-- Open's refusal as it came, or what trying the rows comes to in the chart of a file that Open answers.
use mathlib.Core.Path.{◌∙◌, ap, sym}
use mathlib.Core.List.{List}
use Prim.Native.Nat.{ℕ}
use borrow.Author.Rules.{rules}
use Rattle.chart.proofs.Made.{blank}
use Rattle.tried.specs.Tried.{tried_of}
use Rattle.drawn.proofs.Answers.{open_stops, tried_drawn}
use Rattle.drawn.proofs.drawn.Goals as goal

pub returns-in_err-open : goal.returns-in_err-open
returns-in_err-open c = search (rules, open_stops)

pub returns : goal.returns
returns c =
    c.tried.ensures ∙ ap (λ (chart : List ℕ). tried_of chart c.args.rows.now) (rw c.empty-chart.ensures at c.of_file.ensures)
    ∙ tried_drawn _ _ (sym c.in_ok-open.ensures) _ blank _

-- An empty start has no check; the checks of any other are those of its rows as drawn, and then 13.
use mathlib.Core.Path.{◌∙◌, ◌≡◌, ap, sym}
use mathlib.Core.Bool.{Bool}
use mathlib.Core.Option.{none, some}
use lib.ListN.{length}
use borrow.Author.Rules.{rules}
use borrow.Author.Tests.{eqb-false}
use Rattle.lists.specs.Lists.{pick}
use Rattle.start.proofs.Checks.{numbered_by, numbered_last, start_drawn, start_none, start_path, start_tried}
use Rattle.start.proofs.check.Goals as goal
use Rattle.start.proofs.check.Goals.{After-branch-path}

pub returns-then-is_empty : goal.returns-then-is_empty
returns-then-is_empty c f o = let empty : length c.args.start.now ≡ 0 = search rules in start_none f o.met c.args.start.now empty

some_rows : (c : After-branch-path) → ¬ (length c.args.start.now ≡ 0)
some_rows c = eqb-false _ _ (sym c.is_empty.ensures ∙ c.if-is_empty.false)

pub returns-in_err-path : goal.returns-in_err-path
returns-in_err-path c f o =
    let start = c.args.start.now in
    start_drawn f o.met start (some_rows (goal.at.returns-in_err-path c).After-branch-path) _ (c.in_err-path.ensures ∙ start_tried o start)
    ∙ sym (numbered_by _ c.from_residual.result c.from_residual.ensures.1)

pub returns : goal.returns
returns c f o =
    let start = c.args.start.now in
    start_path f o.met start (some_rows (goal.at.returns c).After-branch-path) c.in_ok-path.path (c.in_ok-path.ensures ∙ start_tried o start)
    ∙ ap (λ (b : Bool). pick b none (some 13)) (sym c.is_written.ensures) ∙ numbered_last _ _ c.check.result c.check.ensures

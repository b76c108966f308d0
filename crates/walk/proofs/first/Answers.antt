-- The array's first places are the rows of the path that was grown, which has as many steps as it says.
use mathlib.Core.Path.{◌∙◌, ◌≡◌, sym}
use native.Mathlib.Omega.{arith}
use borrow.Author.Rules.{rules}
use lib.ListN.{length, take}
use Rattle.paths.specs.Path.{keys_of, rows_in}
use Rattle.paths.proofs.Laws.{keys_length, path_rows}
use Rattle.walk.proofs.Laws.{first_asked, first_short}
use Rattle.walk.proofs.first.Goals as goal
use Rattle.walk.proofs.first.Goals.{After-length-steps, else-steps-width-via-then-steps-width+else-musts_met, else-steps-width-via-else-steps-width}

steps : (c : After-length-steps) → c.length-steps.result ≡ length (keys_of c.first_path-path.result)
steps c = c.length-steps.ensures ∙ sym (keys_length c.first_path-path.result (omega arith) (omega arith) (omega arith))

rows : (c : After-length-steps) → take c.length-steps.result c.first_path-path.result.rows ≡ rows_in c.first_path-path.result
rows c = path_rows c.first_path-path.result c.length-steps.result c.length-steps.ensures (omega arith) (omega arith) (omega arith)

pub returns-then-musts_met : goal.returns-then-musts_met
returns-then-musts_met c =
    let at = (goal.at.returns-then-musts_met c).After-length-steps in
    let grown = c.first_path-path.ensures in
    let met = rw (rows at) at c.musts_met.ensures in
    (search rules, first_asked _ _ grown.1 (sym (steps at) ∙ c.if-steps-width.true ∙ c.width.ensures) (sym c.if-musts_met.true ∙ met))

pub returns-else-steps-width : goal.returns-else-steps-width
returns-else-steps-width c =
    let at = (goal.at.returns-else-steps-width c).After-length-steps in
    let grown = c.first_path-path.ensures in (
      tt,
      elim c.else-steps-width.branch [
        | else-steps-width-via-then-steps-width+else-musts_met w ↦
            let met = rw (rows at) at w.musts_met.ensures in
            first_asked _ _ grown.1 (sym (steps at) ∙ w.if-steps-width.true ∙ c.width.ensures) (sym w.if-musts_met.false ∙ met)
        | else-steps-width-via-else-steps-width w ↦ first_short _ _ grown.1 (λ e. w.if-steps-width.false (steps at ∙ e ∙ sym c.width.ensures))
      ],
    )

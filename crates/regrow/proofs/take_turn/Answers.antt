-- With no row the growth goes on from the first steps of the path; with one, from these and the step by that row, which the arrays hold already (`holds_beside`).
use mathlib.Core.Path.{◌∙◌, ap, sym}
use Prim.Native.Nat.{◌<◌}
use native.Mathlib.Omega.{arith}
use lib.ListN.{length, length-set, set}
use Rattle.trail.proofs.Sets.{holds_part}
use Rattle.regrow.proofs.Growing.{beside_long, holds_beside, part_long, rows_beside, rows_part, turned_beside, turned_longer, turned_plain}
use Rattle.regrow.proofs.take_turn.Goals as goal

pub returns-then-turn-eq0 : goal.returns-then-turn-eq0
returns-then-turn-eq0 c =
    λ keys h names begin width full.
    let same = turned_plain h names c.args.chart.now.words _ width c.if-turn-eq0.true in
    let part = holds_part h c.args.turn.at names.inside in
    rw same (c.regrow.ensures _ part (part_long h names) (rows_part h names c.args.rows.now begin) (sym (ap length same) ∙ full ∙ sym width))

pub returns-then-rows-at : goal.returns-then-rows-at
returns-then-rows-at c =
    λ keys h names begin width full.
    let small : c.args.turn.place < 256 = omega arith in
    absurd (omega (arith, turned_longer h names c.if-turn-eq0.false c.args.chart.now.words small))

pub returns : goal.returns
returns c =
    λ keys h names begin width full.
    let changes = c.if-turn-eq0.false in
    let rows = c.args.rows.now in
    let turn = c.args.turn in
    let small : turn.place < 256 = omega arith in
    let wide = length-set rows turn.at turn.row ∙ width in
    let same = turned_beside h names changes c.args.chart.now.words (length (set rows turn.at turn.row)) wide small in
    let written = rows_beside h names changes rows c.if-rows-at.false begin in
    rw same (c.regrow-2.ensures _ (holds_beside h names changes) (beside_long h names changes) written (sym (ap length same) ∙ full ∙ sym wide))

-- A buffer that is too short is check 11; in any other the `p` line and the edge lines stand one behind the other, and they are the text (`text_put`).
use Rattle.std.proofs.Common.{◌∙◌, ap₂, arith, List, ◌≤◌, ℕ, length}
use Rattle.std.proofs.lemmas.Result.{err_from_is_err_and}
use borrow.Author.Tests.{leb-false, leb-true}
use Rattle.checks.specs.Checks.{answered}
use Rattle.fields.specs.Fields.{sizes_in}
use Rattle.edge_file.specs.Dimacs.{text_in}
use Rattle.edge_write.proofs.Calls.{text_met, text_short}
use Rattle.edge_write.proofs.Lines.{sizes_few}
use Rattle.edge_write.proofs.Putting.{text_put}
use Rattle.edge_write.proofs.accepted_write.Goals as goal

pub returns-in_err-check : goal.returns-in_err-check
returns-in_err-check c =
    let p = err_from_is_err_and c.from_residual.result c.from_residual.ensures.1 in
    let (short, is) = c.in_err-check.ensures in
    rw (p.1, p.2, is) (text_short _ _ c.requires.0 (omega (arith, leb-false _ _ short, c.text_length-length.ensures)))

pub put_edges-requires : goal.put_edges-requires
put_edges-requires c =
    (sizes_few _ _ c.requires.1 c.requires.0).2

pub returns : goal.returns
returns c =
    let fits : length (text_in c.args.file.now) ≤ length c.args.buffer.now = omega (arith, leb-true _ _ c.in_ok-check.ensures, c.text_length-length.ensures) in
    ap₂ (λ (n : ℕ) (l : List ℕ). record { outcome = answered n; buffers = l })
    c.text_length-length.ensures (text_put _ (sizes_in c.args.header) c.requires.1 _ fits c.put_line-at.ensures c.put_edges.ensures)
    ∙ text_met _ _ c.requires.0 fits

-- The first pass decides the checks, and where they are met the head and the rows are put one behind the other.
use Rattle.std.proofs.Common.{◌∙◌, ℕ, ap₂, arith}
use Rattle.std.proofs.lemmas.Result.{err_from_is_err_and}
use Rattle.printout.specs.Text.{put}
use Rattle.printout.proofs.Laws.{behind}
use Rattle.edge_read.specs.Scan.{head_bytes}
use Rattle.edge_read.proofs.Reading.{read_answered, read_refused, scan_low}
use Rattle.edge_read.proofs.read.Goals as goal

pub returns-in_err-sizes : goal.returns-in_err-sizes
returns-in_err-sizes c =
    let p = err_from_is_err_and c.from_residual.result c.from_residual.ensures.1 in
    rw (p.1, p.2) (read_refused _ _ (omega arith) c.scan.ensures c.in_err-sizes.ensures.outcome)

pub put_head-at-requires : goal.put_head-at-requires
put_head-at-requires c = omega (arith, (scan_low _ _ c.in_ok-sizes.ensures.outcome).1, c.in_ok-sizes.ensures.sizes)

pub returns : goal.returns
returns c =
    let (n, m) = c.in_ok-sizes.ensures.sizes in
    let head = c.put_head-at.ensures ∙ ap₂ (λ (x y : ℕ). put c.args.buffer.now 0 (head_bytes x y)) n m in
    rw c.length.ensures (read_answered _ _ (omega arith) c.scan.ensures c.in_ok-sizes.ensures.outcome (behind _ 0 _ _ head c.put_rows.ensures))

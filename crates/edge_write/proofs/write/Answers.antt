-- A refusal of Open's is the call's.
use Rattle.std.proofs.Common.{sym}
use Rattle.std.proofs.lemmas.Result.{err_from_is_err_and}
use Rattle.network_file.proofs.Opened.{open_answered, open_refused}
use Rattle.edge_write.proofs.Calls.{text_open}
use Rattle.edge_write.proofs.write.Goals as goal

pub returns-in_err-header : goal.returns-in_err-header
returns-in_err-header c =
    let p = err_from_is_err_and c.from_residual.result c.from_residual.ensures.1 in
    rw (p.1, p.2) (text_open _ _ _ (open_refused _ _ (sym c.in_err-header.ensures)))

pub accepted_write-requires : goal.accepted_write-requires
accepted_write-requires c =
    let (met, sizes) = open_answered _ _ (sym c.in_ok-header.ensures) in
    (met, sym sizes)

-- Front's checks tell what the rows are found with, and the search fills the tables.
use Rattle.std.proofs.lemmas.Result.{err_from_is_err_and}
use Rattle.fronted.proofs.Calls.{front_filled, front_refused}
use Rattle.sought.proofs.front.Goals as goal

pub returns-in_err-room : goal.returns-in_err-room
returns-in_err-room c =
    let p = err_from_is_err_and c.from_residual.result c.from_residual.ensures.1 in
    rw (p.1, p.2) (front_refused c.args.file.now c.args.costs.now c.args.witnesses.now _ c.in_err-room.ensures)

pub returns : goal.returns
returns c = front_filled _ _ _ c.in_ok-room.ensures c.fill.ensures

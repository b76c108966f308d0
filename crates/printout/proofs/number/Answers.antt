-- A space, and then the digits that `io::decimal` spells.
use Rattle.printout.proofs.Spelling.{number_behind, spelled}
use Rattle.printout.proofs.number.Goals as goal

pub returns : goal.returns
returns c =
    let decimal = c.decimal-k.ensures in
    let args = c.args in
    number_behind _ args.at args.n (spelled decimal.len decimal.digits) c.text-spaced.ensures c.text.ensures

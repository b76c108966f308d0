use mathlib.Core.Path.{◌∙◌, ◌≡◌, ap}
use mathlib.Core.List.{map}
use lib.Dec.{ltb}
use lib.ListN.{get_or}
use Rattle.std.proofs.Common.{rules}
use Rattle.std.proofs.iter.runs.Made.{chains}
use Rattle.std.specs.List.{sum}
use Rattle.chosen.specs.Chosen.{rows_of}
use Rattle.tally.proofs.Laws.{sum_is}
use Rattle.room.proofs.exceed.Goals as goal

pub returns : goal.returns
returns c =
    let all = map (λ row. get_or c.args.weights.now row 0) (rows_of c.args.rows) in
    let e : c.sum-weight.result ≡ sum all = search (rules, chains) in ap (ltb c.args.room) (e ∙ sum_is all)

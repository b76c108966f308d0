use mathlib.Core.Path.{◌∙◌, ◌≡◌}
use mathlib.Core.List.{map}
use Rattle.std.proofs.Common.{rules}
use Rattle.std.proofs.iter.runs.Made.{chains}
use Rattle.std.specs.List.{sum}
use Rattle.chosen.specs.Chosen.{rows_of}
use Rattle.tally.specs.Tally.{cost_in}
use Rattle.tally.proofs.Laws.{sum_is}
use Rattle.tally.proofs.Criteria.added.Goals as goal

pub returns : goal.returns
returns c =
    let all = map (cost_in c.args.self.costs.now c.args.c) (rows_of c.args.rows) in
    let e : c.sum.result ≡ sum all = search (rules, chains) in e ∙ sum_is all

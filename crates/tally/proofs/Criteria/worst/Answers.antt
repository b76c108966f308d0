use mathlib.Core.Path.{◌∙◌, ◌≡◌}
use Prim.Native.Nat.{max, ℕ}
use Rattle.std.proofs.Common.{rules}
use Rattle.std.proofs.iter.runs.Made.{chains}
use Rattle.std.specs.List.{fold}
use Rattle.chosen.specs.Chosen.{rows_of}
use Rattle.tally.specs.Tally.{cost_in}
use Rattle.tally.proofs.Laws.{largest_is}
use Rattle.tally.proofs.Criteria.worst.Goals as goal

pub returns : goal.returns
returns c =
    let cost : ℕ → ℕ = cost_in c.args.self.costs.now c.args.c in
    let rows = rows_of c.args.rows in
    let e : c.fold.result ≡ fold (λ most row. max most (cost row)) 0 rows = search (rules, chains) in
    e ∙ largest_is cost rows

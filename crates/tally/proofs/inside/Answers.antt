use mathlib.Core.Path.{◌∙◌, ◌≡◌, sym}
use native.Mathlib.Omega.{arith}
use Rattle.std.specs.Prelude.{get_or, nat_lt}
use Rattle.std.proofs.Common.{rules}
use Rattle.std.proofs.iter.runs.Sources.{ranges}
use Rattle.std.specs.List.{list_all, range_with_len}
use Rattle.tally.proofs.Laws.{inside_four}
use Rattle.tally.proofs.inside.Goals as goal

pub returns : goal.returns
returns c =
    let e : c.all.result ≡ list_all (λ i. nat_lt (get_or c.args.v i 0) (get_or c.args.limits i 0)) (range_with_len 0 4) = search (rules, ranges) in
    e ∙ sym (inside_four c.args.limits c.args.v (omega arith) (omega arith))

use native.Mathlib.Omega.{arith}
use Rattle.lists.specs.Lists.{range}
use Rattle.lists.proofs.Ranges.{Written, written_all}
use Rattle.std.proofs.Common.{rules}
use Rattle.labels.proofs.own.Goals as goal

pub returns : goal.returns
unfolding range
returns c =
    let made = c.from_fn.ensures.items in
    let written : Written (λ i. i) 0 33 c.from_fn.result 33 = record { whole = made.long; within = omega arith; holds = λ i h. let at = made.at i 0 h in search rules } in
    written_all written (omega arith)

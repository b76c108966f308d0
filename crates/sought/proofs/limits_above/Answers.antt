-- The four limits, each by `above`.
use lib.ListN.{get_or}
use Rattle.std.proofs.Common.{rules}
use Rattle.lists.specs.Lists.{range}
use Rattle.find.proofs.Arrays.{made_of}
use Rattle.sought.specs.Sought.{step_up, up_from}
use Rattle.sought.proofs.limits_above.Goals as goal

pub returns : goal.returns
unfolding up_from range
returns c = made_of 0 _ (λ i. step_up c.args.k i (get_or c.args.v i 0)) _ 4 c.from_fn.ensures.items (λ i y q low k. search rules)

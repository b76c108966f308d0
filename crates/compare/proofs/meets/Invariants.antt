-- At each turn the answer is that of the rows to come, in what is left of the table.
use mathlib.Core.Path.{◌≡◌}
use Prim.Native.Nat.{◌-◌}
use lib.ListN.{length}
use Rattle.lists.specs.Lists.{any}
use Rattle.costs.specs.Costs.{none_larger}
use Rattle.pages.specs.Pages.{pieces}
use Rattle.compare.specs.Compare.{met_in}
use Rattle.compare.proofs.meets.Given as goal

abbrev pub invariant-loop : goal.invariant-loop
invariant-loop l = met_in l.costs l.count l.vector ≡ any (λ u. none_larger u l.vector) (pieces (length l.vector) (l.count - l.counter) l.left)

-- `walked::passes`: at each turn the first `count` rows of the front stand in the lent tables, each with its witness, and the scratch table has its length.
-- The measure is how many rows more the lent tables hold.
use mathlib.Core.Path.{◌≡◌}
use Prim.Native.Nat.{◌-◌}
use lib.ListN.{length}
use Rattle.walked.proofs.Tables.{Standing}
use Rattle.walked.proofs.passes.Given as goal

abbrev pub invariant-loop-vectors : goal.invariant-loop-vectors
invariant-loop-vectors l = Standing l.file l.capacity l.initial.costs l.initial.witnesses l.count l.costs l.witnesses × (length l.vectors ≡ 260) × (length l.trees ≡ 2015)

abbrev pub decreases-loop-vectors : goal.decreases-loop-vectors
decreases-loop-vectors l = l.capacity - l.count

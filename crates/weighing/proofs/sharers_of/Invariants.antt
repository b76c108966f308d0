-- The loop's invariant: the rows before the place are counted.
use mathlib.Core.Bool.{Bool}
use mathlib.Core.List.{List}
use Prim.Native.Nat.{ℕ}
use lib.Dec.{eqb, ltb}
use lib.ListN.{get_or, take}
use Rattle.lists.specs.Lists.{both}
use Rattle.tally.specs.Tally.{cost_in, lead_in}
use Rattle.weighing.proofs.Turns.{Counted}
use Rattle.weighing.proofs.sharers_of.Given as goal

-- row q is of the street, and costs more than it has paid
unfoldable pub test : List ℕ → List ℕ → ℕ → List ℕ → ℕ → ℕ → Bool
test costs leads c days lead q = both (eqb (lead_in leads q) lead) (ltb (get_or days lead 0) (cost_in costs c q))

abbrev pub invariant-loop-row : goal.invariant-loop-row
invariant-loop-row l = Counted (test l.criteria.costs.now l.criteria.leads.now l.c l.days) l.sharers (take l.row-index l.usable)

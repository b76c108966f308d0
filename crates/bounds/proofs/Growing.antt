-- The added cost of two parts of a path is the sum of theirs (`added_append`).
use mathlib.Core.Path.{◌∙◌, ◌≡◌, ap}
use mathlib.Core.List.{List, ◌++◌, map, map-append}
use Prim.Native.Nat.{◌+◌, ℕ}
use Rattle.lists.specs.Lists.{sum}
use Rattle.lists.proofs.Sums.{sum_append}
use Rattle.costs.specs.Costs.{added_cost, cost_at}
use Rattle.costs.specs.Network.{Network}

pub added_append : (w : Network) (c : ℕ) (rs qs : List ℕ) → added_cost w c (rs ++ qs) ≡ added_cost w c rs + added_cost w c qs
added_append w c rs qs = ap sum (map-append (cost_at w c) rs qs) ∙ sum_append (map (cost_at w c) rs) (map (cost_at w c) qs)

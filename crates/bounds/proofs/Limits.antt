-- The greatest cost of rows that cost at most b each: no rule of cost makes more of them than b for each row (`by_kind`, `costs_most`).
use mathlib.Core.List.{List, [], ◌∷◌}
use Prim.Native.Nat.{◌*◌, ◌≤◌, ℕ}
use native.Mathlib.Omega.{arith}
use lib.ListN.{length}
use Rattle.lists.specs.Lists.{largest, sum}
use Rattle.lists.proofs.Members.{◌∈◌}
use Rattle.costs.specs.Costs.{added_cost, cost_at, cost_by, cost_of, worst_cost}
use Rattle.costs.specs.Network.{Kind, Network, added, closing, worst}
use Rattle.costs.proofs.Criteria.{kinds_each}
use Rattle.bounds.proofs.Closing.{closing_most}

module _ (w : Network) (b : ℕ) (most : (c r : ℕ) → cost_at w c r ≤ b) where
  pub added_most : (c : ℕ) (rows : List ℕ) → added_cost w c rows ≤ length rows * b
  unfolding sum
  added_most c [] = omega arith
  added_most c (r ∷ rows) = omega (arith, most c r, added_most c rows)

  worst_most : (c : ℕ) (rows : List ℕ) → worst_cost w c rows ≤ length rows * b
  unfolding largest
  worst_most c [] = omega arith
  worst_most c (r ∷ rows) = omega (arith, most c r, worst_most c rows)

  pub by_kind : (kind : Kind) (c : ℕ) (rows : List ℕ) → cost_by kind w c rows ≤ length rows * b
  by_kind added c rows = added_most c rows
  by_kind worst c rows = worst_most c rows
  by_kind closing c rows = omega (arith, closing_most w c rows, added_most c rows)

  pub costs_most : (rows : List ℕ) (x : ℕ) → x ∈ cost_of w rows → x ≤ length rows * b
  unfolding cost_of
  costs_most rows = kinds_each (λ kind c. cost_by kind w c rows) (λ x. x ≤ length rows * b) (λ kind c. by_kind kind c rows) 0 w.kinds

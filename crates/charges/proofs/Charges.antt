-- A total is split without loss (`split`): the charges sum to it, also where nothing is left over, and no two are more than one apart. Place i of the
-- buffer is node i + 2 (`charge_at`). The total is what Cost gives in that criterion (`total_cost`).
use mathlib.Core.Path.{◌∙◌, ◌≡◌, ap, refl}
use mathlib.Core.Option.{Option, none, some}
use mathlib.Core.List.Memᴰ.{of_map as map_out}
use mathlib.Core.List.{List, map}
use Prim.Native.Nat.{◌*◌, ◌+◌, ◌-◌, ◌<◌, ◌≤◌, min, suc, zero, ℕ}
use native.Mathlib.Nat.{add_comm, div-add-mod, mod-lt, suc-mul, zero-add}
use native.Mathlib.Omega.{arith}
use lib.Dec.{T, leb, leb→le}
use lib.ListN.{get_or, get_elem?, length, length-map}
use borrow.Author.Tests.{leb-false}
use Rattle.lists.specs.Lists.{range, sum}
use Rattle.lists.proofs.Ranges.{get_or_map_from, range_length}
use Rattle.lists.proofs.Tests.{T_false, pick_elim}
use Rattle.costs.specs.Costs.{added_cost, cost_by, cost_of}
use Rattle.costs.specs.Network.{Kind, Network, added, closing, worst}
use Rattle.costs.proofs.Criteria.{kinds_at}
use Rattle.charges.specs.Charges.{Charge, Split, added_at, borne_by, charge_of, charges_by, is_added}

-- The charges

module _ (c : Charge) where
  pub charges_length : (nodes : ℕ) → length (charges_by c nodes) ≡ nodes
  unfolding charges_by
  charges_length nodes = length-map (range 2 nodes) (borne_by c) ∙ range_length 2 nodes

  -- place i is node i + 2
  pub charge_at : (nodes i : ℕ) → i < nodes → get_or (charges_by c nodes) i 0 ≡ borne_by c (i + 2)
  unfolding charges_by
  charge_at nodes i h = get_or_map_from (borne_by c) 2 nodes i 0 h ∙ ap (borne_by c) (add_comm 2 i)

  borne_most : (v : ℕ) → (c.quotient ≤ borne_by c v) × (borne_by c v ≤ c.quotient + 1)
  unfolding borne_by
  borne_most v =
      pick_elim (λ (x : ℕ). (c.quotient ≤ x) × (x ≤ c.quotient + 1)) (leb v (c.remainder + 1))
      (λ t. (omega arith, omega arith)) (λ t. (omega arith, omega arith))

  -- of k nodes from v on, those up to node remainder + 1 bear one more
  sum_from : (v k : ℕ) → sum (map (borne_by c) (range v k)) ≡ k * c.quotient + min k (suc (c.remainder + 1) - v)
  unfolding sum range borne_by
  sum_from v zero = omega arith
  sum_from v (suc k) =
      pick_elim (λ (x : ℕ). x + sum (map (borne_by c) (range (suc v) k)) ≡ suc k * c.quotient + min (suc k) (suc (c.remainder + 1) - v)) (leb v (c.remainder + 1))
      (λ t. omega (arith, leb→le v (c.remainder + 1) t, sum_from (suc v) k, suc-mul k c.quotient))
      (λ n. omega (arith, leb-false v (c.remainder + 1) ((T_false (leb v (c.remainder + 1))).0 n), sum_from (suc v) k, suc-mul k c.quotient))

pub split : (total nodes : ℕ) → 0 < nodes → Split total nodes (charge_of total nodes)
unfolding charges_by
split total nodes several =
    let c = charge_of total nodes in
    let exact = div-add-mod total nodes in
    let small = mod-lt total {m = nodes} several in
    record {
      exact = exact;
      remainder_small = small;
      many = charges_length c nodes;
      each = charge_at c nodes;
      whole = omega (arith, sum_from c 2 nodes, exact, small);
      even = λ x y i j.
          let (u, _, e) = map_out (borne_by c) (range 2 nodes) i in
          let (v, _, g) = map_out (borne_by c) (range 2 nodes) j in
          omega (arith, e, g, borne_most c u, borne_most c v);
    }

-- The total

-- Cost gives it in the criterion.
pub total_cost : (w : Network) (rows : List ℕ) (c : ℕ) → T (added_at w c) → get_or (cost_of w rows) c 0 ≡ added_cost w c rows
unfolding cost_of
total_cost w rows c t =
    kinds_at (λ kind c. cost_by kind w c rows) 0 w.kinds c added (is_added_lem (get_elem? w.kinds c) t) ∙ ap (λ (c : ℕ). added_cost w c rows) (zero-add c)
  where
    is_added_lem : (o : Option Kind) → T (is_added o) → o ≡ some added
    is_added_lem none t = absurd t
    is_added_lem (some added) t = refl
    is_added_lem (some worst) t = absurd t
    is_added_lem (some closing) t = absurd t

-- Connection charge (document 02, #109): a tree's total of one added criterion is split among nodes 2 to n.
use Rattle.std.specs.Prelude.{◌≡◌, Bool, false, true, List, [], ◌++◌, ◌∷◌, map, ◌%◌, ◌*◌, ◌+◌, ◌-◌, ◌/◌, ◌<◌, ◌≤◌, ℕ, leb, get_or, length}
use Rattle.std.proofs.Math.Option.{Option, none, some}
use Rattle.std.proofs.Math.ListN.{get_elem?}
use Rattle.lists.specs.Lists.{pick, range, sum}
use Rattle.lists.proofs.Members.{◌∈◌}
use Rattle.checks.specs.Checks.{Check, Ended, ended}
use Rattle.costs.specs.Costs.{added_cost}
use Rattle.costs.specs.Network.{Kind, Network, added, closing, worst}
use Rattle.network_file.specs.File.{file_checks, network_of, sizes_of}
use Rattle.operations.specs.Operations.{check, drawn_checks, over}

-- the whole quotient of a total by the number of nodes that are charged, and the remainder
pub record Charge : Type 0 where
  pub quotient : ℕ
  pub remainder : ℕ

abbrev pub charge_of : ℕ → ℕ → Charge
charge_of total nodes = record { quotient = total / nodes; remainder = total % nodes }

-- what node v bears: nodes 2 to remainder + 1 bear one more than the quotient
unfoldable pub borne_by : Charge → ℕ → ℕ
borne_by c v = pick (leb v (c.remainder + 1)) (c.quotient + 1) c.quotient

-- what so many nodes bear, in node order from node 2 on
unfoldable pub charges_by : Charge → ℕ → List ℕ
unfolding borne_by range
charges_by c nodes = map (borne_by c) (range 2 nodes)

-- What is shown of a total that is split among so many nodes.
pub record Split (total nodes : ℕ) (c : Charge) : Type 0 where
  pub exact : nodes * c.quotient + c.remainder ≡ total
  pub remainder_small : c.remainder < nodes
  -- one charge for each node, node i + 2 at place i; together the total, and no two more than one apart
  pub many : length (charges_by c nodes) ≡ nodes
  pub each : (i : ℕ) → i < nodes → get_or (charges_by c nodes) i 0 ≡ borne_by c (i + 2)
  pub whole : sum (charges_by c nodes) ≡ total
  pub even : (x y : ℕ) → x ∈ charges_by c nodes → y ∈ charges_by c nodes → x ≤ y + 1

-- The operation

abbrev pub is_added : Option Kind → Bool
is_added none = false
is_added (some added) = true
is_added (some worst) = false
is_added (some closing) = false

-- there is a criterion c, counted from 0, and its kind is added
abbrev pub added_at : Network → ℕ → Bool
added_at w c = is_added (get_elem? w.kinds c)

-- how many nodes are charged: all but the plant
abbrev pub charged_nodes : List ℕ → ℕ
charged_nodes f = (sizes_of f).n - 1

unfoldable pub charge_checks : List ℕ → List ℕ → ℕ → List ℕ → List Check
charge_checks f rows criterion buffer =
    file_checks f
    ++ drawn_checks (network_of f) rows
    ++ (check 11 (leb (charged_nodes f) (length buffer)) ∷ check 22 (added_at (network_of f) criterion) ∷ [])

-- the total is asked only after check 22, where the criterion is added
unfoldable pub charge_call : List ℕ → List ℕ → ℕ → List ℕ → Ended Charge (List ℕ)
unfolding charges_by
charge_call f rows criterion buffer =
    let charge = charge_of (added_cost (network_of f) criterion rows) (charged_nodes f) in
    ended (charge_checks f rows criterion buffer) charge buffer (over (charges_by charge (charged_nodes f)) buffer)

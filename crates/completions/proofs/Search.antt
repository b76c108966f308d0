-- A SEARCH in any order, for trees that have the rows inc and whose other rows are in a sequence `order`. By any weight the other rows weigh no less than the greedy choice
-- from it (`search_rest`), which is as long as what is missing (`search_length`); they and inc cost no more than the tree, by a weight (`search_parts`) and by closing with
-- fair shares (`search_shares`). If a row is in such a tree inc may grow by it (`search_in`).
use mathlib.Core.Path.{◌∙◌, ◌≡◌, ap}
use mathlib.Core.Logic.{inl, inr, ⊎_elim}
use mathlib.Core.Bool.{not}
use mathlib.Core.List.Memᴰ.{append_cases}
use mathlib.Core.List.Memᴰ.{append_left}
use mathlib.Core.List.Memᴰ.{append_right}
use mathlib.Core.List.Memᴰ.{tail as there}
use mathlib.Core.List.{List, ◌++◌, ◌∷◌, map, map-append}
use Prim.Native.Nat.{◌*◌, ◌+◌, ◌≤◌, suc, ℕ}
use native.Mathlib.Decide.{ℕ_discrete}
use native.Mathlib.Nat.{mul-le-mul_right}
use native.Mathlib.Omega.{arith}
use lib.Dec.{T, T_not, not_T}
use lib.ListN.{length, length-append}
use Rattle.lists.specs.Lists.{member, sum}
use Rattle.lists.proofs.Distinct.{Distinct, append_distinct, filter_distinct, mem?, pigeonhole}
use Rattle.lists.proofs.Members.{◌∈◌, ◌⊆◌, cons_⊆, filter_in, filter_out, member_in, member_out}
use Rattle.lists.proofs.Sums.{sum_append, sum_within}
use Rattle.graph.specs.Graph.{Graph, is_tree}
use Rattle.graph.proofs.Minimal.{WellFormed}
use Rattle.graph.proofs.Tree.{tree_out}
use Rattle.costs.specs.Costs.{closing_cost}
use Rattle.costs.specs.Network.{Network}
use Rattle.bounds.proofs.Closing.{closing_within}
use Rattle.forests.specs.Forests.{weight}
use Rattle.forests.proofs.Joined.{Lies}
use Rattle.completions.specs.Greedy.{greedy}
use Rattle.completions.specs.Search.{others}
use Rattle.completions.proofs.Greedy.{Completes, Rising, greedy_lighter}
use Rattle.completions.proofs.Lighter.{Lighter, lighter_length, lighter_weight}
use Rattle.completions.proofs.Shares.{Fair, shares_below}

pub weight_append : (v : ℕ → ℕ) (l m : List ℕ) → weight v (l ++ m) ≡ weight v l + weight v m
weight_append v l m = ap sum (map-append v l m) ∙ sum_append (map v l) (map v m)

-- p is a spanning tree with the rows inc, and its other rows are in `order`
pub record Within (g : Graph) (inc order p : List ℕ) : Type 0 where
  pub tree : T (is_tree g p)
  pub has : inc ⊆ p
  pub once : Distinct inc
  pub rest : (r : ℕ) → r ∈ p → ¬ (r ∈ inc) → r ∈ order

module _ (g : Graph) (inc order p : List ℕ) (h : Within g inc order p) (r : ℕ) where
  -- IN
  pub search_in : r ∈ p → ¬ (r ∈ inc) → Within g (r ∷ inc) order p
  search_in i n = record { tree = h.tree; has = cons_⊆ i h.has; once = (n, h.once); rest = λ q m k. h.rest q m (λ z. k (there z)) }

module _ (g : Graph) (wf : WellFormed g) (inc order p : List ℕ) (lies : (r : ℕ) → r ∈ order → Lies g r) (h : Within g inc order p) where
  other_out : {r : ℕ} → r ∈ others inc p → (r ∈ p) × (¬ (r ∈ inc))
  other_out {r} m = let (i, t) = filter_out (λ r. not (member r inc)) p m in (i, λ k. T_not (member r inc) t (member_in k))

  other_in : {r : ℕ} → r ∈ p → ¬ (r ∈ inc) → r ∈ others inc p
  other_in {r} i n = filter_in (λ r. not (member r inc)) i (not_T (member r inc) (λ t. n (member_out r inc t)))

  others_once : Distinct (others inc p)
  others_once = filter_distinct (λ r. not (member r inc)) p (tree_out g p h.tree).once

  completed : Completes g inc (others inc p) p
  completed = record {
    tree = h.tree;
    around = h.has;
    rest = λ q m. (other_out m).0;
    within = λ q m. elim (mem? ℕ_discrete q inc) [ yes i ↦ inl i | no n ↦ inr (other_in m n) ];
    apart = λ q m. (other_out m).1;
    once = others_once;
  }

  lighter : (v : ℕ → ℕ) → Rising v order → Lighter v (greedy g inc order) (others inc p)
  lighter v up = greedy_lighter g wf v order inc (others inc p) p up lies completed (λ q m. let (i, n) = other_out m in h.rest q i n)

  -- inc and the others are the rows of p, each once
  together : Distinct (inc ++ others inc p)
  together = append_distinct inc (others inc p) h.once others_once (λ q i m. (other_out m).1 i)

  within_p : inc ++ others inc p ⊆ p
  within_p q m = ⊎_elim (h.has q) (λ i. (other_out i).0) (append_cases inc m)

  all_p : p ⊆ inc ++ others inc p
  all_p q m = elim (mem? ℕ_discrete q inc) [ yes i ↦ append_left (others inc p) i | no n ↦ append_right inc (other_in m n) ]

  -- LENGTH
  pub search_length : (v : ℕ → ℕ) → Rising v order → suc (length inc + length (greedy g inc order)) ≡ length g.nodes
  search_length v up = omega (
    arith,
    (tree_out g p h.tree).size,
    lighter_length v (greedy g inc order) (others inc p) others_once (lighter v up),
    length-append inc (others inc p),
    pigeonhole (inc ++ others inc p) {m = p} together within_p,
    pigeonhole p {m = inc ++ others inc p} (tree_out g p h.tree).once all_p,
  )

  -- REST
  pub search_rest : (v : ℕ → ℕ) → Rising v order → weight v (greedy g inc order) ≤ weight v (others inc p)
  search_rest v up = lighter_weight v (greedy g inc order) (others inc p) others_once (lighter v up)

  -- inc and the others weigh no more than the tree
  pub search_parts : (v : ℕ → ℕ) → weight v inc + weight v (others inc p) ≤ weight v p
  search_parts v = omega (arith, weight_append v inc (others inc p), sum_within v (inc ++ others inc p) {m = p} together within_p)

  -- the same by closing
  pub search_shares : (w : Network) (c parts : ℕ) (share : ℕ → ℕ) → Fair w c parts share inc order → closing_cost w c inc * parts + weight share (others inc p) ≤ closing_cost w c p * parts
  search_shares w c parts share fair = omega (
    arith,
    shares_below w c parts share inc order fair (others inc p) others_once (λ q m. let (i, n) = other_out m in h.rest q i n),
    mul-le-mul_right parts (closing_within w c (inc ++ others inc p) p together within_p),
  )

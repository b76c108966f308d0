-- HEAVY: where the mixed weight of what is in and of the greedy choice is more than the limits allow, no tree of the node is inside them (`heavy_none`).
-- This is for any factors and any fair shares, such as even ones among the usable rows that cost more than their street has paid (`above_shares`).
use mathlib.Core.Path.{◌∙◌, ◌≡◌, ap, refl, subst, sym}
use mathlib.Core.Option.{Option, none, some}
use mathlib.Core.List.{List, [], ◌∷◌, map}
use Prim.Native.Nat.{◌*◌, ◌+◌, ◌-◌, ◌/◌, ◌<◌, ◌≤◌, pred, suc, ℕ}
use native.Mathlib.Decide.{dec_le}
use native.Mathlib.Nat.{add-mul, div-le_self, mul_assoc, mul_comm, mul-div-le, mul-le-mul_right}
use native.Mathlib.Omega.{arith}
use lib.Dec.{eqb, eqb→eq, ltb, lt→ltb}
use lib.ListN.{get_or, get_elem?, length}
use Rattle.lists.specs.Lists.{sum}
use Rattle.lists.proofs.Distinct.{pigeonhole}
use Rattle.lists.proofs.Members.{◌∈◌, ◌⊆◌, filter_in, filter_out}
use Rattle.lists.proofs.Sums.{largest_within}
use Rattle.lists.proofs.Tests.{eq→eqb, pick_elim}
use Rattle.graph.specs.Graph.{Graph}
use Rattle.graph.proofs.Minimal.{WellFormed}
use Rattle.costs.specs.Costs.{cost_at, cost_by, cost_of, in_street, street_cost}
use Rattle.costs.specs.Network.{Kind, Network, added, closing, worst}
use Rattle.costs.proofs.Networks.{cost_length}
use Rattle.bounds.proofs.Closing.{street_of}
use Rattle.forests.specs.Forests.{weight}
use Rattle.forests.proofs.Joined.{Lies}
use Rattle.completions.specs.Boxes.{dot, mix, total}
use Rattle.completions.specs.Greedy.{greedy}
use Rattle.completions.specs.Search.{others}
use Rattle.completions.specs.Weights.{above_in, above_share, paid, paid_by, rate, rate_by, share_by}
use Rattle.completions.proofs.Boxes.{inside_dot}
use Rattle.completions.proofs.Filters.{dot_total, mix_below}
use Rattle.completions.proofs.Find.{Answers, cost_at_lem}
use Rattle.completions.proofs.Greedy.{Rising}
use Rattle.completions.proofs.Search.{Within, search_parts, search_rest, search_shares}
use Rattle.completions.proofs.Shares.{Fair, even_fair}

-- Fair shares

module _ (w : Network) (parts : ℕ) (inc usable : List ℕ) (c : ℕ) where
  module _ (sharers : ℕ → ℕ) (few : (s : ℕ) → ¬ (s ≡ 0) → length (above_in w inc usable c s) ≤ sharers s) where
    abbrev share : ℕ → ℕ
    share r = share_by w parts inc sharers c r

    -- of a row of a named street
    share_in_lem : (s r : ℕ) → ¬ (s ≡ 0) → r ∈ in_street w s usable → share r ≡ ((cost_at w c r - street_cost w c inc s) * parts) / sharers s
    share_in_lem s r n m =
        let e = eqb→eq (street_of w r) s (filter_out (λ q. eqb (street_of w q) s) usable m).1 in
        subst (λ (z : ℕ). share r ≡ ((cost_at w c r - street_cost w c inc z) * parts) / sharers z) e
        (pick_elim (λ (x : ℕ). x ≡ ((cost_at w c r - street_cost w c inc (street_of w r)) * parts) / sharers (street_of w r)) (eqb (street_of w r) 0)
        (λ t. absurd (n (sym e ∙ eqb→eq (street_of w r) 0 t))) (λ t. refl))

    -- one that has a share costs more than is paid
    share_above : (s r : ℕ) → ¬ (s ≡ 0) → r ∈ in_street w s usable → ¬ (share r ≡ 0) → r ∈ above_in w inc usable c s
    share_above s r n m has = elim (dec_le (cost_at w c r) (street_cost w c inc s)) [
      | yes l ↦ absurd (has (share_in_lem s r n m ∙ nothing (cost_at w c r) (street_cost w c inc s) (sharers s) l))
      | no l ↦ filter_in (λ q. ltb (street_cost w c inc s) (cost_at w c q)) m (lt→ltb (street_cost w c inc s) (cost_at w c r) (omega arith))
    ]
      where
        nothing : (a b k : ℕ) → a ≤ b → ((a - b) * parts) / k ≡ 0
        nothing a b k l =
            let none_left : a - b ≡ 0 = omega arith in
            omega (arith, div-le_self ((a - b) * parts) k, ap (λ (x : ℕ). x * parts) none_left)

    -- SHARES
    shares_fair : Fair w c parts share inc usable
    shares_fair = even_fair w c parts share inc usable sharers
        (λ s n x d i have. omega (arith, few s n, pigeonhole x {m = above_in w inc usable c s} d (λ r m. share_above s r n (i r m) (have r m))))
        (λ s r n m. rw (share_in_lem s r n m) (mul-div-le ((cost_at w c r - street_cost w c inc s) * parts) (sharers s)))
        (λ r m e. pick_elim (λ (x : ℕ). x ≤ cost_at w c r * parts) (eqb (street_of w r) 0) (λ t. omega arith) (λ n. absurd (n (eq→eqb (street_of w r) 0 e))))

  -- ABOVE
  pub above_shares : Fair w c parts (above_share w parts inc usable c) inc usable
  above_shares = shares_fair (λ s. length (above_in w inc usable c s)) (λ s n. omega arith)

-- Weights in parts

scaled : (v : ℕ → ℕ) (parts : ℕ) (ls : List ℕ) → weight (λ r. v r * parts) ls ≡ weight v ls * parts
unfolding sum
scaled v parts [] = omega arith
scaled v parts (r ∷ ls) = omega (arith, scaled v parts ls, add-mul (v r) (weight v ls) parts)

weightless : (ls : List ℕ) → weight (λ r. 0) ls ≡ 0
unfolding sum
weightless [] = refl
weightless (r ∷ ls) = omega (arith, weightless ls)

pub total_parts : (f : ℕ → ℕ) (parts : ℕ) (factors : List ℕ) (c : ℕ) → total (λ i. f i * parts) factors c ≡ total f factors c * parts
unfolding total
total_parts f parts [] c = omega arith
total_parts f parts (a ∷ factors) c = omega (arith, total_parts f parts factors (suc c), add-mul (f c * a) (total f factors (suc c)) parts, swap (f c) parts a)
  where
    swap : (x y z : ℕ) → x * y * z ≡ x * z * y
    swap x y z = mul_assoc x y z ∙ ap (λ (t : ℕ). x * t) (mul_comm y z) ∙ sym (mul_assoc x z y)

module _ (g : Graph) (wf : WellFormed g) (w : Network) (parts : ℕ) (inc us : List ℕ) (lies : (r : ℕ) → r ∈ us → Lies g r)
    (share : ℕ → ℕ → ℕ) (fair : (c : ℕ) → Fair w c parts (share c) inc us) where
  module _ (p : List ℕ) (h : Within g inc us p) where
    -- by each kind
    kind_least : (c : ℕ) (kind : Kind) → paid_by w parts inc (some kind) c + weight (rate_by w parts share (some kind) c) (others inc p) ≤ cost_by kind w c p * parts
    kind_least c added = omega (
      arith,
      scaled (cost_at w c) parts (others inc p),
      add-mul (weight (cost_at w c) inc) (weight (cost_at w c) (others inc p)) parts,
      mul-le-mul_right parts (search_parts g wf inc us p lies h (cost_at w c)),
    )
    kind_least c worst = omega (arith, weightless (others inc p), mul-le-mul_right parts (largest_within (cost_at w c) inc h.has))
    kind_least c closing = search_shares g wf inc us p lies h w c parts (share c) (fair c)

    each_least : (i : ℕ) → paid w parts inc i + weight (rate w parts share i) (others inc p) ≤ get_or (cost_of w p) i 0 * parts
    each_least i = at (get_elem? w.kinds i) refl
      where
        at : (o : Option Kind) → get_elem? w.kinds i ≡ o → paid_by w parts inc o i + weight (rate_by w parts share o i) (others inc p) ≤ get_or (cost_of w p) i 0 * parts
        at none e = omega (arith, weightless (others inc p))
        at (some kind) e = rw (cost_at_lem w i kind p e) (kind_least i kind)

  -- HEAVY
  pub heavy_none : (limits fs seq : List ℕ) → length fs ≡ length w.kinds → seq ⊆ us → us ⊆ seq → Rising (mix (rate w parts share) fs 0) seq
      → dot fs (map pred limits) * parts < total (paid w parts inc) fs 0 + weight (mix (rate w parts share) fs 0) (greedy g inc seq)
      → Answers g w limits inc us none
  heavy_none limits fs seq e within all up big p h t =
      let v = mix (rate w parts share) fs 0 in
      let there_too : Within g inc seq p = record { tree = h.tree; has = h.has; once = h.once; rest = λ r m n. all r (h.rest r m n) } in
      omega (
        arith,
        big,
        search_rest g wf inc seq p (λ r m. lies r (within r m)) there_too v up,
        mix_below (rate w parts share) (paid w parts inc) (λ i. get_or (cost_of w p) i 0 * parts) (others inc p) fs 0 (each_least p h),
        total_parts (λ i. get_or (cost_of w p) i 0) parts fs 0,
        ap (λ (x : ℕ). x * parts) (dot_total fs (cost_of w p) (e ∙ sym (cost_length w p))),
        mul-le-mul_right parts (inside_dot fs limits (cost_of w p) t),
      )

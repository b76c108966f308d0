-- Closing once per street, from below by a weight of rows. SHARES are fair if no rows of one street together have more than the days that the street costs beyond what
-- the prefix has paid for it, in parts of which `parts` make a day. Then the prefix's closing and the shares of further rows are no more than the closing of all (`shares_below`).
-- Fair are shares that divide a row's days beyond the prefix by at least the number of candidates of its street that have one (`even_fair`).
use mathlib.Core.Path.{◌∙◌, ◌≡◌, ap, refl, sym}
use mathlib.Core.Bool.{not}
use mathlib.Core.List.{List, [], ◌++◌, ◌∷◌, map, map-append}
use mathlib.Core.List.Memᴰ.{append_left}
use mathlib.Core.List.Memᴰ.{append_right}
use mathlib.Core.List.Memᴰ.{head as here}
use mathlib.Core.List.Memᴰ.{map as map_in}
use mathlib.Core.List.Memᴰ.{not-nil as mem_nil}
use mathlib.Core.List.Memᴰ.{tail as there}
use Prim.Native.Nat.{◌*◌, ◌+◌, ◌-◌, ◌≤◌, max, ℕ}
use native.Mathlib.Decide.{dec_le, ℕ_discrete}
use native.Mathlib.Nat.{add-mul, mul-le-mul_right}
use native.Mathlib.Omega.{arith}
use lib.Dec.{T_not, eqb, eqb→eq, not_T}
use lib.ListN.{length}
use Rattle.lists.specs.Lists.{filter_b, largest, sum}
use Rattle.lists.proofs.Distinct.{Distinct, filter_distinct}
use Rattle.lists.proofs.Members.{◌∈◌, ◌⊆◌, filter_append, filter_keep, filter_out, filter_skip, mem_elim}
use Rattle.lists.proofs.Sums.{largest_append, largest_in, sum_append, sum_within}
use Rattle.lists.proofs.Tests.{eq→eqb}
use Rattle.costs.specs.Costs.{closing_cost, cost_at, in_street, street_cost, streets_of}
use Rattle.costs.specs.Network.{Network, row_at}
use Rattle.bounds.proofs.Closing.{Named, parts_sum, rows_within, street_of, streets_named, streets_within}
use Rattle.forests.specs.Forests.{weight}

-- Fair shares

-- of rows that pass as candidates, behind rows ps
pub record Fair (w : Network) (c parts : ℕ) (share : ℕ → ℕ) (ps cand : List ℕ) : Type 0 where
  pub named : (s : ℕ) → ¬ (s ≡ 0) → (x : List ℕ) → Distinct x → x ⊆ in_street w s cand → weight share x ≤ (largest (map (cost_at w c) x) - street_cost w c ps s) * parts
  pub alone : (r : ℕ) → r ∈ cand → street_of w r ≡ 0 → share r ≤ cost_at w c r * parts

module _ (w : Network) (c parts : ℕ) (share : ℕ → ℕ) (ps cand : List ℕ) (fair : Fair w c parts share ps cand) (ls : List ℕ) (d : Distinct ls) (within : ls ⊆ cand) where
  in_append : (s : ℕ) → in_street w s (ps ++ ls) ≡ in_street w s ps ++ in_street w s ls
  in_append s = filter_append (λ r. eqb (row_at w r).street s) ps ls

  -- one street
  street_below : (s : ℕ) → ¬ (s ≡ 0) → street_cost w c ps s * parts + weight share (in_street w s ls) ≤ street_cost w c (ps ++ ls) s * parts
  street_below s n =
      let cur = street_cost w c ps s in
      let top = street_cost w c ls s in
      let more = fair.named s n (in_street w s ls) (filter_distinct (λ r. eqb (row_at w r).street s) ls d) (rows_within w s ls cand within) in
      let all : street_cost w c (ps ++ ls) s ≡ cur + (top - cur) =
      ap (λ (l : List ℕ). largest (map (cost_at w c) l)) (in_append s) ∙ ap largest (map-append (cost_at w c) (in_street w s ps) (in_street w s ls))
      ∙ largest_append (map (cost_at w c) (in_street w s ps)) (map (cost_at w c) (in_street w s ls)) ∙ larger cur top in
      omega (arith, more, ap (λ (x : ℕ). x * parts) all ∙ add-mul cur (top - cur) parts)
    where
      larger : (a b : ℕ) → max a b ≡ a + (b - a)
      larger a b = omega arith

  -- several
  streets_below : (S : List ℕ) → ¬ (0 ∈ S)
      → sum (map (street_cost w c ps) S) * parts + sum (map (λ s. weight share (in_street w s ls)) S) ≤ sum (map (street_cost w c (ps ++ ls)) S) * parts
  unfolding sum
  streets_below [] z = omega arith
  streets_below (s ∷ S) z = omega (
    arith,
    add-mul (street_cost w c ps s) (sum (map (street_cost w c ps) S)) parts,
    add-mul (street_cost w c (ps ++ ls) s) (sum (map (street_cost w c (ps ++ ls)) S)) parts,
    street_below s (λ e. z (here (sym e))),
    streets_below S (λ m. z (there m)),
  )

  -- rows of no street
  alone_below : (x : List ℕ) → x ⊆ in_street w 0 ls → weight share x ≤ sum (map (cost_at w c) x) * parts
  unfolding sum
  alone_below [] s = omega arith
  alone_below (r ∷ x) s =
      let (i, t) = filter_out (λ r. eqb (row_at w r).street 0) ls (s r (here refl)) in
      omega (
        arith,
        fair.alone r (within r i) (eqb→eq (row_at w r).street 0 t),
        add-mul (cost_at w c r) (sum (map (cost_at w c) x)) parts,
        alone_below x (λ q m. s q (there m)),
      )

  -- SHARES
  pub shares_below : closing_cost w c ps * parts + weight share ls ≤ closing_cost w c (ps ++ ls) * parts
  shares_below = omega (
    arith,
    mul-le-mul_right parts (sum_within (street_cost w c ps) (streets_of w ps) {m = S} named_ps.once (streets_within w ps (ps ++ ls) (λ r m. append_left ls m))),
    streets_below S all_named.no_zero,
    parts_sum w share ls S all_named.once all_named.no_zero (λ r m. all_named.each r (append_right ps m)),
    alone_below (in_street w 0 ls) (λ q m. m),
    add-mul (sum (map (street_cost w c ps) (streets_of w ps))) zero_ps parts,
    add-mul (sum (map (street_cost w c (ps ++ ls)) S)) (sum (map (cost_at w c) (in_street w 0 (ps ++ ls)))) parts,
    add-mul zero_ps (sum (map (cost_at w c) (in_street w 0 ls))) parts,
    ap (λ (x : ℕ). x * parts) zero_all,
  )
    where
      S : List ℕ
      S = streets_of w (ps ++ ls)

      named_ps : Named w ps (streets_of w ps)
      named_ps = streets_named w ps

      all_named : Named w (ps ++ ls) S
      all_named = streets_named w (ps ++ ls)

      zero_ps : ℕ
      zero_ps = sum (map (cost_at w c) (in_street w 0 ps))

      zero_all : sum (map (cost_at w c) (in_street w 0 (ps ++ ls))) ≡ zero_ps + sum (map (cost_at w c) (in_street w 0 ls))
      zero_all = ap (λ (l : List ℕ). sum (map (cost_at w c) l)) (in_append 0) ∙ ap sum (map-append (cost_at w c) (in_street w 0 ps) (in_street w 0 ls))
          ∙ sum_append (map (cost_at w c) (in_street w 0 ps)) (map (cost_at w c) (in_street w 0 ls))

-- EVEN: shares that, taken as often as `sharers` gives for the street, are no more than a row's days beyond the prefix; no more rows of the street have one
module _ (w : Network) (c parts : ℕ) (share : ℕ → ℕ) (ps cand : List ℕ) where
  -- the row with the largest share
  most : (r : ℕ) (x : List ℕ) → (q : ℕ) × (q ∈ r ∷ x) × ((z : ℕ) → z ∈ r ∷ x → share z ≤ share q)
  most r [] = (r, here refl, λ z m. mem_elim (λ (y : ℕ). share y ≤ share r) m (omega arith) (λ i. absurd (mem_nil i)))
  most r (a ∷ x) = step (most a x)
    where
      step : (q : ℕ) × (q ∈ a ∷ x) × ((z : ℕ) → z ∈ a ∷ x → share z ≤ share q) → (q : ℕ) × (q ∈ r ∷ a ∷ x) × ((z : ℕ) → z ∈ r ∷ a ∷ x → share z ≤ share q)
      step (q, m, h) = elim (dec_le (share q) (share r)) [
        | yes l ↦ (r, here refl, λ z i. mem_elim (λ (y : ℕ). share y ≤ share r) i (omega arith) (λ j. omega (arith, h z j)))
        | no n ↦ (q, there m, λ z i. mem_elim (λ (y : ℕ). share y ≤ share q) i (omega arith) (h z))
      ]

  weight_most : (y : ℕ) (x : List ℕ) → ((z : ℕ) → z ∈ x → share z ≤ y) → weight share x ≤ length x * y
  unfolding sum
  weight_most y [] h = omega arith
  weight_most y (r ∷ x) h = omega (arith, h r (here refl), weight_most y x (λ z m. h z (there m)))

  -- the rows that have a share weigh as much as all
  abbrev having : List ℕ → List ℕ
  having x = filter_b (λ r. not (eqb (share r) 0)) x

  weight_having : (x : List ℕ) → weight share (having x) ≡ weight share x
  unfolding sum filter_b
  weight_having [] = refl
  weight_having (r ∷ x) = elim (ℕ_discrete (share r) 0) [
    | yes e ↦ omega (
      arith,
      ap (weight share) (filter_skip (λ r. not (eqb (share r) 0)) r x (λ t. T_not (eqb (share r) 0) t (eq→eqb (share r) 0 e))),
      weight_having x,
    )
    | no n ↦ omega (
      arith,
      ap (weight share) (filter_keep (λ r. not (eqb (share r) 0)) r x (not_T (eqb (share r) 0) (λ t. n (eqb→eq (share r) 0 t)))),
      weight_having x,
    )
  ]

  module _ (sharers : ℕ → ℕ)
      (few : (s : ℕ) → ¬ (s ≡ 0) → (x : List ℕ) → Distinct x → x ⊆ in_street w s cand → ((r : ℕ) → r ∈ x → ¬ (share r ≡ 0)) → length x ≤ sharers s)
      (even : (s r : ℕ) → ¬ (s ≡ 0) → r ∈ in_street w s cand → sharers s * share r ≤ (cost_at w c r - street_cost w c ps s) * parts) where
    -- no more than so many rows
    some_below : (s : ℕ) → ¬ (s ≡ 0) → (x y : List ℕ) → y ⊆ x → x ⊆ in_street w s cand → length y ≤ sharers s
        → weight share y ≤ (largest (map (cost_at w c) x) - street_cost w c ps s) * parts
    unfolding sum
    some_below s n x [] i j l = omega arith
    some_below s n x (r ∷ y) i j l =
        let (q, m, h) = most r y in
        let top : cost_at w c q ≤ largest (map (cost_at w c) x) = largest_in (map_in (cost_at w c) (i q m)) in
        omega (
          arith,
          weight_most (share q) (r ∷ y) h,
          mul-le-mul_right (share q) l,
          even s q n (j q (i q m)),
          mul-le-mul_right parts (less (cost_at w c q) (largest (map (cost_at w c) x)) (street_cost w c ps s) top),
        )
      where
        less : (a b z : ℕ) → a ≤ b → a - z ≤ b - z
        less a b z h = omega arith

    pub even_fair : ((r : ℕ) → r ∈ cand → street_of w r ≡ 0 → share r ≤ cost_at w c r * parts) → Fair w c parts share ps cand
    even_fair alone = record {
      named = λ s n x d i.
          let part : having x ⊆ x = λ q m. (filter_out (λ r. not (eqb (share r) 0)) x m).0 in
          omega (
            arith,
            weight_having x,
            some_below s n x (having x) part i (few s n (having x) (filter_distinct (λ r. not (eqb (share r) 0)) x d) (λ q m. i q (part q m))
                (λ q m e. T_not (eqb (share q) 0) (filter_out (λ r. not (eqb (share r) 0)) x m).1 (eq→eqb (share q) 0 e))),
          );
      alone = alone;
    }

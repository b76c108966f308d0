-- HEAVY by tables: where the greedy choice by the rows' weights, `weights_in`, weighs more than the limits leave, `room_in`, no tree of the node is inside them (`heavy`).
-- The weights are the mixed rates of the network that the tables make (`weights_at`), by shares that are fair (`fair`).
use mathlib.Core.Path.{◌∙◌, ◌≡◌, ap, ap₂, refl, sym}
use mathlib.Core.Bool.{Bool, false, true}
use mathlib.Core.Option.{none, some}
use mathlib.Core.List.{List, [], ◌∷◌, map}
use Prim.Native.Nat.{◌*◌, ◌+◌, ◌-◌, ◌/◌, ◌<◌, ◌≤◌, pred, suc, ℕ}
use native.Mathlib.Decide.{dec_lt}
use native.Mathlib.Nat.{add-mul, mul-le-mul_right}
use native.Mathlib.Omega.{arith}
use lib.Dec.{eqb, eqb-suc-suc, eqb-suc-zero, ltb, lt→ltb}
use lib.ListN.{get_or, get_elem?, length, length-map, take}
use lib.Seq.{get_or-take, length-take-le}
use borrow.Author.Tests.{le-ltb, lt-ltb}
use Rattle.lists.specs.Lists.{both, pick, range, sum}
use Rattle.lists.proofs.Maps.{map_at, map_same}
use Rattle.lists.proofs.Members.{◌∈◌, ◌⊆◌, filter_both, filter_same}
use Rattle.lists.proofs.Ranges.{get_or_map_range, range_length}
use Rattle.lists.proofs.Tests.{pick_true}
use Rattle.graph.specs.Graph.{Graph}
use Rattle.graph.proofs.Minimal.{WellFormed}
use Rattle.costs.specs.Costs.{cost_at, street_cost}
use Rattle.costs.specs.Network.{Network, added, closing, row_at, worst}
use Rattle.forests.specs.Forests.{weight}
use Rattle.forests.proofs.Joined.{Lies}
use Rattle.completions.specs.Boxes.{dot, mix, total}
use Rattle.completions.specs.Greedy.{greedy}
use Rattle.completions.specs.Weights.{above_in, above_share, paid, rate, rate_by}
use Rattle.completions.proofs.Filters.{dot_total}
use Rattle.completions.proofs.Find.{Answers}
use Rattle.completions.proofs.Greedy.{Rising, rising_same}
use Rattle.completions.proofs.Labels.{greedy_from}
use Rattle.completions.proofs.Shares.{Fair}
use Rattle.completions.proofs.Weights.{above_shares, heavy_none, total_parts}
use Rattle.chosen.specs.Chosen.{is_on, rows_on}
use Rattle.chosen.proofs.Flags.{on_mem}
use Rattle.tally.specs.Tally.{cost_in, day_in, kind_cost, kind_of, lead_in, table_of}
use Rattle.tally.proofs.Tables.{cost_table, day_table, kind_at_lem, kind_table, street_table}
use Rattle.weighing.specs.Weighing.{factor_in, factors_in, rate_in, share_in, sharers_in, weight_in, weights_in}
use Rattle.room.specs.Room.{left_in, room_in}

-- Mixes and totals look at criteria from c on, as many as there are factors

mix_same : (v u : ℕ → ℕ → ℕ) (fs : List ℕ) (c r : ℕ) → ((i : ℕ) → i < c + length fs → v i r ≡ u i r) → mix v fs c r ≡ mix u fs c r
unfolding mix
mix_same v u [] c r same = refl
mix_same v u (a ∷ fs) c r same =
    ap₂ (λ (x y : ℕ). x * a + y) (same c (omega arith)) (mix_same v u fs (suc c) r (λ i l. same i (omega arith)))

total_below : (f g h : ℕ → ℕ) (fs : List ℕ) (c : ℕ) → ((i : ℕ) → i < c + length fs → f i ≤ g i + h i) → total f fs c ≤ total g fs c + total h fs c
unfolding total
total_below f g h [] c below = omega arith
total_below f g h (a ∷ fs) c below = omega (
  arith,
  total_below f g h fs (suc c) (λ i l. below i (omega arith)),
  mul-le-mul_right a (below c (omega arith)),
  add-mul (g c) (h c) a,
)

-- two tests in the other order
both_swap : (x y : Bool) → both x y ≡ both y x
both_swap true true = refl
both_swap true false = refl
both_swap false true = refl
both_swap false false = refl

module _ (g : Graph) (wf : WellFormed g) (kinds : List ℕ) (k : ℕ) (costs leads limits inc flags factors : List ℕ)
    (few : k ≤ 4) (four : length kinds ≡ 4) (whole : length limits ≡ 4)
    (inc_low : (r : ℕ) → r ∈ inc → r < 256) (lies : (r : ℕ) → r ∈ rows_on flags → Lies g r) where
  abbrev w : Network
  w = table_of kinds k costs leads

  abbrev us : List ℕ
  us = rows_on flags

  abbrev ws : ℕ → ℕ
  ws r = get_or (weights_in kinds k costs leads limits inc flags factors) r 0

  abbrev fs : List ℕ
  fs = factors_in k limits factors

  -- the most that each limit allows
  abbrev most : List ℕ
  most = map pred (take k limits)

  us_low : (r : ℕ) → r ∈ us → r < 256
  us_low r m = ((on_mem flags r).0 m).0

  -- Shares

  abbrev share : ℕ → ℕ → ℕ
  share c r = above_share w 840 inc us c r

  fair : (c : ℕ) → Fair w c 840 (share c) inc us
  fair c = above_shares w 840 inc us c

  -- the rows that share are those above what is paid
  above_table : (c l : ℕ) → c < 256 → length (above_in w inc us c (suc l)) ≡ sharers_in costs leads c inc us l
  above_table c l low =
      let above : ℕ → Bool = λ r. ltb (street_cost w c inc (suc l)) (cost_at w c r) in
      let there : ℕ → Bool = λ r. eqb (row_at w r).street (suc l) in
      ap length (sym (filter_both above there us) ∙ filter_same (λ r. both (above r) (there r))
      (λ r. both (eqb (lead_in leads r) l) (ltb (day_in costs leads c inc l) (cost_in costs c r))) us
      (λ r m. both_swap (above r) (there r) ∙ ap₂ both
      (ap (λ (s : ℕ). eqb s (suc l)) (street_table kinds k costs leads r (us_low r m)) ∙ eqb-suc-suc (lead_in leads r) l)
      (ap₂ ltb (day_table kinds k costs leads c low inc inc_low l) (cost_table kinds k costs leads c r (us_low r m) low))))

  abbrev share_at : ℕ → ℕ → ℕ
  share_at c r = share_in (cost_in costs c r - day_in costs leads c inc (lead_in leads r)) (sharers_in costs leads c inc us (lead_in leads r))

  share_table : (c r : ℕ) → c < 256 → r < 256 → share c r ≡ share_at c r
  share_table c r low h = rw (street_table kinds k costs leads r h, eqb-suc-zero (lead_in leads r), above_table c (lead_in leads r) low)
      (ap₂ (λ (x y : ℕ). ((x - y) * 840) / sharers_in costs leads c inc us (lead_in leads r))
      (cost_table kinds k costs leads c r h low) (day_table kinds k costs leads c low inc inc_low (lead_in leads r)))

  -- Criteria

  kinds_count : length w.kinds ≡ k
  unfolding table_of
  kinds_count = length-map (take k kinds) kind_of ∙ length-take-le k kinds (omega arith)

  factors_count : length fs ≡ k
  factors_count = length-map (range 0 (pick (ltb k 4) k 4)) (factor_in limits factors) ∙ range_length 0 (pick (ltb k 4) k 4) ∙ at_most
    where
      at_most : pick (ltb k 4) k 4 ≡ k
      at_most = elim (dec_lt k 4) [ yes l ↦ rw (lt-ltb k 4 l) | no l ↦ rw (le-ltb k 4 (omega arith)) (omega arith) ]

  kind_named : (c : ℕ) → c < k → get_elem? w.kinds c ≡ some (kind_of (get_or kinds c 0))
  unfolding table_of
  kind_named c low = kind_at_lem kinds k costs leads inc inc_low few four c low

  -- the network and the tables agree, criterion by criterion
  rate_table : (c r : ℕ) → c < k → r < 256 → rate w 840 share c r ≡ rate_in (get_or kinds c 0) costs leads c inc us r
  rate_table c r low h = rw (kind_named c low) (by (eqb (get_or kinds c 0) 0) (eqb (get_or kinds c 0) 1))
    where
      by : (x y : Bool) → rate_by w 840 share (some (pick x added (pick y worst closing))) c r ≡ pick x (cost_in costs c r * 840) (pick y 0 (share_at c r))
      by true y = ap (λ (x : ℕ). x * 840) (cost_table kinds k costs leads c r h (omega arith))
      by false true = refl
      by false false = share_table c r (omega arith) h

  paid_table : (c : ℕ) → c < k → paid w 840 inc c ≡ kind_cost (get_or kinds c 0) costs leads c inc * 840
  paid_table c low = rw (kind_named c low) (ap (λ (x : ℕ). x * 840) (kind_table kinds k costs leads c (omega arith) inc inc_low (get_or kinds c 0)))

  -- Weights, of usable rows

  weights_at : (r : ℕ) → r ∈ us → ws r ≡ mix (rate w 840 share) fs 0 r
  unfolding weights_in
  weights_at r m =
      let (h, on) = (on_mem flags r).0 m in
      get_or_map_range (λ r. pick (is_on flags r) (weight_in kinds k costs leads limits inc us factors r) 0) 256 r 0 h
      ∙ pick_true (is_on flags r) (weight_in kinds k costs leads limits inc us factors r) 0 (lt→ltb 0 (get_or flags r 0) on)
      ∙ sym (mix_same (rate w 840 share) (λ c q. rate_in (get_or kinds c 0) costs leads c inc us q) fs 0 r (λ c l. rate_table c r (omega (arith, factors_count)) h))

  -- Room

  most_at : (c : ℕ) → c < k → get_or most c 0 ≡ pred (get_or limits c 0)
  most_at c low = map_at pred (take k limits) c 0 0 (omega (arith, length-take-le k limits (omega arith))) ∙ ap pred (get_or-take k limits c 0 low)

  -- a limit allows no more than what it leaves, beside what is paid
  left_over : (c : ℕ) → c < k → get_or most c 0 * 840 ≤ left_in kinds costs leads limits inc c + paid w 840 inc c
  left_over c low = rw (most_at c low, paid_table c low) (parted (pred (get_or limits c 0)) (kind_cost (get_or kinds c 0) costs leads c inc))
    where
      parted : (a b : ℕ) → a * 840 ≤ (a - b) * 840 + b * 840
      parted a b = omega arith

  room : dot fs most * 840 ≤ room_in kinds k costs leads limits inc factors + total (paid w 840 inc) fs 0
  unfolding room_in
  room =
      let long : length most ≡ k = length-map (take k limits) pred ∙ length-take-le k limits (omega arith) in
      omega (
        arith,
        ap (λ (x : ℕ). x * 840) (dot_total fs most (factors_count ∙ sym long)),
        total_parts (λ c. get_or most c 0) 840 fs 0,
        total_below (λ c. get_or most c 0 * 840) (left_in kinds costs leads limits inc) (paid w 840 inc) fs 0 (λ c l. left_over c (omega (arith, factors_count))),
      )

  -- HEAVY
  pub heavy : (seq : List ℕ) → seq ⊆ us → us ⊆ seq → Rising ws seq → room_in kinds k costs leads limits inc factors < weight ws (greedy g inc seq)
      → Answers g w (take k limits) inc us none
  heavy seq within all up big =
      let mixed : ℕ → ℕ = mix (rate w 840 share) fs 0 in
      let same : (r : ℕ) → r ∈ seq → ws r ≡ mixed r = λ r m. weights_at r (within r m) in
      heavy_none g wf w 840 inc us lies share fair (take k limits) fs seq (factors_count ∙ sym kinds_count) within all
      (rising_same ws mixed seq same up)
      (omega (arith, room, big, ap sum (map_same ws mixed (greedy g inc seq) (λ r m. same r (greedy_from g seq inc r m)))))

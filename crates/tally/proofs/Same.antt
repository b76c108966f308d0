-- The network of the tables costs the same as a network that they are made from (`same_cost`): the tables have its kinds and costs, rows of one street have one lead,
-- and the lead of a row of no street is no other row's (`Tabled`). Closing goes by one row more beside others: a row of no street pays its days, for no other has its lead.
use mathlib.Core.Path.{◌∙◌, ◌≡◌, ap, ap₂, refl, sym}
use mathlib.Core.Logic.{◌↔◌}
use mathlib.Core.List.Memᴰ.{cast as mem_cast}
use mathlib.Core.List.Memᴰ.{head as here}
use mathlib.Core.List.Memᴰ.{tail as there}
use mathlib.Core.List.{List, [], ◌∷◌, map}
use Prim.Native.Nat.{◌+◌, ◌-◌, ◌<◌, ◌≤◌, suc, ℕ}
use native.Mathlib.Decide.{ℕ_discrete}
use native.Mathlib.Omega.{arith}
use lib.Dec.{eqb, eqb→eq}
use lib.ListN.{length, take}
use borrow.Author.Tests.{eq-eqb, ne_eqb}
use Rattle.lists.specs.Lists.{filter_b, largest, sum}
use Rattle.lists.proofs.Distinct.{Distinct}
use Rattle.lists.proofs.Maps.{map_same}
use Rattle.lists.proofs.Members.{◌∈◌, filter_none, filter_out, filter_same}
use Rattle.lists.proofs.Tests.{T-same, eq→eqb}
use Rattle.costs.specs.Costs.{by_kinds, closing_cost, cost_at, cost_by, cost_of, in_street, street_cost, streets_of}
use Rattle.costs.specs.Network.{Kind, Network, added, closing, row_at, worst}
use Rattle.bounds.specs.Bounds.{excess_at}
use Rattle.completions.proofs.Beside.{closing_beside}
use Rattle.tally.specs.Tally.{closing_in, cost_in, day_in, kind_of, lead_in, table_of}
use Rattle.tally.proofs.Tables.{Rows, closing_table, cost_table}

pub record Tabled (v : Network) (kinds : List ℕ) (k : ℕ) (costs leads : List ℕ) : Type 0 where
  pub named : map kind_of (take k kinds) ≡ v.kinds
  pub few : length v.kinds ≤ 256
  pub priced : (c r : ℕ) → c < length v.kinds → r < 256 → cost_in costs c r ≡ cost_at v c r
  pub alone : (r s : ℕ) → r < 256 → s < 256 → (row_at v r).street ≡ 0 → lead_in leads s ≡ lead_in leads r → s ≡ r
  pub together : (r s : ℕ) → r < 256 → s < 256 → ¬ ((row_at v r).street ≡ 0) → (lead_in leads s ≡ lead_in leads r) ↔ ((row_at v s).street ≡ (row_at v r).street)

-- two measures that agree on the criteria below m
kinds_below : (f h : Kind → ℕ → ℕ) (m : ℕ) → ((kind : Kind) (c : ℕ) → c < m → f kind c ≡ h kind c) → (c : ℕ) (kinds : List Kind) → c + length kinds ≤ m
    → by_kinds f c kinds ≡ by_kinds h c kinds
unfolding by_kinds
kinds_below f h m e c [] b = refl
kinds_below f h m e c (kind ∷ kinds) b = ap₂ ◌∷◌ (e kind c (omega arith)) (kinds_below f h m e (suc c) kinds (omega arith))

module _ (v : Network) (kinds : List ℕ) (k : ℕ) (costs leads : List ℕ) (made : Tabled v kinds k costs leads) where
  abbrev w : Network
  w = table_of kinds k costs leads

  module _ (c : ℕ) (low : c < length v.kinds) where
    prices_same : (rows : List ℕ) → Rows rows → map (cost_in costs c) rows ≡ map (cost_at v c) rows
    prices_same rows h = map_same (cost_in costs c) (cost_at v c) rows (λ r m. made.priced c r low (h r m))

    table_same : (rows : List ℕ) → Rows rows → map (cost_at w c) rows ≡ map (cost_at v c) rows
    table_same rows h = map_same (cost_at w c) (cost_at v c) rows (λ r m. cost_table kinds k costs leads c r (h r m) (omega (arith, made.few)) ∙ made.priced c r low (h r m))

    -- no other row has the lead of a row of no street
    alone_day : (r : ℕ) (rows : List ℕ) → r < 256 → Rows rows → ¬ (r ∈ rows) → (row_at v r).street ≡ 0 → day_in costs leads c rows (lead_in leads r) ≡ 0
    unfolding largest
    alone_day r rows b h n z =
        ap (λ (l : List ℕ). largest (map (cost_in costs c) l)) (filter_none (λ s. eqb (lead_in leads s) (lead_in leads r)) rows
        (λ s m t. n (mem_cast (sym (made.alone r s b (h s m) z (eqb→eq (lead_in leads s) (lead_in leads r) t))) m)))

    -- the rows of one street have one lead
    together_day : (r : ℕ) (rows : List ℕ) → r < 256 → Rows rows → ¬ ((row_at v r).street ≡ 0) → day_in costs leads c rows (lead_in leads r) ≡ street_cost v c rows (row_at v r).street
    together_day r rows b h n =
        ap (λ (l : List ℕ). largest (map (cost_in costs c) l)) (filter_same (λ s. eqb (lead_in leads s) (lead_in leads r)) (λ s. eqb (row_at v s).street (row_at v r).street) rows
        (λ s m. T-same (eqb (lead_in leads s) (lead_in leads r)) (eqb (row_at v s).street (row_at v r).street)
        (λ t. eq→eqb (row_at v s).street (row_at v r).street ((made.together r s b (h s m) n).0 (eqb→eq (lead_in leads s) (lead_in leads r) t)))
        (λ t. eq→eqb (lead_in leads s) (lead_in leads r) ((made.together r s b (h s m) n).1 (eqb→eq (row_at v s).street (row_at v r).street t)))))
        ∙ ap largest (prices_same (in_street v (row_at v r).street rows) (λ s m. h s (filter_out (λ s. eqb (row_at v s).street (row_at v r).street) rows m).0))

    more_same : (r : ℕ) (rows : List ℕ) → r < 256 → Rows rows → ¬ (r ∈ rows) → cost_in costs c r - day_in costs leads c rows (lead_in leads r) ≡ excess_at v c rows r
    more_same r rows b h n = elim (ℕ_discrete (row_at v r).street 0) [
      | yes z ↦ rw (eq-eqb (row_at v r).street 0 z) (omega (arith, made.priced c r low b, alone_day r rows b h n z))
      | no z ↦ rw (ne_eqb (row_at v r).street 0 z) (ap₂ (λ (x y : ℕ). x - y) (made.priced c r low b) (together_day r rows b h z))
    ]

    closing_same : (rows : List ℕ) → Distinct rows → Rows rows → closing_in costs leads c rows ≡ closing_cost v c rows
    unfolding closing_in streets_of filter_b sum
    closing_same [] d h = refl
    closing_same (r ∷ rows) d h =
        ap₂ (λ (x y : ℕ). x + y) (closing_same rows d.1 (λ s m. h s (there m))) (more_same r rows (h r (here refl)) (λ s m. h s (there m)) d.0)
        ∙ sym (closing_beside v c rows r)

    kind_same : (rows : List ℕ) → Distinct rows → Rows rows → (kind : Kind) → cost_by kind w c rows ≡ cost_by kind v c rows
    kind_same rows d h added = ap sum (table_same rows h)
    kind_same rows d h worst = ap largest (table_same rows h)
    kind_same rows d h closing = closing_table kinds k costs leads c (omega (arith, made.few)) rows h ∙ closing_same rows d h

  pub same_cost : (rows : List ℕ) → Distinct rows → Rows rows → cost_of w rows ≡ cost_of v rows
  unfolding cost_of table_of
  same_cost rows d h =
      kinds_below (λ kind c. cost_by kind w c rows) (λ kind c. cost_by kind v c rows) (length v.kinds) (λ kind c b. kind_same c b rows d h kind) 0 w.kinds
      (omega (arith, ap length made.named))
      ∙ ap (by_kinds (λ kind c. cost_by kind v c rows) 0) made.named

-- Arm by arm the tables of streets give a row its rate: what it costs, nothing, or its share of what is not paid yet.
use mathlib.Core.Path.{◌∙◌, ◌≡◌, ap, ap₂, refl, sym}
use mathlib.Core.List.{List, map}
use Prim.Native.Nat.{◌*◌, ◌-◌, ◌<◌, ℕ}
use native.Mathlib.Nat.{div-one, div-zero}
use native.Mathlib.Omega.{arith}
use lib.Dec.{eqb, ltb}
use lib.ListN.{get_or, length}
use borrow.Author.Tests.{eq-eqb, ne_eqb}
use Rattle.lists.specs.Lists.{both, filter_b, range}
use Rattle.lists.proofs.Ranges.{get_or_map_range}
use Rattle.chosen.specs.Chosen.{rows_of}
use Rattle.tally.specs.Kinds.{numbers_of}
use Rattle.tally.specs.Tally.{cost_in, day_in, days_in, lead_in}
use Rattle.tally.proofs.Tables.{days_at}
use Rattle.weighing.specs.Weighing.{rate_in, share_in}
use Rattle.weighing.proofs.Turns.{zeros_at}
use Rattle.weighing.proofs.streets_of.Goals as goal

module _ (kind : ℕ) (costs leads : List ℕ) (c : ℕ) (inc us : List ℕ) (days sharers : List ℕ) (low : (q : ℕ) → lead_in leads q < 256) where
  -- the tables give each row its rate
  abbrev Rates : Type 0
  Rates = (q : ℕ) → share_in (cost_in costs c q - get_or days (lead_in leads q) 0) (get_or sharers (lead_in leads q) 0) ≡ rate_in kind costs leads c inc us q

  -- nothing is paid, and each row is alone
  plain : kind ≡ 0 → days ≡ map (λ i. 0) (range 0 256) → sharers ≡ map (λ i. 1) (range 0 256) → Rates
  plain e none one q =
      ap₂ (λ (x y : ℕ). share_in (cost_in costs c q - x) y) (zeros_at days none (lead_in leads q) (low q)) alone
      ∙ div-one ((cost_in costs c q - 0) * 840) ∙ (rw (eq-eqb kind 0 e) (omega arith))
    where
      alone : get_or sharers (lead_in leads q) 0 ≡ 1
      alone = ap (λ (l : List ℕ). get_or l (lead_in leads q) 0) one ∙ get_or_map_range {A = ℕ} (λ i. 1) 256 (lead_in leads q) 0 (low q)

  -- none shares
  nothing : kind ≡ 1 → sharers ≡ map (λ i. 0) (range 0 256) → Rates
  nothing e none q =
      ap (λ (y : ℕ). share_in (cost_in costs c q - get_or days (lead_in leads q) 0) y) (zeros_at sharers none (lead_in leads q) (low q))
      ∙ div-zero ((cost_in costs c q - get_or days (lead_in leads q) 0) * 840) ∙ (rw e)

  -- what is not paid is shared by the rows that are counted
  shares : ¬ (kind ≡ 0) → ¬ (kind ≡ 1) → days ≡ days_in costs leads c inc
      → ((lead : ℕ) → lead < 256 → get_or sharers lead 0 ≡ length (filter_b (λ r. both (eqb (lead_in leads r) lead) (ltb (get_or days lead 0) (cost_in costs c r))) us)) → Rates
  shares n m paid counted q =
      ap₂ (λ (x y : ℕ). share_in (cost_in costs c q - x) y) day
      (counted lead (low q) ∙ ap (λ (x : ℕ). length (filter_b (λ r. both (eqb (lead_in leads r) lead) (ltb x (cost_in costs c r))) us)) day)
      ∙ (rw (ne_eqb kind 0 n, ne_eqb kind 1 m))
    where
      lead : ℕ
      lead = lead_in leads q

      day : get_or days lead 0 ≡ day_in costs leads c inc lead
      day = ap (λ (l : List ℕ). get_or l lead 0) paid ∙ days_at costs leads c inc lead (low q)

pub returns-in-Added : goal.returns-in-Added
unfolding range
returns-in-Added c =
    let w = c.args.criteria in
    plain _ w.costs.now w.leads.now c.args.c (rows_of c.args.inc) c.args.usable.now _ _ c.are_rows.ensures (sym c.in-Added.ensures) refl refl

pub returns-in-Worst : goal.returns-in-Worst
unfolding range
returns-in-Worst c =
    let w = c.args.criteria in
    nothing _ w.costs.now w.leads.now c.args.c (rows_of c.args.inc) c.args.usable.now (map (λ i. 0) (range 0 256)) _ c.are_rows.ensures (sym c.in-Worst.ensures) refl

pub returns-in-Closing : goal.returns-in-Closing
returns-in-Closing c =
    let w = c.args.criteria in
    let kind = get_or (numbers_of w.kinds) c.args.c 0 in
    shares kind w.costs.now w.leads.now c.args.c (rows_of c.args.inc) c.args.usable.now _ c.sharers_of.result
    c.are_rows.ensures (omega (arith, c.in-Closing.ensures)) (omega (arith, c.in-Closing.ensures)) c.paid_of.ensures.days c.sharers_of.ensures

-- Flags of which some are cleared (`Sifted`): none at first, one more, in turns; which rows are left; and what the turns of `keep` and `fitting` clear.
use mathlib.Core.Path.{◌∙◌, ◌≡◌, ap, refl, subst, sym}
use mathlib.Core.Logic.{◌⊎◌, inl, inr, ⊎_elim}
use mathlib.Core.List.{List, [], ◌∷◌}
use Prim.Native.Nat.{◌+◌, ◌-◌, ◌<◌, ◌≤◌, suc, zero, ℕ}
use native.Mathlib.Decide.{ℕ_discrete}
use native.Mathlib.Omega.{arith}
use lib.Dec.{leb, leb→le}
use lib.ListN.{get_or, length, length-set, set}
use lib.Seq.{get_or-set_other}
use Rattle.lists.specs.Lists.{largest, pick, sum}
use Rattle.lists.proofs.Members.{◌∈◌, ◌⊆◌}
use Rattle.lists.proofs.Tests.{pick_elim}
use Rattle.chosen.specs.Chosen.{rows_on}
use Rattle.chosen.proofs.Flags.{on_mem}
use Rattle.tally.specs.Tally.{added_in, closing_in, cost_in, days_in, kind_cost, lead_in, worst_in}
use Rattle.tally.proofs.Tables.{days_at}
use Rattle.find.specs.Nodes.{Reached, Sifted}

pub sifted_none : (Bad : ℕ → Type 0) (flags : List ℕ) → Sifted Bad flags flags
sifted_none Bad flags = record { size = refl; each = λ r. inl refl }

-- a place past the end reads as 0 too
cleared : (flags : List ℕ) (at : ℕ) → get_or (set flags at 0) at 0 ≡ 0
cleared [] at = refl
cleared (x ∷ flags) zero = refl
cleared (x ∷ flags) (suc at) = cleared flags at

pub sifted_one : (Bad : ℕ → Type 0) (flags next : List ℕ) (at : ℕ) → Bad at → Sifted Bad flags next → Sifted Bad flags (set next at 0)
sifted_one Bad flags next at bad s = record {
  size = length-set next at 0 ∙ s.size;
  each = λ r. elim (ℕ_discrete r at) [
    | yes e ↦ inr (subst (λ (x : ℕ). get_or (set next at 0) x 0 ≡ 0) (sym e) (cleared next at), subst Bad (sym e) bad)
    | no d ↦ subst (λ (x : ℕ). (x ≡ get_or flags r 0) ⊎ ((x ≡ 0) × Bad r)) (sym (get_or-set_other next at r 0 0 d)) (s.each r)
  ];
}

module _ (A B : ℕ → Type 0) (flags next : List ℕ) where
  pub sifted_by : ((r : ℕ) → A r → B r) → Sifted A flags next → Sifted B flags next
  sifted_by h s = record { size = s.size; each = λ r. ⊎_elim inl (λ (e, bad). inr (e, h r bad)) (s.each r) }

pub sifted_twice : (Bad : ℕ → Type 0) (flags next last : List ℕ) → Sifted Bad flags next → Sifted Bad next last → Sifted Bad flags last
sifted_twice Bad flags next last s t = record {
  size = subst (λ (x : ℕ). length last ≡ x) s.size t.size;
  each = λ r. ⊎_elim
      (λ e. subst (λ (x : ℕ). (x ≡ get_or flags r 0) ⊎ ((x ≡ 0) × Bad r)) (sym e) (s.each r))
      inr
      (t.each r);
}

-- what is left
module _ (Bad : ℕ → Type 0) (flags next : List ℕ) (s : Sifted Bad flags next) where
  pub sifted_part : rows_on next ⊆ rows_on flags
  sifted_part r m =
      let (low, t) = (on_mem next r).0 m in
      ⊎_elim (λ e. (on_mem flags r).1 (low, omega arith)) (λ (e, bad). absurd (omega arith)) (s.each r)

  pub sifted_keeps : (r : ℕ) → r ∈ rows_on flags → ¬ Bad r → r ∈ rows_on next
  sifted_keeps r m good =
      let (low, t) = (on_mem flags r).0 m in
      ⊎_elim (λ e. (on_mem next r).1 (low, omega arith)) (λ (e, bad). absurd (good bad)) (s.each r)

-- What a row adds beside the rows that are in, by kind

module _ (costs : List ℕ) (c limit : ℕ) (inc : List ℕ) {flags next : List ℕ} where
  pub sifted_added : (base : ℕ) → base ≡ added_in costs c inc → Sifted (λ r. limit ≤ base + cost_in costs c r) flags next
      → Sifted (λ r. limit ≤ added_in costs c (r ∷ inc)) flags next
  unfolding sum
  sifted_added base e = sifted_by (λ r. limit ≤ base + cost_in costs c r) (λ r. limit ≤ added_in costs c (r ∷ inc)) flags next (λ r h. omega arith)

  pub sifted_worst : (base : ℕ) → base ≡ pick (leb limit (worst_in costs c inc)) limit 0 → Sifted (λ r. limit ≤ base + cost_in costs c r) flags next
      → Sifted (λ r. limit ≤ worst_in costs c (r ∷ inc)) flags next
  unfolding largest
  sifted_worst base e = sifted_by (λ r. limit ≤ base + cost_in costs c r) (λ r. limit ≤ worst_in costs c (r ∷ inc)) flags next
      (λ r h. pick_elim (λ (x : ℕ). base ≡ x → limit ≤ worst_in costs c (r ∷ inc)) (leb limit (worst_in costs c inc))
      (λ t d. omega (arith, leb→le limit (worst_in costs c inc) t)) (λ n d. omega (arith, h, d)) e)

  pub sifted_closing : (leads : List ℕ) (base : ℕ) (days : List ℕ) → base ≡ closing_in costs leads c inc → days ≡ days_in costs leads c inc
      → Sifted (λ r. (lead_in leads r < 256) × (limit ≤ base + (cost_in costs c r - get_or days (lead_in leads r) 0))) flags next
      → Sifted (λ r. limit ≤ closing_in costs leads c (r ∷ inc)) flags next
  unfolding closing_in
  sifted_closing leads base days e d =
      sifted_by (λ r. (lead_in leads r < 256) × (limit ≤ base + (cost_in costs c r - get_or days (lead_in leads r) 0))) (λ r. limit ≤ closing_in costs leads c (r ∷ inc)) flags next
      (λ r (low, h). omega (arith, ap (λ (l : List ℕ). get_or l (lead_in leads r) 0) d ∙ days_at costs leads c inc (lead_in leads r) low))

-- a turn over the criteria: c is sifted too
pub sifted_kept : (kinds : List ℕ) (k : ℕ) (costs leads limits inc : List ℕ) {c : ℕ} {flags next last : List ℕ} → c < 4 → c < k
    → Sifted (λ r. Reached kinds k costs leads limits (r ∷ inc)) flags next
    → Sifted (λ r. get_or limits c 0 ≤ kind_cost (get_or kinds c 0) costs leads c (r ∷ inc)) next last
    → Sifted (λ r. Reached kinds k costs leads limits (r ∷ inc)) flags last
sifted_kept kinds k costs leads limits inc {c} {flags} {next} {last} low h s t =
    sifted_twice (λ r. Reached kinds k costs leads limits (r ∷ inc)) flags next last s
    (sifted_by (λ r. get_or limits c 0 ≤ kind_cost (get_or kinds c 0) costs leads c (r ∷ inc)) (λ r. Reached kinds k costs leads limits (r ∷ inc)) next last
    (λ r m. (c, h, low, m)) t)

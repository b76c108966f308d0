-- Flags of rows: which rows have one set (`on_mem`, `on_member`), each once (`on_distinct`), gathered row by row (`on_skip`, `on_next`, `on_end`), and what a flag that is cleared
-- leaves (`on_clear`, `on_fewer`). Assumes nothing.
use mathlib.Core.Path.{◌∙◌, ◌≡◌, ap, refl, subst, sym}
use mathlib.Core.Logic.{◌↔◌}
use mathlib.Core.List.{List, [], ◌∷◌}
use Prim.Native.Nat.{◌+◌, ◌-◌, ◌<◌, ◌≤◌, suc, ℕ}
use native.Mathlib.Numerals.{add-one}
use native.Mathlib.Omega.{arith}
use lib.Dec.{ltb→lt, lt→ltb}
use lib.ListN.{get_or, length, set}
use lib.Seq.{get_or-set_other, get_or-set_same}
use borrow.Author.Tests.{le-ltb, lt-ltb}
use Rattle.lists.specs.Lists.{filter_b, member, range}
use Rattle.lists.proofs.Distinct.{Distinct, filter_distinct, pigeonhole_one, range_distinct}
use Rattle.lists.proofs.Members.{◌∈◌, filter_in, filter_out, member_in, member_out, range_in, range_out}
use Rattle.lists.proofs.Tests.{T-same}
use Rattle.chosen.specs.Chosen.{is_on, rows_on}

-- which rows they are
pub on_mem : (flags : List ℕ) (r : ℕ) → (r ∈ rows_on flags) ↔ ((r < 256) × (0 < get_or flags r 0))
unfolding rows_on
on_mem flags r = (
  λ m. let (i, t) = filter_out (is_on flags) (range 0 256) m in ((range_out 0 256 i).1, ltb→lt 0 (get_or flags r 0) t),
  λ h. filter_in (is_on flags) (range_in 0 256 r (omega arith) h.0) (lt→ltb 0 (get_or flags r 0) h.1),
)

pub on_member : (flags : List ℕ) (r : ℕ) → r < 256 → member r (rows_on flags) ≡ is_on flags r
on_member flags r h = T-same (member r (rows_on flags)) (is_on flags r)
    (λ t. lt→ltb 0 (get_or flags r 0) ((on_mem flags r).0 (member_out r (rows_on flags) t)).1)
    (λ t. member_in ((on_mem flags r).1 (h, ltb→lt 0 (get_or flags r 0) t)))

pub on_distinct : (flags : List ℕ) → Distinct (rows_on flags)
unfolding rows_on
on_distinct flags = filter_distinct (is_on flags) (range 0 256) (range_distinct 0 256)

-- Those from a row on

abbrev pub on_from : List ℕ → ℕ → List ℕ
on_from flags i = filter_b (is_on flags) (range i (256 - i))

module _ (flags : List ℕ) (i : ℕ) where
  range_turn : i < 256 → range i (256 - i) ≡ i ∷ range (i + 1) (256 - (i + 1))
  unfolding range
  range_turn h =
      let more : 256 - i ≡ suc (256 - (i + 1)) = omega arith in
      ap (range i) more ∙ ap (λ (k : ℕ). i ∷ range k (256 - (i + 1))) (sym (add-one i))

  pub on_skip : i < 256 → get_or flags i 0 ≤ 0 → on_from flags i ≡ on_from flags (i + 1)
  unfolding filter_b
  on_skip h e = ap (filter_b (is_on flags)) (range_turn h) ∙ (rw (le-ltb 0 (get_or flags i 0) e))

  pub on_next : i < 256 → 0 < get_or flags i 0 → on_from flags i ≡ i ∷ on_from flags (i + 1)
  unfolding filter_b
  on_next h e = ap (filter_b (is_on flags)) (range_turn h) ∙ (rw (lt-ltb 0 (get_or flags i 0) e))

  pub on_end : 256 ≤ i → on_from flags i ≡ []
  unfolding filter_b range
  on_end h = let over : 256 - i ≡ 0 = omega arith in ap (λ (k : ℕ). filter_b (is_on flags) (range i k)) over

-- One flag cleared

module _ (flags : List ℕ) (at : ℕ) (whole : length flags ≡ 256) where
  pub on_clear : at < 256 → (r : ℕ) → (r ∈ rows_on (set flags at 0)) ↔ ((r ∈ rows_on flags) × ¬ (r ≡ at))
  on_clear h r = (
    λ m.
        let (k, t) = (on_mem (set flags at 0) r).0 m in
        let apart : ¬ (r ≡ at) = λ e. let gone = subst (λ (x : ℕ). 0 < get_or (set flags at 0) x 0) e t in omega (arith, get_or-set_same flags at 0 0 (omega arith)) in
        ((on_mem flags r).1 (k, rw (get_or-set_other flags at r 0 0 apart) at t), apart),
    λ m. let (k, t) = (on_mem flags r).0 m.0 in (on_mem (set flags at 0) r).1 (k, rw (get_or-set_other flags at r 0 0 m.1) t),
  )

  pub on_fewer : at ∈ rows_on flags → length (rows_on (set flags at 0)) < length (rows_on flags)
  on_fewer m =
      let clear = on_clear ((on_mem flags at).0 m).0 in
      pigeonhole_one (rows_on (set flags at 0)) (on_distinct (set flags at 0)) (λ r i. ((clear r).0 i).0) m (λ i. ((clear at).0 i).1 refl)

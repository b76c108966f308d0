-- What rows cost, as the library's sums and largest of lists say it (`sum_is`, `worst_is`), what a row more changes in the days of streets and their sum (`paid_turn`),
-- and vectors inside limits, component by component (`inside_is`).
use mathlib.Core.Path.{◌∙◌, ◌≡◌, ap, refl, sym}
use mathlib.Core.List.{List, [], ◌∷◌, map}
use Prim.Native.Nat.{◌*◌, ◌+◌, ◌-◌, ◌<◌, ◌≤◌, max, ℕ}
use native.Mathlib.Decide.{ℕ_discrete}
use native.Mathlib.Omega.{arith}
use lib.Dec.{ltb}
use lib.ListN.{get_or, length, length-map, length-set, set}
use lib.Seq.{ext_get_or, get_or-set_other, get_or-set_same}
use borrow.Author.Tests.{eq-eqb, ne_eqb}
use Rattle.std.specs.List.{fold, list_all}
use Rattle.lists.specs.Lists.{filter_b, largest, range, sum}
use Rattle.lists.proofs.Ranges.{range_length}
use Rattle.completions.specs.Boxes.{inside}
use Rattle.tally.specs.Tally.{closing_in, cost_in, day_in, days_in, lead_in}
use Rattle.tally.proofs.Tables.{days_at}

-- Sums and the largest, as the library has them

sum_from : (a : ℕ) (l : List ℕ) → fold (λ a x. a + x) a l ≡ a + sum l
unfolding sum
sum_from a [] = omega arith
sum_from a (x ∷ l) = omega (arith, sum_from (a + x) l)

pub sum_is : (l : List ℕ) → fold (λ a x. a + x) 0 l ≡ sum l
sum_is l = omega (arith, sum_from 0 l)

largest_from : (f : ℕ → ℕ) (a : ℕ) (l : List ℕ) → fold (λ a x. max a (f x)) a l ≡ max a (largest (map f l))
unfolding largest
largest_from f a [] = omega arith
largest_from f a (x ∷ l) = omega (arith, largest_from f (max a (f x)) l)

pub largest_is : (f : ℕ → ℕ) (l : List ℕ) → fold (λ a x. max a (f x)) 0 l ≡ largest (map f l)
largest_is f l = omega (arith, largest_from f 0 l)

-- The days of the streets so far, and their sum

module _ (costs leads : List ℕ) (c : ℕ) where
  -- one row more changes the days of its street alone
  day_on : (r : ℕ) (rows : List ℕ) (l : ℕ) → lead_in leads r ≡ l → day_in costs leads c (r ∷ rows) l ≡ max (cost_in costs c r) (day_in costs leads c rows l)
  unfolding filter_b largest
  day_on r rows l e = rw (eq-eqb (lead_in leads r) l e)

  day_off : (r : ℕ) (rows : List ℕ) (l : ℕ) → ¬ (lead_in leads r ≡ l) → day_in costs leads c (r ∷ rows) l ≡ day_in costs leads c rows l
  unfolding filter_b
  day_off r rows l n = rw (ne_eqb (lead_in leads r) l n)

  days_long : (rows : List ℕ) → length (days_in costs leads c rows) ≡ 256
  days_long rows = length-map (range 0 256) (day_in costs leads c rows) ∙ range_length 0 256

  -- days that have changed so
  days_turn : (r : ℕ) (rows days : List ℕ) → length days ≡ 256 → get_or days (lead_in leads r) 0 ≡ max (cost_in costs c r) (day_in costs leads c rows (lead_in leads r))
      → ((l : ℕ) → ¬ (l ≡ lead_in leads r) → get_or days l 0 ≡ get_or (days_in costs leads c rows) l 0) → days ≡ days_in costs leads c (r ∷ rows)
  days_turn r rows days long on off = ext_get_or 0 days (days_in costs leads c (r ∷ rows)) (long ∙ sym (days_long (r ∷ rows)))
      (λ l h. let low : l < 256 = omega arith in elim (ℕ_discrete l (lead_in leads r)) [
        | yes e ↦ ap (λ (k : ℕ). get_or days k 0) e ∙ on ∙ sym (days_at costs leads c (r ∷ rows) l low ∙ day_on r rows l (sym e)
            ∙ ap (λ (k : ℕ). max (cost_in costs c r) (day_in costs leads c rows k)) e)
        | no n ↦ off l n ∙ days_at costs leads c rows l low ∙ sym (days_at costs leads c (r ∷ rows) l low ∙ day_off r rows l (λ e. n (sym e)))
      ])

-- what these rows pay, a sum that has room for costs of four bytes
pub record PaidFor (costs leads : List ℕ) (c so : ℕ) (days rows : List ℕ) : Type 0 where
  pub comes : so ≡ closing_in costs leads c rows
  pub paid : days ≡ days_in costs leads c rows
  pub fits : so ≤ length rows * 4294967295

module _ {costs leads : List ℕ} {c : ℕ} where
  pub paid_start : {days : List ℕ} → days ≡ days_in costs leads c [] → PaidFor costs leads c 0 days []
  unfolding closing_in
  paid_start none = record { comes = refl; paid = none; fits = omega arith }

  module _ {so : ℕ} {days rows : List ℕ} (inv : PaidFor costs leads c so days rows) where
    long : length days ≡ 256
    long = ap length inv.paid ∙ days_long costs leads c rows

    day : (lead : ℕ) → lead < 256 → get_or days lead 0 ≡ day_in costs leads c rows lead
    day lead low = ap (λ (d : List ℕ). get_or d lead 0) inv.paid ∙ days_at costs leads c rows lead low

    -- one row more
    pub paid_turn : {r lead cost x now : ℕ} → lead ≡ lead_in leads r → cost ≡ cost_in costs c r → lead < 256 → cost ≤ 4294967295
        → x ≡ cost - get_or days lead 0 → now ≡ max (get_or days lead 0) cost → PaidFor costs leads c (so + x) (set days lead now) (r ∷ rows)
    unfolding closing_in
    paid_turn {r} {lead} {cost} {x} {now} street price low word more larger = record {
      comes = omega (arith, inv.comes, more, price, here);
      paid =
          days_turn costs leads c r rows (set days lead now) (simp length-set long)
          (ap (λ (k : ℕ). get_or (set days lead now) k 0) (sym street) ∙ get_or-set_same days lead now 0 (omega (arith, long)) ∙ omega (arith, larger, price, here))
          (λ l n. get_or-set_other days lead l now 0 (λ e. n (e ∙ street)) ∙ ap (λ (d : List ℕ). get_or d l 0) inv.paid);
      fits = omega (arith, inv.fits);
    }
      where
        here : get_or days lead 0 ≡ day_in costs leads c rows (lead_in leads r)
        here = day lead low ∙ ap (day_in costs leads c rows) street

-- Four components inside four limits

pub inside_four : (limits v : List ℕ) → length limits ≡ 4 → length v ≡ 4 → inside limits v ≡ list_all (λ c. ltb (get_or v c 0) (get_or limits c 0)) (0 ∷ 1 ∷ 2 ∷ 3 ∷ [])
unfolding inside
inside_four (l ∷ m ∷ n ∷ o ∷ []) (a ∷ b ∷ c ∷ d ∷ []) h k = refl
inside_four limits v h k = absurd (omega arith)

-- A loop from the last criterion to the first sums what all leave (`RoomTo`).
use mathlib.Core.Path.{◌∙◌, ◌≡◌, ap, sym}
use mathlib.Core.List.{map}
use Prim.Native.Nat.{◌*◌, ◌+◌, ◌-◌, ◌<◌, ◌≤◌, suc, zero, ℕ}
use native.Mathlib.Omega.{arith}
use Rattle.lists.specs.Lists.{range}
use Rattle.completions.specs.Boxes.{total}

-- The sum of f at the criteria from c on, each times what a gives; there are n

pub record RoomTo (f a : ℕ → ℕ) (n c so : ℕ) : Type 0 where
  pub few : n ≤ 4
  pub within : c ≤ n
  pub comes : so ≡ total f (map a (range c (n - c))) c
  pub fits : so + c * 288230376151711744 ≤ n * 288230376151711744

-- the criterion before place c, and those from it on
module _ (f a : ℕ → ℕ) (n : ℕ) where
  total_back : (c : ℕ) → 0 < c → c ≤ n
      → total f (map a (range (c - 1) (n - (c - 1)))) (c - 1) ≡ f (c - 1) * a (c - 1) + total f (map a (range c (n - c))) c
  unfolding range total
  total_back zero some within = absurd (omega arith)
  total_back (suc d) some within =
      let here : suc d - 1 ≡ d = omega arith in
      let next : n - d ≡ suc (n - suc d) = omega arith in
      rw here (ap (λ (k : ℕ). total f (map a (range d k)) d) next)

module _ {f a : ℕ → ℕ} {n : ℕ} where
  pub room_start : {c : ℕ} → n ≤ 4 → c ≡ n → RoomTo f a n c 0
  unfolding range total
  room_start {c} few e =
      let none : n - c ≡ 0 = omega arith in
      record { few = few; within = omega arith; comes = sym (ap (λ (k : ℕ). total f (map a (range c k)) c) none); fits = omega arith }

  module _ {c so : ℕ} (inv : RoomTo f a n c so) where
    pub room_turn : {x : ℕ} → 0 < c → x ≡ f (c - 1) * a (c - 1) → x ≤ 288230376151711744 → RoomTo f a n (c - 1) (so + x)
    room_turn {x} some left small = record {
      few = inv.few;
      within = omega (arith, inv.within);
      comes = omega (arith, inv.comes, total_back f a n c some inv.within);
      fits = omega (arith, inv.fits);
    }

    pub room_end : c ≤ 0 → so ≡ total f (map a (range 0 n)) 0
    room_end none =
        let first : c ≡ 0 = omega arith in
        let all : n - 0 ≡ n = omega arith in
        inv.comes ∙ ap (λ (d : ℕ). total f (map a (range d (n - d))) d) first ∙ ap (λ (k : ℕ). total f (map a (range 0 k)) 0) all

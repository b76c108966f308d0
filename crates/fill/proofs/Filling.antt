-- Filling a page with the trees of a list, w places each, one after the other: where some of them end (`Placed`), and what then stands in the page (`Fills`),
-- one more (`placed_next`, `filled_next`), the last one read back (`read_back_lem`), and the two ends: the page is full (`filled_full`), or the list is over (`filled_over`).
use mathlib.Core.Path.{◌∙◌, ◌≡◌, ap, refl, sym}
use mathlib.Core.Bool.{Bool, false, true}
use mathlib.Core.Option.{none-ne-some, some-injective, none, some}
use mathlib.Core.List.{List, [], ◌++◌, ◌∷◌, append_assoc, append-nil}
use Prim.Native.Nat.{◌*◌, ◌+◌, ◌-◌, ◌/◌, ◌<◌, ◌≤◌, min, suc, zero, ℕ}
use native.Mathlib.Nat.{add-mul, div-eq_of_lt-le, le-div_iff_mul-le, one-mul, suc-mul}
use native.Mathlib.Numerals.{add-one}
use native.Mathlib.Omega.{arith}
use lib.Dec.{ltb}
use lib.ListN.{drop, get_elem?, length, length-take, take}
use lib.Seq.{drop_at, drop-drop, paste, take_all, take_at}
use borrow.Author.Tests.{le-ltb, lt-ltb}
use Rattle.lists.proofs.Ascending.{at_mem, get_d_at, none_past}
use Rattle.lists.proofs.Members.{◌∈◌, take_out}
use Rattle.checks.specs.Checks.{answered}
use Rattle.pages.proofs.Pages.{length_flat}
use Rattle.pages.specs.Pages.{flat}
use Rattle.fill.specs.Walkable.{filled_by}

-- One tree after the other

flat_next : (n : ℕ) (l : List (List ℕ)) (p : List ℕ) → get_elem? l n ≡ some p → flat (take (suc n) l) ≡ flat (take n l) ++ p
unfolding flat
flat_next n [] p e = absurd (none-ne-some _ e)
flat_next zero (q ∷ l) p e = append-nil q ∙ some-injective _ _ e
flat_next (suc n) (q ∷ l) p e = ap (λ (k : List ℕ). q ++ k) (flat_next n l p e) ∙ sym (append_assoc q (flat (take n l)) p)

-- The page

-- what was written at a place, read back
pub read_back_lem : (w at : ℕ) (page p : List ℕ) → length p ≡ w → at + w ≤ length page → take (at + w - at) (drop at (paste page at p (length p))) ≡ p
read_back_lem w at page p e h =
    let before : length (take at page) ≡ at = length-take at page ∙ omega arith in
    let n : at + w - at ≡ w = omega arith in
    rw (n, take_all (length p) p (omega arith), append_assoc (take at page) p (drop (at + length p) page), drop_at (take at page) (p ++ drop (at + length p) page) at before)
    (take_at p (drop (at + length p) page) w e)

-- w places for each tree, at least one, and a page
module _ (w : ℕ) (page₀ : List ℕ) where
  -- `count` trees end at place `at` of the page, whatever stands there
  pub record Placed (page : List ℕ) (at count : ℕ) : Type 0 where
    pub here : at ≡ count * w
    pub few : count ≤ at
    pub within : at ≤ length page₀
    pub same : length page ≡ length page₀

  pub placed_start : Placed page₀ 0 0
  placed_start = record { here = omega arith; few = omega arith; within = omega arith; same = refl }

  pub placed_next : {page page' : List ℕ} {at count : ℕ} → Placed page at count → 0 < w → at + w ≤ length page → length page' ≡ length page
      → Placed page' (at + w) (count + 1)
  placed_next {count = count} p wide room kept = record {
    here = omega (arith, p.here, suc-mul count w, ap (λ (n : ℕ). n * w) (add-one count));
    few = omega (arith, p.few);
    within = omega (arith, p.same);
    same = kept ∙ p.same;
  }

  -- a list of trees
  module _ (rest : List (List ℕ)) where
    -- the first `count` of them stand before place `at`
    pub record Fills (page : List ℕ) (at count : ℕ) : Type 0 where
      pub left : count ≤ length rest
      pub holds : page ≡ flat (take count rest) ++ drop at page₀

    pub filled_start : Fills page₀ 0 0
    unfolding flat
    filled_start = record { left = omega arith; holds = refl }

    module _ (wide : 0 < w) (long : (p : List ℕ) → p ∈ rest → length p ≡ w) {page : List ℕ} {at count : ℕ} (places : Placed page at count) (f : Fills page at count) where
      before : length (flat (take count rest)) ≡ at
      before =
          let size : length (take count rest) ≡ count = length-take count rest ∙ omega (arith, f.left) in
          length_flat w (take count rest) (λ p m. long p (take_out count rest m)) ∙ ap (λ (n : ℕ). n * w) size ∙ sym places.here

      head : take at page ≡ flat (take count rest)
      head = rw f.holds (take_at (flat (take count rest)) (drop at page₀) at before)

      tail : drop (at + w) page ≡ drop (at + w) page₀
      tail =
          sym (drop-drop w at page) ∙ ap (drop w) (rw f.holds (drop_at (flat (take count rest)) (drop at page₀) at before)) ∙ drop-drop w at page₀

      pub filled_next : (p page' : List ℕ) → get_elem? rest count ≡ some p → page' ≡ paste page at p (length p) → Fills page' (at + w) (count + 1)
      filled_next p page' e new =
          let below = (get_d_at rest count [] e).0 in
          let size = long p (at_mem rest count e) in
          record { left = omega arith; holds = new ∙ (rw (take_all (length p) p (omega arith), size, head, tail, add-one, flat_next count rest p e)) }

      -- an end: as many as fit or remain
      ends : (b : Bool) → min (length page₀ / w) (length rest) ≡ count → ltb count (length rest) ≡ b
          → record { outcome = answered (record { count = count; more = b }); buffers = page } ≡ filled_by w page₀ rest
      ends b least e =
          rw (least, e)
          (ap (λ (l : List ℕ). record { outcome = answered (record { count = count; more = b }); buffers = l }) (f.holds ∙ ap (λ (n : ℕ). flat (take count rest) ++ drop n page₀) places.here))

      pub filled_full : (p : List ℕ) → get_elem? rest count ≡ some p → length page - at < w
          → record { outcome = answered (record { count = count; more = true }); buffers = page } ≡ filled_by w page₀ rest
      filled_full p e full =
          let below = (get_d_at rest count [] e).0 in
          let room : length page₀ / w ≡ count = div-eq_of_lt-le w (omega (arith, places.here, places.within)) (rw (add-mul, one-mul) (omega (arith, places.here, places.same))) in
          ends true (omega arith) (lt-ltb count (length rest) below)

      pub filled_over : get_elem? rest count ≡ none → record { outcome = answered (record { count = count; more = false }); buffers = page } ≡ filled_by w page₀ rest
      filled_over e =
          let end = none_past rest count e in
          let room : count ≤ length page₀ / w = (le-div_iff_mul-le {k = w} {x = count} {y = length page₀} wide).1 (omega (arith, places.here, places.within)) in
          ends false (omega (arith, f.left)) (le-ltb count (length rest) end)

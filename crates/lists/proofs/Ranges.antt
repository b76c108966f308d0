-- Tests and functions over a range of numbers, as a loop that counts up meets them, and lists that it writes place by place (`Written`).
use mathlib.Core.Path.{◌∙◌, ◌≡◌, ap, refl, sym}
use mathlib.Core.Bool.{Bool, false, true}
use mathlib.Core.List.{List, map}
use Prim.Native.Nat.{◌+◌, ◌-◌, ◌<◌, ◌≤◌, suc, zero, ℕ}
use native.Mathlib.Decide.{dec_lt, ℕ_discrete}
use native.Mathlib.Nat.{zero-add}
use native.Mathlib.Numerals.{add-one}
use native.Mathlib.Omega.{arith}
use lib.ListN.{get_or-eq_default, get_or, length, length-map, length-set, set}
use lib.Seq.{ext_get_or, get_or-set_other, get_or-set_same}
use Rattle.lists.specs.Lists.{all, both, range}

pub range_length : (from n : ℕ) → length (range from n) ≡ n
unfolding range
range_length from zero = refl
range_length from (suc n) = ap suc (range_length (suc from) n)

-- A test of each number from r up to below m: where the loop starts, a turn that goes on, one that ends it, and its end

module _ (p : ℕ → Bool) where
  pub all_range_start : (m : ℕ) → all p (range 0 m) ≡ all p (range 0 (m - 0))
  all_range_start m = ap (λ (n : ℕ). all p (range 0 n)) (omega arith)

  all_range_turn : (r m : ℕ) → r < m → all p (range r (m - r)) ≡ both (p r) (all p (range (r + 1) (m - (r + 1))))
  unfolding all range
  all_range_turn r m h =
      ap (λ (n : ℕ). all p (range r n)) (turn h) ∙ ap (λ (s : ℕ). both (p r) (all p (range s (m - (r + 1))))) (omega (arith, add-one r))
    where
      turn : r < m → m - r ≡ suc (m - (r + 1))
      turn h = omega arith

  pub all_range_next : (r m : ℕ) → r < m → p r ≡ true → all p (range r (m - r)) ≡ all p (range (r + 1) (m - (r + 1)))
  all_range_next r m h e = all_range_turn r m h ∙ (rw e)

  pub all_range_stop : (r m : ℕ) → r < m → p r ≡ false → all p (range r (m - r)) ≡ false
  all_range_stop r m h e = all_range_turn r m h ∙ (rw e)

  pub all_range_end : (r m : ℕ) → m ≤ r → all p (range r (m - r)) ≡ true
  unfolding all range
  all_range_end r m h = ap (λ (n : ℕ). all p (range r n)) (over h)
    where
      over : m ≤ r → m - r ≡ 0
      over h = omega arith

-- The entry at a place of a list over a range

module _ {A : Type 0} (f : ℕ → A) where
  pub get_or_map_from : (from m r : ℕ) (d : A) → r < m → get_or (map f (range from m)) r d ≡ f (from + r)
  unfolding range
  get_or_map_from from zero r d h = absurd (omega arith)
  get_or_map_from from (suc m) zero d h = ap f (omega arith)
  get_or_map_from from (suc m) (suc r) d h = get_or_map_from (suc from) m r d (omega arith) ∙ ap f (omega arith)

  pub get_or_map_range : (m r : ℕ) (d : A) → r < m → get_or (map f (range 0 m)) r d ≡ f r
  get_or_map_range m r d h = get_or_map_from 0 m r d h ∙ ap f (zero-add r)

  pub get_or_map_past : (m r : ℕ) (d : A) → m ≤ r → get_or (map f (range 0 m)) r d ≡ d
  get_or_map_past m r d h = get_or-eq_default (map f (range 0 m)) d (omega (arith, length-map (range 0 m) f, range_length 0 m))

-- A list of n places that is written place by place: the first r hold what f gives

pub record Written {A : Type 0} (f : ℕ → A) (none : A) (n : ℕ) (l : List A) (r : ℕ) : Type 0 where
  pub whole : length l ≡ n
  pub within : r ≤ n
  pub holds : (i : ℕ) → i < r → get_or l i none ≡ f i

module _ {A : Type 0} {f : ℕ → A} {none : A} {n : ℕ} where
  pub written_start : (l : List A) → length l ≡ n → Written f none n l 0
  written_start l e = record { whole = e; within = omega arith; holds = λ i h. absurd (omega arith) }

  module _ {l : List A} {r : ℕ} (so : Written f none n l r) where
    pub written_next : (a : A) → r < n → a ≡ f r → Written f none n (set l r a) (r + 1)
    written_next a h e = record {
      whole = simp length-set so.whole;
      within = omega arith;
      holds = λ i k. elim (ℕ_discrete i r) [
        | yes d ↦ rw d (get_or-set_same l r a none (omega arith) ∙ e)
        | no d ↦ get_or-set_other l r i a none d ∙ so.holds i (omega arith)
      ];
    }

    pub written_all : n ≤ r → l ≡ map f (range 0 n)
    written_all h = ext_get_or none l (map f (range 0 n)) (so.whole ∙ sym (length-map (range 0 n) f ∙ range_length 0 n))
        (λ i k. so.holds i (omega arith) ∙ sym (get_or_map_range f n i none (omega arith)))

-- The same, where the places behind the first r hold `none` yet, so that a loop may end where f gives nothing else

pub record WrittenSoFar {A : Type 0} (f : ℕ → A) (none : A) (n : ℕ) (l : List A) (r : ℕ) : Type 0 where
  pub written : Written f none n l r
  pub behind : (i : ℕ) → r ≤ i → get_or l i none ≡ none

module _ {A : Type 0} {f : ℕ → A} {none : A} {n : ℕ} where
  pub so_far_start : (l : List A) → l ≡ map (λ i. none) (range 0 n) → WrittenSoFar f none n l 0
  so_far_start l e = record {
    written = written_start l (ap length e ∙ length-map (range 0 n) (λ i. none) ∙ range_length 0 n);
    behind = λ i h. rw e (elim (dec_lt i n) [
      | yes k ↦ get_or_map_range (λ i. none) n i none k
      | no k ↦ get_or_map_past (λ i. none) n i none (omega arith)
    ]);
  }

  module _ {l : List A} {r : ℕ} (so : WrittenSoFar f none n l r) where
    pub so_far_next : (a : A) → r < n → a ≡ f r → WrittenSoFar f none n (set l r a) (r + 1)
    so_far_next a h e = record {
      written = written_next so.written a h e;
      behind = λ i k. get_or-set_other l r i a none (λ d. omega arith) ∙ so.behind i (omega arith);
    }

    pub so_far_all : ((i : ℕ) → r ≤ i → i < n → f i ≡ none) → l ≡ map f (range 0 n)
    so_far_all past = ext_get_or none l (map f (range 0 n)) (so.written.whole ∙ sym (length-map (range 0 n) f ∙ range_length 0 n))
        (λ i k. (elim (dec_lt i r) [
          | yes h ↦ so.written.holds i h
          | no h ↦ so.behind i (omega arith) ∙ sym (past i (omega arith) (omega (arith, so.written.whole)))
        ]) ∙ sym (get_or_map_range f n i none (omega (arith, so.written.whole))))

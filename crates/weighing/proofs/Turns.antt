-- What loops over rows keep: counts by street of those that pass a test (`Counted`), and a list whose places are raised one after the other (`Raised`).
-- What a loop over the criteria, from the last to the first, keeps of the weights (`Mixed`).
use mathlib.Core.Path.{◌∙◌, ◌≡◌, ap, ap₂, refl, sym}
use mathlib.Core.Logic.{⊎_elim}
use mathlib.Core.Bool.{Bool, false, true}
use mathlib.Core.List.Memᴰ.{cases_cons as mem_cases}
use mathlib.Core.List.Memᴰ.{not-nil as mem_nil}
use mathlib.Core.List.{List, [], ◌++◌, ◌∷◌, map}
use Prim.Native.Nat.{◌*◌, ◌+◌, ◌-◌, ◌<◌, ◌≤◌, suc, zero, ℕ}
use native.Mathlib.Decide.{ℕ_discrete}
use native.Mathlib.Nat.{mul-le-mul_right, mul-zero, suc-mul}
use native.Mathlib.Numerals.{add-one}
use native.Mathlib.Omega.{arith}
use lib.ListN.{get_or, length, length-append, length-map, length-set, set, take}
use lib.Seq.{ext_get_or, get_or-set_other, get_or-set_same, take-suc}
use Rattle.lists.specs.Lists.{filter_b, keep_if, member, pick, range}
use Rattle.lists.proofs.Ascending.{get_or_mem}
use Rattle.lists.proofs.Distinct.{Distinct}
use Rattle.lists.proofs.Members.{◌∈◌, filter_append, filter_length, member_in, member_out, snoc_new, snoc_old, snoc_out}
use Rattle.lists.proofs.Ranges.{get_or_map_range, range_length}
use Rattle.completions.specs.Boxes.{mix}

-- 256 places of 0
module _ (l : List ℕ) (e : l ≡ map (λ i. 0) (range 0 256)) where
  pub zeros_long : length l ≡ 256
  zeros_long = ap length e ∙ length-map {A = ℕ} {B = ℕ} (range 0 256) (λ i. 0) ∙ range_length 0 256

  pub zeros_at : (q : ℕ) → q < 256 → get_or l q 0 ≡ 0
  zeros_at q h = ap (λ (m : List ℕ). get_or m q 0) e ∙ get_or_map_range {A = ℕ} (λ i. 0) 256 q 0 h

-- The counts of 256 streets, of the rows that have been seen

kept : (b : Bool) (r : ℕ) → length (keep_if b r []) ≡ pick b 1 0
kept true r = refl
kept false r = refl

count_more : (p : ℕ → Bool) (seen : List ℕ) (r : ℕ) → length (filter_b p (seen ++ (r ∷ []))) ≡ length (filter_b p seen) + pick (p r) 1 0
unfolding filter_b
count_more p seen r =
    ap length (filter_append p seen (r ∷ [])) ∙ length-append (filter_b p seen) (keep_if (p r) r []) ∙ ap (λ (n : ℕ). length (filter_b p seen) + n) (kept (p r) r)

pub record Counted (p : ℕ → ℕ → Bool) (counts seen : List ℕ) : Type 0 where
  pub whole : length counts ≡ 256
  pub holds : (lead : ℕ) → lead < 256 → get_or counts lead 0 ≡ length (filter_b (p lead) seen)

module _ {p : ℕ → ℕ → Bool} where
  pub counted_start : (counts : List ℕ) → counts ≡ map (λ i. 0) (range 0 256) → Counted p counts []
  unfolding filter_b
  counted_start counts e = record { whole = zeros_long counts e; holds = λ lead h. zeros_at counts e lead h }

  module _ {counts seen : List ℕ} (so : Counted p counts seen) where
    pub counted_few : (lead : ℕ) → lead < 256 → get_or counts lead 0 ≤ length seen
    counted_few lead h = omega (arith, so.holds lead h, filter_length (p lead) seen)

    -- row r is counted for no street, or for one
    pub counted_skip : {r : ℕ} → ((lead : ℕ) → p lead r ≡ false) → Counted p counts (seen ++ (r ∷ []))
    counted_skip {r} none = record {
      whole = so.whole;
      holds = λ lead h. omega (arith, so.holds lead h, count_more (p lead) seen r, ap (λ (t : Bool). pick {A = ℕ} t 1 0) (none lead));
    }

    pub counted_more : {lead r : ℕ} → lead < 256 → p lead r ≡ true → ((other : ℕ) → ¬ (other ≡ lead) → p other r ≡ false)
        → Counted p (set counts lead (get_or counts lead 0 + 1)) (seen ++ (r ∷ []))
    counted_more {lead} {r} low one none = record {
      whole = simp length-set so.whole;
      holds = λ other h. elim (ℕ_discrete other lead) [
        | yes e ↦ rw e (omega (
          arith,
          get_or-set_same counts lead (get_or counts lead 0 + 1) 0 (omega (arith, so.whole)),
          so.holds lead low,
          count_more (p lead) seen r,
          ap (λ (t : Bool). pick {A = ℕ} t 1 0) one,
        ))
        | no n ↦ omega (
          arith,
          get_or-set_other counts lead other (get_or counts lead 0 + 1) 0 n,
          so.holds other h,
          count_more (p other) seen r,
          ap (λ (t : Bool). pick {A = ℕ} t 1 0) (none other n),
        )
      ];
    }

-- A list of 256 places, raised at those of the rows that have been seen, each by what f gives, at most by `most`

pub record Raised (f : ℕ → ℕ) (most : ℕ) (base l seen : List ℕ) : Type 0 where
  pub whole : length l ≡ 256
  pub raised : (q : ℕ) → q ∈ seen → (get_or l q 0 ≡ get_or base q 0 + f q) × (f q ≤ most)
  pub others : (q : ℕ) → ¬ (q ∈ seen) → get_or l q 0 ≡ get_or base q 0

module _ {f : ℕ → ℕ} {most : ℕ} {base : List ℕ} where
  pub raised_start : length base ≡ 256 → Raised f most base base []
  raised_start e = record { whole = e; raised = λ q m. absurd (mem_nil m); others = λ q n. refl }

  module _ {l seen : List ℕ} (so : Raised f most base l seen) where
    pub raised_next : {r x : ℕ} → r < 256 → ¬ (r ∈ seen) → x ≡ f r → x ≤ most → Raised f most base (set l r (get_or l r 0 + x)) (seen ++ (r ∷ []))
    raised_next {r} {x} low new e few = record {
      whole = simp length-set so.whole;
      raised = λ q m. elim (ℕ_discrete q r) [
        | yes d ↦ rw d (omega (arith, get_or-set_same l r (get_or l r 0 + x) 0 (omega (arith, so.whole)), so.others r new), omega arith)
        | no d ↦ let old = so.raised q (⊎_elim (λ i. i) (λ e. absurd (d e)) (snoc_out seen m)) in (get_or-set_other l r q (get_or l r 0 + x) 0 d ∙ old.0, old.1)
      ];
      others = λ q n. get_or-set_other l r q (get_or l r 0 + x) 0 (λ d. n (rw d (snoc_new seen r))) ∙ so.others q (λ i. n (snoc_old r i));
    }

    pub raised_end : (q : ℕ) → (get_or l q 0 ≡ get_or base q 0 + pick (member q seen) (f q) 0) × (get_or l q 0 ≤ get_or base q 0 + most)
    raised_end q = go (member q seen) refl
      where
        go : (b : Bool) → member q seen ≡ b → (get_or l q 0 ≡ get_or base q 0 + pick b (f q) 0) × (get_or l q 0 ≤ get_or base q 0 + most)
        go true e = let old = so.raised q (member_out q seen (rw e tt)) in (old.0, omega (arith, old.0, old.1))
        go false e = let old = so.others q (λ i. rw e at (member_in i)) in (omega (arith, old), omega (arith, old))

-- the elements before the next place, and that none of them stands at it where none repeats
pub next_row : (l : List ℕ) (i : ℕ) → i < length l → take (i + 1) l ≡ take i l ++ (get_or l i 0 ∷ [])
next_row l i h = rw (add-one i) (take-suc l i 0 h)

pub fresh : (l : List ℕ) (i : ℕ) → Distinct l → i < length l → ¬ (get_or l i 0 ∈ take i l)
fresh [] i d h m = absurd (omega arith)
fresh (a ∷ l) zero d h m = mem_nil m
fresh (a ∷ l) (suc i) d h m = ⊎_elim (λ e. d.0 (rw e at (get_or_mem l i 0 (omega arith)))) (λ n. fresh l i d.1 (omega arith) n) (mem_cases m)

-- Choices that are the same, and sums of two by one test

pick_same : (b : Bool) (x : ℕ) → pick b x x ≡ x
pick_same true x = refl
pick_same false x = refl

pick_sum : (b : Bool) (x y z : ℕ) → z ≡ y + x → pick b x 0 + pick b y 0 ≡ pick b z 0
pick_sum true x y z e = omega arith
pick_sum false x y z e = refl

-- Weights of 256 rows, mixed of the rates of the criteria from c up to below n; `on` tells the rows that have a weight

pub record Mixed (on : ℕ → Bool) (rate : ℕ → ℕ → ℕ) (factor : ℕ → ℕ) (most n : ℕ) (sums : List ℕ) (c : ℕ) : Type 0 where
  pub whole : length sums ≡ 256
  pub within : c ≤ n
  pub holds : (q : ℕ) → q < 256 → get_or sums q 0 ≡ pick (on q) (mix rate (map factor (range c (n - c))) c q) 0
  pub few : (q : ℕ) → q < 256 → get_or sums q 0 ≤ (n - c) * most

-- the criteria from the one before c on
mix_back : (rate : ℕ → ℕ → ℕ) (factor : ℕ → ℕ) (n c : ℕ) → 0 < c → c ≤ n → (q : ℕ)
    → mix rate (map factor (range (c - 1) (n - (c - 1)))) (c - 1) q ≡ rate (c - 1) q * factor (c - 1) + mix rate (map factor (range c (n - c))) c q
unfolding mix range
mix_back rate factor n c some within q =
    let more : n - (c - 1) ≡ suc (n - c) = omega arith in
    let next : suc (c - 1) ≡ c = omega arith in
    ap (λ (m : ℕ). mix rate (map factor (range (c - 1) m)) (c - 1) q) more
    ∙ ap (λ (s : ℕ). rate (c - 1) q * factor (c - 1) + mix rate (map factor (range s (n - c))) s q) next

module _ {on : ℕ → Bool} {rate : ℕ → ℕ → ℕ} {factor : ℕ → ℕ} {most n : ℕ} where
  pub mixed_start : {c : ℕ} (sums : List ℕ) → c ≡ n → sums ≡ map (λ i. 0) (range 0 256) → Mixed on rate factor most n sums c
  unfolding mix range
  mixed_start {c} sums e zeros = record {
    whole = zeros_long sums zeros;
    within = omega arith;
    holds = λ q h. zeros_at sums zeros q h ∙ sym (ap (λ (m : ℕ). pick (on q) (mix rate (map factor (range c m)) c q) 0) none ∙ pick_same (on q) 0);
    few = λ q h. omega (arith, zeros_at sums zeros q h);
  }
    where
      none : n - c ≡ 0
      none = omega arith

  module _ {sums : List ℕ} {c : ℕ} (so : Mixed on rate factor most n sums c) (some : 0 < c) where
    -- one criterion more is added
    pub mixed_more : {next : List ℕ} {a : ℕ} {r : ℕ → ℕ} → length next ≡ 256 → a ≡ factor (c - 1) → ((q : ℕ) → r q ≡ rate (c - 1) q)
        → ((q : ℕ) → q < 256 → (get_or next q 0 ≡ get_or sums q 0 + pick (on q) (r q * a) 0) × (get_or next q 0 ≤ get_or sums q 0 + most))
        → Mixed on rate factor most n next (c - 1)
    mixed_more {next} {a} {r} long e same added = record {
      whole = long;
      within = omega (arith, so.within);
      holds = λ q h.
          (added q h).0 ∙ ap₂ ◌+◌ (so.holds q h) (ap₂ (λ (x y : ℕ). pick (on q) (x * y) 0) (same q) e)
          ∙ pick_sum (on q) _ _ _ (mix_back rate factor n c some so.within q);
      few = λ q h.
          let more : n - (c - 1) ≡ suc (n - c) = omega (arith, so.within) in
          omega (arith, (added q h).1, so.few q h, ap (λ (m : ℕ). m * most) more, suc-mul (n - c) most);
    }

    -- its factor is 0
    pub mixed_skip : {a : ℕ} → a ≡ factor (c - 1) → a ≤ 0 → Mixed on rate factor most n sums (c - 1)
    mixed_skip e off = record {
      whole = so.whole;
      within = omega (arith, so.within);
      holds = λ q h.
          so.holds q h
          ∙ ap (λ (m : ℕ). pick (on q) m 0) (omega (arith, mix_back rate factor n c some so.within q, ap (λ (a : ℕ). rate (c - 1) q * a) none, mul-zero (rate (c - 1) q)));
      few = λ q h. omega (arith, so.few q h, mul-le-mul_right {m = n - c} {n = n - (c - 1)} most (omega (arith, so.within)));
    }
      where
        none : factor (c - 1) ≡ 0
        none = omega arith

  pub mixed_end : {sums : List ℕ} {c : ℕ} → Mixed on rate factor most n sums c → c ≤ 0
      → sums ≡ map (λ q. pick (on q) (mix rate (map factor (range 0 n)) 0 q) 0) (range 0 256)
  mixed_end {sums} {c} so none = ext_get_or 0 sums (map whole_mix (range 0 256)) (so.whole ∙ sym (length-map (range 0 256) whole_mix ∙ range_length 0 256))
      (λ q h. let low : q < 256 = omega (arith, so.whole) in so.holds q low ∙ all q ∙ sym (get_or_map_range whole_mix 256 q 0 low))
    where
      whole_mix : ℕ → ℕ
      whole_mix q = pick (on q) (mix rate (map factor (range 0 n)) 0 q) 0

      all : (q : ℕ) → pick (on q) (mix rate (map factor (range c (n - c))) c q) 0 ≡ whole_mix q
      all q =
          let first : c ≡ 0 = omega arith in
          let full : n - c ≡ n = omega arith in
          ap₂ (λ (k m : ℕ). pick (on q) (mix rate (map factor (range k m)) k q) 0) first full

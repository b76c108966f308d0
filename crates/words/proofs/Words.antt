-- The laws of words as sets: the members of what is computed (`has-..`), words with the same members are equal (`words_same`),
-- bounds, and the members as a list (`ones_members`, `word_sum`). Last, what the code's shifts compute.
use mathlib.Core.Path.{◌∙◌, ◌≡◌, ap, ap₂, fun_ext, refl, subst, sym}
use mathlib.Core.Bool.{Bool, and-false, and-true, or_assoc as either_assoc, false, not, true}
use mathlib.Core.Logic.{◌↔◌, ◌⊎◌, inl, inr, ⊎_elim}
use mathlib.Core.List.{List, [], ◌∷◌, map}
use Prim.Native.Nat.{◌%◌, ◌*◌, ◌+◌, ◌-◌, ◌/◌, ◌<◌, ◌^◌, ◌≤◌, max, min, suc, zero, ℕ}
use native.Mathlib.Decide.{dec_lt, ℕ_discrete}
use native.Mathlib.Nat.{add-zero, div-eq_of_lt, pow-suc, zero-div}
use native.Mathlib.Numerals.{add-one}
use native.Mathlib.Omega.{arith}
use lib.Bits.{and_le_r, bit_and, bit_or, bit_xor, or_add_and}
use lib.Count.{ones, ones-le, ones_step, count_trailing_zeros, under}
use lib.Dec.{T, eqb, eqb→eq, ltb, ltb→lt}
use lib.ListN.{length, length-map}
use lib.Pow.{pow_mono, pow_pos, shl_exact, shr_lt, shr-shr}
use borrow.Author.Tests.{eq-eqb, le-ltb, lt-ltb, ne_eqb}
use Rattle.std.specs.Int.{bit_at}
use Rattle.std.proofs.lemmas.Nat.Bits.{bit_at-lt, bit_at-pow_other, bit_at-pow_same, bit_at-suc, bit_at-zero, bit_at_above, bit_at_and, bit_at_cat_high, bit_at_cat_low, bit_at_lowest, bit_at_ones, bit_at_ones_above, bit_at_or, bit_at_xor, same_from_bits}
use Rattle.lists.specs.Lists.{both, either, filter_b, keep_if, pick, range, sum}
use Rattle.lists.proofs.Maps.{map_filter}
use Rattle.lists.proofs.Tests.{T-both, T-either, T_false, T_true, eq→eqb}
use Rattle.words.specs.Words.{above, bit, has, lowest, minus, up_to}

-- Bits

bit_elim : (P : ℕ → Type 0) → P 0 → P 1 → (x : ℕ) → x < 2 → P x
bit_elim P p q zero h = p
bit_elim P p q (suc zero) h = q
bit_elim P p q (suc (suc x)) h = absurd (omega arith)

bit_of : {x : ℕ} → x < 2 → x ≡ pick (eqb x 1) 1 0
bit_of {x} h = bit_elim (λ (x : ℕ). x ≡ pick (eqb x 1) 1 0) refl refl x h

-- the lowest bit; bit v + 1 is bit v of the half
low_bit : (w : ℕ) → w % 2 ≡ pick (has w 0) 1 0
unfolding has
low_bit w = sym (bit_at_lowest w) ∙ bit_of (bit_at-lt w 0)

has_even : (w : ℕ) → w % 2 ≡ 0 → has w 0 ≡ false
unfolding has
has_even w e = let d : w / 1 % 2 ≡ 0 = omega arith in rw d

has_half : (w v : ℕ) → has w (suc v) ≡ has (w / 2) v
unfolding has
has_half w v = ap (λ (x : ℕ). eqb x 1) (bit_at-suc w v)

-- Members

pub has_zero : (v : ℕ) → has 0 v ≡ false
unfolding has
has_zero v = rw zero-div

-- past its bits a word has none
pub has_beyond : (k w v : ℕ) → w < 2 ^ k → k ≤ v → has w v ≡ false
unfolding has
has_beyond k w v b h = rw (bit_at_above w k v b h) refl

-- an operation that works on each bit by itself
by_bits : (f : Bool → Bool → Bool) (g : ℕ → ℕ → ℕ)
    → ((y : ℕ) → y < 2 → (eqb (g 0 y) 1 ≡ f false (eqb y 1)) × (eqb (g 1 y) 1 ≡ f true (eqb y 1)))
    → (x y : ℕ) → x < 2 → y < 2 → eqb (g x y) 1 ≡ f (eqb x 1) (eqb y 1)
by_bits f g table x y p q = bit_elim (λ (x : ℕ). eqb (g x y) 1 ≡ f (eqb x 1) (eqb y 1)) (table y q).0 (table y q).1 x p

pub has_or : (a b v : ℕ) → has (bit_or a b) v ≡ either (has a v) (has b v)
unfolding has
has_or a b v = rw bit_at_or (by_bits (λ a b. either a b) max
    (bit_elim (λ (y : ℕ). (eqb (max 0 y) 1 ≡ eqb y 1) × (eqb (max 1 y) 1 ≡ true)) (refl, refl) (refl, refl))
    (bit_at a v) (bit_at b v) (bit_at-lt a v) (bit_at-lt b v))

pub has_and : (a b v : ℕ) → has (bit_and a b) v ≡ both (has a v) (has b v)
unfolding has
has_and a b v = rw bit_at_and (by_bits (λ a b. both a b) min
    (bit_elim (λ (y : ℕ). (eqb (min 0 y) 1 ≡ false) × (eqb (min 1 y) 1 ≡ eqb y 1)) (refl, refl) (refl, refl))
    (bit_at a v) (bit_at b v) (bit_at-lt a v) (bit_at-lt b v))

has_xor : (a b v : ℕ) → has (bit_xor a b) v ≡ pick (has a v) (not (has b v)) (has b v)
unfolding has
has_xor a b v = rw bit_at_xor (by_bits (λ a b. pick a (not b) b) (λ x y. (x + y) % 2)
    (bit_elim (λ (y : ℕ). (eqb ((0 + y) % 2) 1 ≡ eqb y 1) × (eqb ((1 + y) % 2) 1 ≡ not (eqb y 1))) (refl, refl) (refl, refl))
    (bit_at a v) (bit_at b v) (bit_at-lt a v) (bit_at-lt b v))

pub has_minus : (a b v : ℕ) → has (minus a b) v ≡ both (has a v) (not (has b v))
unfolding minus
has_minus a b v = has_xor a (bit_and a b) v ∙ ap (λ (x : Bool). pick (has a v) (not x) x) (has_and a b v) ∙ less (has a v) (has b v)
  where
    less : (a b : Bool) → pick a (not (both a b)) (both a b) ≡ both a (not b)
    less true b = refl
    less false b = refl

-- one number alone
power_bit : (u v : ℕ) → has (2 ^ u) v ≡ eqb u v
unfolding has
power_bit u v = elim (ℕ_discrete v u) [
  | yes e ↦ rw (e, bit_at-pow_same, eq-eqb u u refl)
  | no n ↦ rw (bit_at-pow_other u v n, ne_eqb u v (λ e. n (sym e)))
]

pub has_bit : (u v : ℕ) → u < 64 → has (bit u) v ≡ eqb u v
unfolding bit
has_bit u v h = simp (lt-ltb u 64 h) (power_bit u v)

pub bit_none : (v : ℕ) → 64 ≤ v → 0 ≡ bit v
unfolding bit
bit_none v h = simp (le-ltb v 64 h)

pub bit_out : (u v : ℕ) → T (has (bit u) v) → u ≡ v
bit_out u v t = elim (dec_lt u 64) [
  | yes h ↦ eqb→eq u v (rw (has_bit u v h) at t)
  | no n ↦ absurd (rw (sym (bit_none u (omega arith)), has_zero v) at t)
]

pub bit_in : (u v : ℕ) → v < 64 → u ≡ v → T (has (bit u) v)
bit_in u v h e = rw (has_bit u v (omega arith)) (eq→eqb u v e)

pub has_above : (w u v : ℕ) → has (above w u) v ≡ both (has w v) (ltb u v)
unfolding above has
has_above w u v = elim (dec_lt u v) [
  | yes h ↦ rw (lt-ltb u v h, and-true, ← add-zero (w / 2 ^ suc u * 2 ^ suc u), bit_at_cat_high (w / 2 ^ suc u) (suc u) 0 v (omega (arith, pow_pos (suc u))) (omega arith))
      (let e : suc u + (v - suc u) ≡ v = omega arith in
      ap (λ (x : ℕ). eqb (x % 2) 1) (shr-shr w (suc u) (v - suc u) ∙ ap (λ (n : ℕ). w / 2 ^ n) e))
  | no n ↦ rw (le-ltb u v (omega arith), and-false, ← add-zero (w / 2 ^ suc u * 2 ^ suc u), bit_at_cat_low (w / 2 ^ suc u) (suc u) 0 v (omega arith), bit_at-zero) refl
]

-- WORDS ARE SETS

pub words_same : (a b : ℕ) → ((v : ℕ) → has a v ≡ has b v) → a ≡ b
unfolding has
words_same a b h = same_from_bits a b (λ v. bit_of (bit_at-lt a v) ∙ ap (λ (x : Bool). pick x 1 0) (h v) ∙ sym (bit_of (bit_at-lt b v)))

pub or_assoc : (a b c : ℕ) → bit_or (bit_or a b) c ≡ bit_or a (bit_or b c)
or_assoc a b c = words_same (bit_or (bit_or a b) c) (bit_or a (bit_or b c)) (λ v. simp has_or (either_assoc (has a v) (has b v) (has c v)))

-- Bounds

pub or_le : (a b : ℕ) → a ≤ bit_or a b
or_le a b = omega (arith, or_add_and a b, and_le_r a b)

-- a word whose members are all below k
pub words_below : (k w : ℕ) → ((v : ℕ) → T (has w v) → v < k) → w < 2 ^ k
words_below zero w h =
    let e : w ≡ 0 = words_same w 0 (λ v. (T_false (has w v)).0 (λ t. omega (arith, h v t)) ∙ sym (has_zero v)) in
    omega arith
words_below (suc k) w h =
    omega (arith, pow-suc 2 k, words_below k (w / 2) (λ v t. omega (arith, h (suc v) (rw (← has_half) at t))))

-- The members as a list

shift_range : (from k : ℕ) → range (suc from) k ≡ map suc (range from k)
unfolding range
shift_range from zero = refl
shift_range from (suc k) = ap (λ (l : List ℕ). suc from ∷ l) (shift_range (suc from) k)

-- 0 if it is a member, and the members of the half, each plus 1
members_more : (w k : ℕ) → filter_b (has w) (range 0 (suc k)) ≡ keep_if (has w 0) 0 (map suc (filter_b (has (w / 2)) (range 0 k)))
unfolding filter_b range
members_more w k = ap (keep_if (has w 0) 0)
    (ap (filter_b (has w)) (shift_range 0 k) ∙ sym (map_filter suc (has w) (range 0 k))
    ∙ ap (λ (p : ℕ → Bool). map suc (filter_b p (range 0 k))) (fun_ext (has_half w)))

half_lt : (w k : ℕ) → w < 2 ^ suc k → w / 2 < 2 ^ k
half_lt w k h = omega (arith, pow-suc 2 k)

-- the count of ones is the number of members
pub ones_members : (w k : ℕ) → w < 2 ^ k → ones w ≡ length (filter_b (has w) (range 0 k))
unfolding filter_b range
ones_members w zero h = omega (arith, ones-le 0 w h)
ones_members w (suc k) h =
    ones_step w ∙ ap₂ (λ (x y : ℕ). x + y) (low_bit w) (ones_members (w / 2) k (half_lt w k h))
    ∙ sym (ap length (members_more w k) ∙ count (has w 0) (filter_b (has (w / 2)) (range 0 k)))
  where
    count : (b : Bool) (l : List ℕ) → length (keep_if b 0 (map suc l)) ≡ pick b 1 0 + length l
    count true l = omega (arith, length-map l suc)
    count false l = omega (arith, length-map l suc)

-- a word is the sum of its members' powers
pub word_sum : (w k : ℕ) → w < 2 ^ k → w ≡ sum (map (λ v. 2 ^ v) (filter_b (has w) (range 0 k)))
unfolding filter_b range sum
word_sum w zero h = omega arith
word_sum w (suc k) h =
    let e : w ≡ w % 2 + w / 2 * 2 = omega arith in
    e ∙ ap₂ (λ (x y : ℕ). x + y * 2) (low_bit w) (word_sum (w / 2) k (half_lt w k h))
    ∙ sym (ap (λ (l : List ℕ). sum (map (λ v. 2 ^ v) l)) (members_more w k) ∙ total (has w 0) (filter_b (has (w / 2)) (range 0 k)))
  where
    twice : (l : List ℕ) → sum (map (λ v. 2 ^ v) (map suc l)) ≡ sum (map (λ v. 2 ^ v) l) * 2
    twice [] = refl
    twice (v ∷ l) = omega (arith, pow-suc 2 v, twice l)

    total : (b : Bool) (l : List ℕ) → sum (map (λ v. 2 ^ v) (keep_if b 0 (map suc l))) ≡ pick b 1 0 + sum (map (λ v. 2 ^ v) l) * 2
    total true l = omega (arith, twice l)
    total false l = omega (arith, twice l)

-- Shifts, as the code has them

pub bit_shift : (v : ℕ) → v < 64 → 1 * 2 ^ v % 2 ^ 64 ≡ bit v
unfolding bit
bit_shift v h = shl_exact {a = 1} 1 v 64 (omega arith) (omega arith) ∙ (simp (lt-ltb v 64 h) (omega arith))

pub above_shift : (w v : ℕ) → w < 2 ^ 64 → v < 63 → w / 2 ^ (v + 1) * 2 ^ (v + 1) % 2 ^ 64 ≡ above w v
unfolding above
above_shift w v b h =
    let e : (63 - v) + suc v ≡ 64 = omega arith in
    rw add-one (shl_exact (63 - v) (suc v) 64 (shr_lt (63 - v) (suc v) (subst (λ (n : ℕ). w < 2 ^ n) (sym e) b)) (omega arith))

pub above_none : (w v : ℕ) → w < 2 ^ 64 → 63 ≤ v → 0 ≡ above w v
unfolding above
above_none w v b h =
    let e : 64 ≤ suc v = omega arith in
    rw (div-eq_of_lt {n = w} {m = 2 ^ suc v} (omega (arith, pow_mono e))) (omega arith)

-- The least member

-- of an odd number the lowest digit is set; of an even one the zeros go on in its half
odd_or_even : (P : ℕ → Type 0) (n t : ℕ) → (n % 2 ≡ 1 → P 0) → (n % 2 ≡ 0 → P (suc t)) → P (under (n % 2) t)
odd_or_even P n t p q = bit_elim (λ (x : ℕ). n % 2 ≡ x → P (under x t)) q p (n % 2) (omega arith) refl

has_odd : (w : ℕ) → w % 2 ≡ 1 → T (has w 0)
unfolding has
has_odd w e = let d : w / 1 % 2 ≡ 1 = omega arith in rw d tt

trailing_in : (k w : ℕ) → 0 < w → w < 2 ^ k → T (has w (count_trailing_zeros k w))
unfolding count_trailing_zeros
trailing_in zero w p h = absurd (omega arith)
trailing_in (suc k) w p h = odd_or_even (λ (x : ℕ). T (has w x)) w (count_trailing_zeros k (w / 2)) (has_odd w)
    (λ e. subst T (sym (has_half w (count_trailing_zeros k (w / 2)))) (trailing_in k (w / 2) (omega arith) (omega (arith, h, pow-suc 2 k))))

trailing_least : (k w v : ℕ) → v < count_trailing_zeros k w → has w v ≡ false
unfolding count_trailing_zeros
trailing_least zero w v h = absurd (omega arith)
trailing_least (suc k) w v h =
    odd_or_even (λ (x : ℕ). v < x → has w v ≡ false) w (count_trailing_zeros k (w / 2)) (λ e l. absurd (omega arith))
    (λ e l. below v e l (λ u l. trailing_least k (w / 2) u l)) h
  where
    below : (v : ℕ) → w % 2 ≡ 0 → v < suc (count_trailing_zeros k (w / 2)) → ((u : ℕ) → u < count_trailing_zeros k (w / 2) → has (w / 2) u ≡ false) → has w v ≡ false
    below zero e l rest = has_even w e
    below (suc v) e l rest = has_half w v ∙ rest v (omega arith)

pub lowest_in : (w : ℕ) → 0 < w → w < 2 ^ 64 → T (has w (lowest w))
unfolding lowest
lowest_in w p h = trailing_in 64 w p h

trailing_or : (k w : ℕ) → T (has w (count_trailing_zeros k w)) ⊎ (count_trailing_zeros k w ≡ k)
unfolding count_trailing_zeros
trailing_or zero w = inr refl
trailing_or (suc k) w = odd_or_even (λ (x : ℕ). T (has w x) ⊎ (x ≡ suc k)) w (count_trailing_zeros k (w / 2)) (λ e. inl (has_odd w e))
    (λ e. ⊎_elim (λ t. inl (subst T (sym (has_half w (count_trailing_zeros k (w / 2)))) t)) (λ d. inr (ap suc d)) (trailing_or k (w / 2)))

-- v is the least member of w above j; 64 where there is none
pub record NextMember (w j v : ℕ) : Type 0 where
  pub beyond : j < v
  pub between : (u : ℕ) → j < u → u < v → has w u ≡ false
  pub member : v < 64 → has w v ≡ true

pub next_member : (w j : ℕ) → j < 64 → NextMember w j (lowest (above w j))
unfolding lowest
next_member w j h = record {
  beyond = ⊎_elim (λ t. ltb→lt j v (parts t).1) (λ e. omega arith) found;
  between = λ u p q. sym (and-true (has w u)) ∙ ap (both (has w u)) (sym (lt-ltb j u p)) ∙ sym (has_above w j u) ∙ trailing_least 64 (above w j) u q;
  member = λ q. ⊎_elim (λ t. (T_true (has w v)).0 (parts t).0) (λ e. absurd (omega arith)) found;
}
  where
    v : ℕ
    v = count_trailing_zeros 64 (above w j)

    found : T (has (above w j) v) ⊎ (v ≡ 64)
    found = trailing_or 64 (above w j)

    parts : T (has (above w j) v) → T (has w v) × T (ltb j v)
    parts t = (T-both (has w v) (ltb j v)).0 (subst T (has_above w j v) t)

-- The numbers from 1 to n

-- all numbers below 64
abbrev full : ℕ
full = 2 ^ 64 - 1

full_has : (v : ℕ) → has full v ≡ ltb v 64
unfolding has
full_has v = elim (dec_lt v 64) [
  | yes h ↦ rw (bit_at_ones 64 v h, lt-ltb v 64 h) refl
  | no n ↦ rw (bit_at_ones_above 64 v (omega arith), le-ltb v 64 (omega arith)) refl
]

bit_has : (u v : ℕ) → has (bit u) v ≡ both (has full v) (eqb u v)
bit_has u v = elim (dec_lt u 64) [
  | yes h ↦ elim (ℕ_discrete u v) [
    | yes e ↦ rw (has_bit u v h, full_has, eq-eqb u v e, lt-ltb v 64 (omega arith)) refl
    | no n ↦ rw (has_bit u v h, ne_eqb u v n, and-false) refl
  ]
  | no m ↦ elim (ℕ_discrete u v) [
    | yes e ↦ rw (sym (bit_none u (omega arith)), has_zero, full_has, le-ltb v 64 (omega arith)) refl
    | no n ↦ rw (sym (bit_none u (omega arith)), has_zero, ne_eqb u v n, and-false) refl
  ]
]

-- as the code has them: all above 0 that are not above n
abbrev between : ℕ → ℕ
between n = minus (above full 0) (above full n)

between_has : (n v : ℕ) → has (between n) v ≡ both (both (has full v) (ltb 0 v)) (not (both (has full v) (ltb n v)))
between_has n v = rw (has_minus, has_above, has_above) refl

pub up_between : (n : ℕ) → between n ≡ up_to n
unfolding up_to
up_between zero = words_same _ _ (λ v. between_has 0 v ∙ none (both (has full v) (ltb 0 v)) ∙ sym (has_zero v))
  where
    none : (x : Bool) → both x (not x) ≡ false
    none true = refl
    none false = refl
up_between (suc n) = words_same _ _ (λ v. between_has (suc n) v ∙ next v (has full v)
    ∙ sym (has_or (up_to n) (bit (suc n)) v ∙ ap₂ either (ap (λ (w : ℕ). has w v) (sym (up_between n)) ∙ between_has n v) (bit_has (suc n) v)))
  where
    next : (v : ℕ) (x : Bool)
        → both (both x (ltb 0 v)) (not (both x (ltb (suc n) v))) ≡ either (both (both x (ltb 0 v)) (not (both x (ltb n v)))) (both x (eqb (suc n) v))
    next v false = refl
    next v true = grind arith

pub up_has : (n v : ℕ) → n < 64 → T (has (up_to n) v) ↔ ((1 ≤ v) × (v ≤ n))
unfolding up_to
up_has zero v h = (λ t. absurd (rw has_zero at t), λ l. absurd (omega arith))
up_has (suc n) v h = (
  λ t. ⊎_elim
      (λ (s : T (has (up_to n) v)). let l = (up_has n v (omega arith)).0 s in (l.0, omega arith))
      (λ (s : T (has (bit (suc n)) v)). let e = bit_out (suc n) v s in (omega arith, omega arith))
      (simp (has_or, T-either) at t),
  λ l. simp (has_or, T-either) (elim (ℕ_discrete v (suc n)) [
    | yes e ↦ inr (bit_in (suc n) v (omega arith) (sym e))
    | no d ↦ inl ((up_has n v (omega arith)).1 (l.0, omega arith))
  ]),
)

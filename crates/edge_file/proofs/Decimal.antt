-- Decimal numbers: what is printed is read back (`number_decimal`), and holds digits alone (`decimal_digits`); how long it is, up to three digits (`decimal_one`, `decimal_two`,
-- `decimal_three`, at most that `decimal_few`).
use mathlib.Core.Path.{◌∙◌, ◌≡◌, ap, refl}
use mathlib.Core.Logic.{⊎_elim}
use mathlib.Core.Option.{Option, some}
use mathlib.Core.List.Memᴰ.{append_cases}
use mathlib.Core.List.Memᴰ.{eq_of_singleton}
use mathlib.Core.List.{List, [], ◌++◌, ◌∷◌}
use Prim.Native.Nat.{◌%◌, ◌*◌, ◌+◌, ◌-◌, ◌/◌, ◌<◌, ◌≤◌, suc, zero, ℕ}
use native.Mathlib.Decide.{dec_lt}
use native.Mathlib.Omega.{arith}
use borrow.Author.Tests.{le-ltb, lt-ltb}
use lib.Dec.{T, eqb, eqb→eq, leb, le→leb, not_T}
use lib.ListN.{length, length-append}
use Rattle.lists.specs.Lists.{all, both}
use Rattle.lists.proofs.Members.{◌∈◌, all_in}
use Rattle.lists.proofs.Tests.{T-both, T_true}
use Rattle.io.specs.Digits.{last_digits, hex_digit_ascii}
use Rattle.printout.specs.Text.{decimal_of, places_up_to}
use Rattle.edge_file.specs.Decimal.{is_digit, leads, number_of, value_from}

-- the value, with one digit more behind
value_snoc : (high : ℕ) (ds : List ℕ) (d : ℕ) → value_from high (ds ++ (d ∷ [])) ≡ value_from high ds * 10 + (d - 48)
unfolding value_from
value_snoc high [] d = refl
value_snoc high (c ∷ ds) d = value_snoc (high * 10 + (c - 48)) ds d

-- What is printed: one digit, or that of the tens and one more

abbrev printed : ℕ → ℕ → List ℕ
printed most n = last_digits 10 (places_up_to most n) n

glyph_is : (n : ℕ) → hex_digit_ascii (n % 10) ≡ 48 + n % 10
glyph_is n = rw (lt-ltb (n % 10) 10 (omega arith))

printed_one : (most n : ℕ) → n < 10 → printed most n ≡ (48 + n) ∷ []
unfolding places_up_to
printed_one zero n h = ap (λ (d : ℕ). d ∷ []) (glyph_is n ∙ omega arith)
printed_one (suc most) n h = rw (lt-ltb n 10 h) (ap (λ (d : ℕ). d ∷ []) (glyph_is n ∙ omega arith))

printed_more : (most n : ℕ) → 10 ≤ n → printed (suc most) n ≡ printed most (n / 10) ++ ((48 + n % 10) ∷ [])
unfolding places_up_to
printed_more most n h = rw (le-ltb n 10 h) (ap (λ (d : ℕ). printed most (n / 10) ++ (d ∷ [])) (glyph_is n))

-- by the number of digits
module _ (P : ℕ → List ℕ → Type 0) (one : (n : ℕ) → n < 10 → P n ((48 + n) ∷ []))
    (more : (n : ℕ) (tens : List ℕ) → 10 ≤ n → P (n / 10) tens → P n (tens ++ ((48 + n % 10) ∷ []))) where
  by_digits : (most n : ℕ) → n ≤ most → P n (printed most n)
  by_digits zero n h = rw (printed_one zero n (omega arith)) (one n (omega arith))
  by_digits (suc most) n h = elim (dec_lt n 10) [
    | yes l ↦ rw (printed_one (suc most) n l) (one n l)
    | no l ↦ rw (printed_more most n (omega arith)) (more n (printed most (n / 10)) (omega arith) (by_digits most (n / 10) (omega arith)))
  ]

  by_decimal : (n : ℕ) → P n (decimal_of n)
  unfolding decimal_of
  by_decimal n = by_digits n n (omega arith)

decimal_value : (n : ℕ) → value_from 0 (decimal_of n) ≡ n
unfolding value_from
decimal_value = by_decimal (λ n ds. value_from 0 ds ≡ n) (λ n h. omega arith) (λ n tens h e. value_snoc 0 tens (48 + n % 10) ∙ omega (arith, e))

pub decimal_digits : (n d : ℕ) → d ∈ decimal_of n → (48 ≤ d) × (d ≤ 57)
decimal_digits n d = by_decimal (λ n ds. d ∈ ds → (48 ≤ d) × (d ≤ 57))
    (λ n h m. let e = eq_of_singleton m in (omega arith, omega arith))
    (λ n tens h below m. ⊎_elim below (λ i. let e = eq_of_singleton i in (omega arith, omega arith)) (append_cases tens m)) n

-- a number that is not 0 begins with a digit that is not '0'
decimal_first : (n : ℕ) → 0 < n → (d : ℕ) × (ds : List ℕ) × (decimal_of n ≡ d ∷ ds) × (¬ (d ≡ 48))
decimal_first = by_decimal (λ n r. 0 < n → (d : ℕ) × (ds : List ℕ) × (r ≡ d ∷ ds) × (¬ (d ≡ 48)))
    (λ n h l. (48 + n, [], refl, λ e. omega arith))
    (λ n tens h below l. let (d, ds, e, k) = below (omega arith) in (d, ds ++ ((48 + n % 10) ∷ []), ap (λ (r : List ℕ). r ++ ((48 + n % 10) ∷ [])) e, k))

leads_not : (d : ℕ) (ds : List ℕ) → ¬ (d ≡ 48) → T (leads (d ∷ ds))
unfolding leads
leads_not d [] n = tt
leads_not d (e ∷ ds) n = not_T (eqb d 48) (λ t. n (eqb→eq d 48 t))

decimal_leads : (n : ℕ) → T (leads (decimal_of n))
unfolding decimal_of places_up_to leads
decimal_leads zero = tt
decimal_leads (suc n) =
    let (d, ds, e, k) = decimal_first (suc n) (omega arith) in
    rw e (leads_not d ds k)

-- READ BACK: a printed number is read as itself
pub number_decimal : (n : ℕ) → number_of (decimal_of n) ≡ some n
unfolding number_of
number_decimal n = rw ((T_true (both (all is_digit (decimal_of n)) (leads (decimal_of n)))).0 ((T-both (all is_digit (decimal_of n)) (leads (decimal_of n))).1 (
  all_in is_digit (decimal_of n) (λ d m. let (l, h) = decimal_digits n d m in (T-both (leb 48 d) (leb d 57)).1 (le→leb 48 d l, le→leb d 57 h)),
  decimal_leads n,
)))
    (ap {B = Option ℕ} some (decimal_value n))

-- HOW LONG: one digit below 10, two below 100, three below 1000
decimal_long : (n : ℕ) → (n < 10 → length (decimal_of n) ≡ 1) × (10 ≤ n → n < 100 → length (decimal_of n) ≡ 2) × (100 ≤ n → n < 1000 → length (decimal_of n) ≡ 3)
decimal_long = by_decimal (λ n ds. (n < 10 → length ds ≡ 1) × (10 ≤ n → n < 100 → length ds ≡ 2) × (100 ≤ n → n < 1000 → length ds ≡ 3))
    (λ n h. (λ _. refl, λ l _. absurd (omega arith), λ l _. absurd (omega arith)))
    (λ n tens h below. (
      λ l. absurd (omega arith),
      λ _ l. length-append tens ((48 + n % 10) ∷ []) ∙ omega (arith, below.0 (omega arith)),
      λ l u. length-append tens ((48 + n % 10) ∷ []) ∙ omega (arith, below.1 (omega arith) (omega arith)),
    ))

module _ (n : ℕ) where
  pub decimal_one : n < 10 → length (decimal_of n) ≡ 1
  decimal_one = (decimal_long n).0

  pub decimal_two : 10 ≤ n → n < 100 → length (decimal_of n) ≡ 2
  decimal_two = (decimal_long n).1

  pub decimal_three : 100 ≤ n → n < 1000 → length (decimal_of n) ≡ 3
  decimal_three = (decimal_long n).2

  -- and so at most three
  pub decimal_few : n < 1000 → length (decimal_of n) ≤ 3
  decimal_few h = elim (dec_lt n 10) [
    | yes a ↦ omega (arith, decimal_one a)
    | no a ↦ elim (dec_lt n 100) [
      | yes b ↦ omega (arith, decimal_two (omega arith) b)
      | no b ↦ omega (arith, decimal_three (omega arith) h)
    ]
  ]

-- Numbers in a buffer: the fewest places that hold a number are those of its decimal text, and each number of a list stands behind a space.
use mathlib.Core.Path.{◌∙◌, ◌≡◌, ap, refl, sym}
use mathlib.Core.List.{List, [], ◌++◌, ◌∷◌, append_assoc, append-nil, map}
use Prim.Native.Nat.{◌+◌, ◌-◌, ◌/◌, ◌<◌, ◌^◌, ◌≤◌, suc, zero, ℕ}
use native.Mathlib.Nat.{one-le-pow, pow-suc}
use native.Mathlib.Numerals.{add-one}
use native.Mathlib.Omega.{arith}
use lib.ListN.{get_or, length, take}
use Rattle.std.proofs.lemmas.List.{get_or-map}
use lib.Seq.{take_all, take-suc}
use borrow.Author.Tests.{le-ltb, lt-ltb}
use Rattle.io.specs.Digits.{IsDigitCount, last_digits}
use Rattle.printout.specs.Text.{decimal_of, filled, numbers_of, places_up_to, put}
use Rattle.printout.proofs.Laws.{behind, put_none}

-- a number of two places and more
tens : (n k : ℕ) → IsDigitCount 10 1 n (suc (suc k)) → 10 ^ suc k ≤ n
tens n k (some, under, least) =
    let one_less : suc (suc k) - 1 ≡ suc k = omega arith in
    rw one_less at (least (omega arith))

fewest_places : (most n k : ℕ) → n ≤ most → IsDigitCount 10 1 n k → k ≡ places_up_to most n
unfolding places_up_to
fewest_places most n zero few (some, under, least) = absurd (omega arith)
fewest_places zero n (suc zero) few fewest = refl
fewest_places (suc most) n (suc zero) few (some, under, least) = simp (lt-ltb n 10 under)
fewest_places zero n (suc (suc k)) few fewest = absurd (omega (arith, tens n k fewest, one-le-pow (suc k) 10 (omega arith)))
fewest_places (suc most) n (suc (suc k)) few fewest =
    let low = tens n k fewest in
    let ten : 10 ≤ n = omega (arith, pow-suc 10 k, one-le-pow k 10 (omega arith)) in
    let under : n / 10 < 10 ^ suc k = omega (arith, fewest.1, pow-suc 10 (suc k)) in
    let one_less : suc k - 1 ≡ k = omega arith in
    let least : 1 < suc k → 10 ^ (suc k - 1) ≤ n / 10 = λ _. rw one_less (omega (arith, pow-suc 10 k)) in
    simp (le-ltb n 10 ten) (ap suc (fewest_places most (n / 10) (suc k) (omega arith) (omega arith, under, least)))

-- the digits that were written are the number's text
pub spelled : {n k : ℕ} {out : List ℕ} → IsDigitCount 10 1 n k → out ≡ last_digits 10 k n → out ≡ decimal_of n
unfolding decimal_of
spelled {n} {k} fewest e = e ∙ ap (λ (places : ℕ). last_digits 10 places n) (fewest_places n n k (omega arith) fewest)

-- a space, and then the number's text
pub number_behind : (out : List ℕ) (at n : ℕ) {between after text : List ℕ} {place end : ℕ} → text ≡ decimal_of n → filled between place ≡ put out at (32 ∷ [])
    → filled after end ≡ put between place text → filled after end ≡ put out at (32 ∷ decimal_of n)
number_behind out at n {between} {after} {text} {place} {end} e space last_digits = behind out at (32 ∷ []) text space last_digits ∙ ap (λ (l : List ℕ). put out at (32 ∷ l)) e

numbers_more : (l : List ℕ) (n : ℕ) → numbers_of (l ++ (n ∷ [])) ≡ numbers_of l ++ (32 ∷ decimal_of n)
unfolding numbers_of
numbers_more [] n = append-nil (32 ∷ decimal_of n)
numbers_more (m ∷ l) n = ap (λ (s : List ℕ). (32 ∷ decimal_of m) ++ s) (numbers_more l n) ∙ sym (append_assoc (32 ∷ decimal_of m) (numbers_of l) (32 ∷ decimal_of n))

-- the first i numbers stand in the buffer
pub record Numbered (numbers out : List ℕ) (at : ℕ) (new : List ℕ) (place i : ℕ) : Type 0 where
  pub few : i ≤ length numbers
  pub long : length new ≡ length out
  pub holds : filled new place ≡ put out at (numbers_of (take i numbers))

module _ {numbers out : List ℕ} {at : ℕ} where
  pub none_numbered : Numbered numbers out at out at 0
  unfolding numbers_of
  none_numbered = record { few = omega arith; long = refl; holds = put_none out at }

  pub one_numbered : {new next : List ℕ} {place end i : ℕ} → Numbered numbers out at new place i → i < length numbers → length next ≡ length new
      → filled next end ≡ put new place (32 ∷ decimal_of (get_or numbers i 0)) → Numbered numbers out at next end (i + 1)
  one_numbered {new} {next} {place} {end} {i} p some kept number = record {
    few = omega arith;
    long = kept ∙ p.long;
    holds = rw (add-one i, take-suc numbers i 0 some, numbers_more (take i numbers) (get_or numbers i 0)) (behind out at (numbers_of (take i numbers)) _ p.holds number);
  }

  pub all_numbered : {new : List ℕ} {place i : ℕ} → Numbered numbers out at new place i → length numbers ≤ i → filled new place ≡ put out at (numbers_of numbers)
  all_numbered {new} {place} {i} p all = p.holds ∙ ap (λ (l : List ℕ). put out at (numbers_of l)) (take_all i numbers all)

-- the next number of a list of any type
pub next_number : {X : Type 0} (number : X → ℕ) (list : List X) {i : ℕ} {x : X} → i < length list → x ≡ get_or list i x → {n : ℕ} → n ≡ number x → n ≡ get_or (map number list) i 0
next_number number list {i} {x} more read is = is ∙ ap number read ∙ sym (get_or-map number list i x 0 more)

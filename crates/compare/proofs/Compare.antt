-- The tests of two vectors as the library's (`none_larger_each`, `less_is`); the case one component further (`case_more`, `case_end`); and no row meets
-- a vector from the row on that the table ends before (`pieces_short`).
use mathlib.Core.Path.{◌≡◌, refl, sym}
use mathlib.Core.Bool.{Bool, false, true}
use mathlib.Core.List.{List, [], ◌∷◌}
use Prim.Native.Nat.{◌+◌, ◌-◌, ◌<◌, ◌≤◌, suc, zero, ℕ}
use native.Mathlib.Numerals.{add-one}
use native.Mathlib.Omega.{arith}
use lib.Dec.{leb}
use borrow.Author.Tests.{eq-eqb, le-ltb, lt-ltb, ne_eqb}
use lib.ListN.{drop, drop_of_length-le, get_or, length, length-drop, length-take, take}
use lib.Seq.{drop-cons}
use Rattle.std.specs.Cmp.Lexicographic.{slice_partial_cmp}
use Rattle.std.specs.List.{list_all, zip}
use Rattle.std.specs.Prelude.{Some}
use Rattle.std.specs.Ordering.{is_lt, is_some_and, nat_cmp}
use Rattle.std.proofs.lemmas.Cmp.{same_from_slice_cmp_tested}
use Rattle.std.proofs.lemmas.Bool.Decides.{nat_tests}
use Rattle.lists.specs.Lists.{any}
use Rattle.lists.proofs.Tests.{T_false}
use Rattle.costs.specs.Cases.{Case, case_after, is_better, next_case}
use Rattle.costs.specs.Costs.{dominates, none_larger, vector_less}
use Rattle.costs.proofs.Cases.{dominates_last}
use Rattle.costs.proofs.Vectors.{none_larger_exactly}
use Rattle.pages.specs.Pages.{pieces}

-- vectors of different lengths fail the test
pub none_unequal : (v w : List ℕ) → ¬ (length v ≡ length w) → none_larger v w ≡ false
none_unequal v w n = (T_false (none_larger v w)).0 (λ t. n ((none_larger_exactly v w).0 t).0)

pub none_larger_each : (v w : List ℕ) → length v ≡ length w → none_larger v w ≡ list_all (λ p. leb p.0 p.1) (zip v w)
unfolding none_larger
none_larger_each [] [] e = refl
none_larger_each [] (y ∷ w) e = absurd (omega arith)
none_larger_each (x ∷ v) [] e = absurd (omega arith)
none_larger_each (x ∷ v) (y ∷ w) e = rw (none_larger_each v w (omega arith))

pub less_is : (v w : List ℕ) (r : Bool) → r ≡ is_some_and is_lt (slice_partial_cmp (λ x y. Some (nat_cmp x y)) v w) → r ≡ vector_less v w
unfolding vector_less
less_is v w r e =
    same_from_slice_cmp_tested nat_cmp is_lt vector_less refl (λ y ys. refl) (λ x xs. refl) (λ x y xs ys o f. grind (arith, nat_tests)) v w r e

-- what is left of two vectors compared, of which least's loop reads one component after the other
less_nil : (v : List ℕ) → vector_less v [] ≡ false
unfolding vector_less
less_nil [] = refl
less_nil (x ∷ v) = refl

module _ (v w : List ℕ) (i : ℕ) where
  pub less_end : length w ≤ i → vector_less (drop i v) (drop i w) ≡ false
  less_end h = rw (drop_of_length-le w h) (less_nil (drop i v))

  module _ (h : i < length v) (h' : i < length w) where
    pub less_yes : get_or v i 0 < get_or w i 0 → vector_less (drop i v) (drop i w) ≡ true
    unfolding vector_less
    less_yes l = rw (drop-cons v i 0 h, drop-cons w i 0 h', lt-ltb _ _ l)

    pub less_no : get_or w i 0 < get_or v i 0 → vector_less (drop i v) (drop i w) ≡ false
    unfolding vector_less
    less_no l = rw (drop-cons v i 0 h, drop-cons w i 0 h', le-ltb (get_or v i 0) (get_or w i 0) (omega arith), ne_eqb (get_or v i 0) (get_or w i 0) (λ e. omega arith))

    pub less_more : get_or w i 0 ≤ get_or v i 0 → get_or v i 0 ≤ get_or w i 0 → vector_less (drop i v) (drop i w) ≡ vector_less (drop (i + 1) v) (drop (i + 1) w)
    unfolding vector_less
    less_more l l' = rw (drop-cons v i 0 h, drop-cons w i 0 h', le-ltb (get_or v i 0) (get_or w i 0) l, eq-eqb (get_or v i 0) (get_or w i 0) (omega arith), add-one)

-- the case with one component more, and what the last one tells
module _ (v w : List ℕ) (i : ℕ) where
  pub case_more : {c d : Case} → c ≡ case_after i v w → d ≡ next_case c (get_or v i 0) (get_or w i 0) → d ≡ case_after (i + 1) v w
  unfolding case_after
  case_more e f = rw (f, e, add-one)

  pub case_end : length v ≡ length w → i ≤ length v → length v ≤ i → {c : Case} → c ≡ case_after i v w → is_better c ≡ dominates v w
  case_end e h l f =
      let last : i ≡ length v = omega arith in
      rw (f, last) (sym (dominates_last v w e))

-- what a search over the rows to come reads next
module _ (v t : List ℕ) (n i : ℕ) (more : i < n) where
  pieces_next : pieces (length v) (n - i) t ≡ take (length v) t ∷ pieces (length v) (n - (i + 1)) (drop (length v) t)
  unfolding pieces
  pieces_next = let e : n - i ≡ suc (n - (i + 1)) = omega arith in rw e

  pub met_yes : none_larger (take (length v) t) v ≡ true → any (λ u. none_larger u v) (pieces (length v) (n - i) t) ≡ true
  unfolding any
  met_yes e = rw (pieces_next, e)

  pub met_more : none_larger (take (length v) t) v ≡ false
      → any (λ u. none_larger u v) (pieces (length v) (n - i) t) ≡ any (λ u. none_larger u v) (pieces (length v) (n - (i + 1)) (drop (length v) t))
  unfolding any
  met_more e = rw (pieces_next, e)

-- where no row is left, and what is left of a table that is shorter than a row
pub met_end : (v t : List ℕ) (n i : ℕ) → n ≤ i → any (λ u. none_larger u v) (pieces (length v) (n - i) t) ≡ false
unfolding any pieces
met_end v t n i h = let e : n - i ≡ 0 = omega arith in rw e

pub pieces_short : (v t : List ℕ) (n : ℕ) → length t < length v → any (λ u. none_larger u v) (pieces (length v) n t) ≡ false
unfolding any pieces
pieces_short v t zero h = refl
pieces_short v t (suc n) h =
    rw (none_unequal (take (length v) t) v (λ e. omega (arith, length-take (length v) t)))
    (pieces_short v (drop (length v) t) n (simp length-drop (omega arith)))

-- The answers of entering: unfit, met, full, and the row inserted among those that stay.
use mathlib.Core.Path.{◌∙◌, ◌≡◌, ap, refl, sym}
use mathlib.Core.Bool.{Bool, false, not, true}
use mathlib.Core.List.{List, [], ◌++◌, ◌∷◌, map}
use Prim.Native.Nat.{◌*◌, ◌+◌, ◌<◌, ◌≤◌, suc, ℕ}
use native.Mathlib.Nat.{mul-le-mul_right, suc-mul}
use native.Mathlib.Omega.{arith}
use borrow.Author.Tests.{eq-eqb, le-ltb, lt-ltb, ne_eqb}
use lib.ListN.{drop, length, take}
use Rattle.lists.specs.Lists.{any, filter_b, insert, keep_if, pick}
use Rattle.lists.proofs.Members.{filter_length}
use Rattle.lists.proofs.Orders.{insert_length}
use Rattle.lists.proofs.Tests.{pick_elim}
use Rattle.lists.proofs.Maps.{map_any}
use Rattle.costs.specs.Costs.{dominates, none_larger, vector_less}
use Rattle.pages.specs.Pages.{capacity}
use Rattle.pages.proofs.Pages.{rows_end}
use Rattle.compare.specs.Compare.{met_in}
use Rattle.copies.specs.Copies.{inserted}
use Rattle.copies.proofs.Moves.{inserted_all}
use Rattle.table.specs.Enter.{Row, enter_call, entered, filled, full, met, unfit}
use Rattle.table.specs.Parts.{Closed, before, place_in, staying}
use Rattle.table.proofs.Closing.{Bounds}
use Rattle.table.proofs.Filled.{Wide, filled_length, over, over_insert, over_long, over_read, over_whole, path_of, paths_are, vector_of, vectors_are, wide_staying}

-- The place of insertion

module _ {A : Type 0} (p : A → Bool) where
  before_le : (l : List A) → before p l ≤ length l
  unfolding before
  before_le [] = omega arith
  before_le (a ∷ l) = pick_elim (λ (n : ℕ). n ≤ suc (length l)) (p a) (λ t. omega (arith, before_le l)) (λ n. omega arith)

  before_map : {B : Type 0} (f : B → A) (l : List B) → before p (map f l) ≡ before (λ b. p (f b)) l
  unfolding before
  before_map f [] = refl
  before_map f (b ∷ l) = rw (before_map f l)

insert_at : {A : Type 0} (less : A → A → Bool) (a : A) (l : List A)
    → insert less a l ≡ take (before (λ b. less b a) l) l ++ (a ∷ drop (before (λ b. less b a) l) l)
unfolding insert before
insert_at less a [] = refl
insert_at {A} less a (b ∷ l) = step (less b a) (insert_at less a l)
  where
    n : ℕ
    n = before (λ b. less b a) l

    step : (t : Bool) → insert less a l ≡ take n l ++ (a ∷ drop n l)
        → pick t (b ∷ insert less a l) (a ∷ b ∷ l) ≡ take (pick t (suc n) 0) (b ∷ l) ++ (a ∷ drop (pick t (suc n) 0) (b ∷ l))
    step true e = ap (λ (m : List A). b ∷ m) e
    step false e = refl

filter_all : {A : Type 0} (p : A → Bool) (l : List A) → length l ≤ length (filter_b p l) → filter_b p l ≡ l
unfolding filter_b
filter_all p [] h = refl
filter_all {A} p (a ∷ l) h = step (p a) (filter_all p l) h
  where
    step : (b : Bool) → (length l ≤ length (filter_b p l) → filter_b p l ≡ l) → suc (length l) ≤ length (keep_if b a (filter_b p l)) → keep_if b a (filter_b p l) ≡ a ∷ l
    step true f h = ap (λ (m : List A). a ∷ m) (f (omega arith))
    step false f h = absurd (omega (arith, filter_length p l))

-- Entering

abbrev earlier : Row → Row → Bool
earlier a b = vector_less a.vector b.vector

module _ (c p : List ℕ) (count : ℕ) (v q : List ℕ) where
  pub unfit_vector : length v ≡ 0 → record { answer = unfit; costs = c; witnesses = p } ≡ enter_call c p count v q
  unfolding enter_call
  unfit_vector e = simp (eq-eqb _ _ e)

  pub unfit_path : ¬ (length v ≡ 0) → length q ≡ 0 → record { answer = unfit; costs = c; witnesses = p } ≡ enter_call c p count v q
  unfolding enter_call
  unfit_path n e = simp (ne_eqb _ _ n, eq-eqb _ _ e)

  pub unfit_count : ¬ (length v ≡ 0) → ¬ (length q ≡ 0) → capacity (length v) (length q) c p < count
      → record { answer = unfit; costs = c; witnesses = p } ≡ enter_call c p count v q
  unfolding enter_call
  unfit_count n n' h = simp (ne_eqb _ _ n, ne_eqb _ _ n', lt-ltb _ _ h)

-- the tables have the rows
pub record Fit (c p : List ℕ) (count : ℕ) (v q : List ℕ) : Type 0 where
  pub some_costs : ¬ (length v ≡ 0)
  pub some_rows : ¬ (length q ≡ 0)
  pub enough : count ≤ capacity (length v) (length q) c p

module _ {c p : List ℕ} {count : ℕ} {v q : List ℕ} (fit : Fit c p count v q) where
  abbrev k : ℕ
  k = length v

  abbrev w : ℕ
  w = length q

  abbrev rows : List Row
  rows = filled k w count c p

  abbrev stay : List Row
  stay = staying v rows

  abbrev entry : Row
  entry = record { vector = v; path = q }

  pub costs_fit : (n : ℕ) → n ≤ capacity k w c p → n * k ≤ length c
  unfolding capacity
  costs_fit n h = rows_end n k (length c) (omega arith)

  pub witnesses_fit : (n : ℕ) → n ≤ capacity k w c p → n * w ≤ length p
  unfolding capacity
  witnesses_fit n h = rows_end n w (length p) (omega arith)

  met_is : any (λ (r : Row). none_larger r.vector v) rows ≡ met_in c count v
  met_is = map_any vector_of (λ u. none_larger u v) rows ∙ ap (any (λ u. none_larger u v)) (vectors_are k w c p count)

  pub enter_met : met_in c count v ≡ true → record { answer = met; costs = c; witnesses = p } ≡ enter_call c p count v q
  unfolding enter_call
  enter_met e = simp (ne_eqb _ _ fit.some_costs, ne_eqb _ _ fit.some_rows, le-ltb _ _ fit.enough, met_is ∙ e)

  wide : Wide vector_of k stay
  wide = wide_staying vector_of k rows count c v (costs_fit count fit.enough) (vectors_are k w c p count)

  wide' : Wide path_of w stay
  wide' = wide_staying path_of w rows count p v (witnesses_fit count fit.enough) (paths_are k w c p count)

  abbrev new : List Row
  new = insert earlier entry stay

  module _ {n : ℕ} {c' p' : List ℕ} (closed : Closed stay c p n c' p') where
    abbrev place : ℕ
    place = place_in c' n v

    place_is : place ≡ before (λ r. earlier r entry) stay
    place_is =
        rw (closed.costs_are, closed.count_is_lem, over_read vector_of k stay c wide) (before_map (λ u. vector_less u v) vector_of stay)

    place_le : place ≤ n
    place_le = rw (place_is, closed.count_is_lem) (before_le (λ r. earlier r entry) stay)

    -- where there is room for a row more, it lies within both tables, and its place not behind it
    pub row_fits : n < capacity k w c p → Bounds k w n place (length c') (length p')
    row_fits h =
        let costs = costs_fit (suc n) h in
        let witnesses = witnesses_fit (suc n) h in
        let few : n ≡ length stay = closed.count_is_lem in
        let same_costs : length c' ≡ length c = ap length closed.costs_are ∙ over_long vector_of k stay c wide (rw (← few) (omega (arith, suc-mul n k))) in
        let same_witnesses : length p' ≡ length p = ap length closed.witnesses_are ∙ over_long path_of w stay p wide' (rw (← few) (omega (arith, suc-mul n w))) in
        record {
          costs_end = omega (arith, suc-mul n k);
          witnesses_end = omega (arith, suc-mul n w);
          costs_below = mul-le-mul_right k place_le;
          witnesses_below = mul-le-mul_right w place_le;
        }

    new_long : length new ≡ suc n
    new_long = insert_length earlier entry stay ∙ ap suc (sym closed.count_is_lem)

    -- a table that is closed up, with the row inserted
    inserted_is : (f : Row → List ℕ) (m : ℕ) (t t' : List ℕ) → Wide f m stay → length (f entry) ≡ m → t' ≡ over f stay t → place * m ≤ n * m → n * m + m ≤ length t'
        → inserted t' (place * m) (n * m) (f entry) ≡ over f new t
    inserted_is f m t t' h e o order room =
        let at = insert_at earlier entry stay in
        inserted_all t' (place * m) (n * m) (f entry) order (omega arith)
        ∙ (rw (place_is, o, closed.count_is_lem, at) (over_insert f m stay t h entry _ e (before_le (λ r. earlier r entry) stay)))

    module _ (unmet : met_in c count v ≡ false) where
      -- no row went, and the tables are as they were
      pub enter_full : capacity k w c p ≤ n → record { answer = full; costs = c'; witnesses = p' } ≡ enter_call c p count v q
      unfolding enter_call staying
      enter_full h =
          let all : stay ≡ rows = filter_all (λ r. not (dominates v r.vector)) rows (omega (arith, fit.enough, closed.count_is_lem, filled_length k w c p count)) in
          let ec : c' ≡ c = closed.costs_are ∙ (rw all (over_whole vector_of k rows count c (costs_fit count fit.enough) (vectors_are k w c p count))) in
          let ep : p' ≡ p = closed.witnesses_are ∙ (rw all (over_whole path_of w rows count p (witnesses_fit count fit.enough) (paths_are k w c p count))) in
          rw (ec, ep)
          (simp (ne_eqb _ _ fit.some_costs, ne_eqb _ _ fit.some_rows, le-ltb _ _ fit.enough, met_is ∙ unmet, lt-ltb (capacity k w c p) (length new) (omega (arith, new_long))))

      pub enter_rows : n < capacity k w c p
          → record { answer = entered (n + 1); costs = inserted c' (place * k) (n * k) v; witnesses = inserted p' (place * w) (n * w) q } ≡ enter_call c p count v q
      unfolding enter_call staying
      enter_rows h =
          let a : n + 1 ≡ length new = omega (arith, new_long) in
          let fits = row_fits h in
          rw (
            inserted_is vector_of k c c' wide refl closed.costs_are fits.costs_below fits.costs_end,
            inserted_is path_of w p p' wide' refl closed.witnesses_are fits.witnesses_below fits.witnesses_end,
            a,
          )
          (simp (ne_eqb _ _ fit.some_costs, ne_eqb _ _ fit.some_rows, le-ltb _ _ fit.enough, met_is ∙ unmet, le-ltb (capacity k w c p) (length new) (omega (arith, new_long))))

-- The cost kind `closing`: a named street is closed once for all its rows. It is at most the plain sum (`closing_most`), it is no less with more
-- rows (`closing_gains`, `closing_within`), and goes by the rows, not by their sequence (`closing_same`).
use mathlib.Core.Path.{◌∙◌, ◌≡◌, ap, ap₂, refl, sym}
use mathlib.Core.Logic.{◌⊎◌, inl, inr, ⊎_elim}
use mathlib.Core.List.{List, [], ◌++◌, ◌∷◌, map, map-append}
use mathlib.Core.List.Memᴰ.{append_left}
use mathlib.Core.List.Memᴰ.{cases_cons as mem_cases}
use mathlib.Core.List.Memᴰ.{head as here}
use mathlib.Core.List.Memᴰ.{cast as mem_cast}
use mathlib.Core.List.Memᴰ.{not-nil as mem_nil}
use mathlib.Core.List.Memᴰ.{tail as there}
use Prim.Native.Nat.{◌+◌, ◌≤◌, ℕ}
use native.Mathlib.Decide.{ℕ_discrete}
use native.Mathlib.Omega.{arith}
use lib.Dec.{eqb, eqb→eq}
use Rattle.lists.specs.Lists.{either, filter_b, member, pick, sum}
use Rattle.lists.proofs.Distinct.{Distinct}
use Rattle.lists.proofs.Members.{◌∈◌, ◌⊆◌, filter_in, filter_keep, filter_out, filter_skip, mem_elim, member_in, member_out}
use Rattle.lists.proofs.Sums.{largest_sum, largest_within, sum_append, sum_larger, sum_within}
use Rattle.lists.proofs.Tests.{T-either, T_false, T_true, eq→eqb, pick_elim}
use Rattle.costs.specs.Costs.{added_cost, closing_cost, cost_at, in_street, street_cost, streets_of}
use Rattle.costs.specs.Network.{Network, closing, row_at}
use Rattle.bounds.specs.Bounds.{gain_at}

module _ (w : Network) where
  abbrev pub street_of : ℕ → ℕ
  street_of r = (row_at w r).street

  -- Streets that are named once, each with a row, and each row in one of them or in none
  pub record Named (rs S : List ℕ) : Type 0 where
    pub once : Distinct S
    pub no_zero : ¬ (0 ∈ S)
    pub each : (r : ℕ) → r ∈ rs → (street_of r ≡ 0) ⊎ (street_of r ∈ S)
    pub used : (s : ℕ) → s ∈ S → (r : ℕ) × (r ∈ rs) × (street_of r ≡ s)

  pub streets_named : (rs : List ℕ) → Named rs (streets_of w rs)
  unfolding streets_of
  streets_named [] = record { once = tt; no_zero = mem_nil; each = λ r m. absurd (mem_nil m); used = λ s m. absurd (mem_nil m) }
  streets_named (r ∷ rs) = step (streets_named rs)
    where
      S : List ℕ
      S = streets_of w rs

      older : Named rs S → (s : ℕ) → s ∈ S → (q : ℕ) × (q ∈ r ∷ rs) × (street_of q ≡ s)
      older h s m = let (q, i, e) = h.used s m in (q, there i, e)

      step : Named rs S → Named (r ∷ rs) (streets_of w (r ∷ rs))
      step h = pick_elim (Named (r ∷ rs)) (either (eqb (street_of r) 0) (member (street_of r) S))
          (λ t. record {
            once = h.once;
            no_zero = h.no_zero;
            each = λ q m. mem_elim (λ (x : ℕ). (street_of x ≡ 0) ⊎ (street_of x ∈ S)) m
                (⊎_elim (λ e. inl (eqb→eq (street_of r) 0 e)) (λ i. inr (member_out (street_of r) S i)) ((T-either (eqb (street_of r) 0) (member (street_of r) S)).0 t))
                (h.each q);
            used = older h;
          })
          (λ n. record {
            once = (λ m. n ((T-either (eqb (street_of r) 0) (member (street_of r) S)).1 (inr (member_in m))), h.once);
            no_zero = λ m. ⊎_elim (λ e. n ((T-either (eqb (street_of r) 0) (member (street_of r) S)).1 (inl (eq→eqb (street_of r) 0 (sym e))))) h.no_zero (mem_cases m);
            each = λ q m. mem_elim (λ (x : ℕ). (street_of x ≡ 0) ⊎ (street_of x ∈ street_of r ∷ S)) m (inr (here refl))
                (λ i. ⊎_elim (λ e. inl e) (λ j. inr (there j)) (h.each q i));
            used = λ s m. ⊎_elim (λ (e : s ≡ street_of r). (r, here refl, sym e)) (older h s) (mem_cases m);
          })

  -- more rows are in more streets
  pub streets_within : (rs qs : List ℕ) → rs ⊆ qs → streets_of w rs ⊆ streets_of w qs
  streets_within rs qs i s m =
      let (r, j, e) = (streets_named rs).used s m in
      ⊎_elim (λ z. absurd ((streets_named rs).no_zero (mem_cast (sym z ∙ e) m))) (λ k. mem_cast (sym e) k) ((streets_named qs).each r (i r j))

  pub rows_within : (s : ℕ) (rs qs : List ℕ) → rs ⊆ qs → in_street w s rs ⊆ in_street w s qs
  rows_within s rs qs i r m = let (j, t) = filter_out (λ q. eqb (street_of q) s) rs m in filter_in (λ q. eqb (street_of q) s) (i r j) t

  -- A measure of the rows, street by street

  module _ (f : ℕ → ℕ) where
    abbrev pub in_one : List ℕ → ℕ → ℕ
    in_one rs s = sum (map f (in_street w s rs))

    pub one_on : (r s : ℕ) (rs : List ℕ) → street_of r ≡ s → in_one (r ∷ rs) s ≡ f r + in_one rs s
    unfolding sum
    one_on r s rs e = ap (λ (l : List ℕ). sum (map f l)) (filter_keep (λ q. eqb (street_of q) s) r rs (eq→eqb (street_of r) s e))

    pub one_off : (r s : ℕ) (rs : List ℕ) → ¬ (street_of r ≡ s) → in_one (r ∷ rs) s ≡ in_one rs s
    one_off r s rs n = ap (λ (l : List ℕ). sum (map f l)) (filter_skip (λ q. eqb (street_of q) s) r rs (λ t. n (eqb→eq (street_of r) s t)))

    abbrev pub in_all : List ℕ → List ℕ → ℕ
    in_all rs S = sum (map (in_one rs) S)

    all_nothing : (S : List ℕ) → in_all [] S ≡ 0
    unfolding sum filter_b
    all_nothing [] = refl
    all_nothing (s ∷ S) = omega (arith, all_nothing S)

    all_off : (r : ℕ) (rs S : List ℕ) → ¬ (street_of r ∈ S) → in_all (r ∷ rs) S ≡ in_all rs S
    unfolding sum
    all_off r rs [] n = refl
    all_off r rs (s ∷ S) n = ap₂ {C = ℕ} (λ x y. x + y) (one_off r s rs (λ e. n (here e))) (all_off r rs S (λ m. n (there m)))

    all_on : (r : ℕ) (rs S : List ℕ) → Distinct S → street_of r ∈ S → in_all (r ∷ rs) S ≡ f r + in_all rs S
    unfolding sum
    all_on r rs [] d m = absurd (mem_nil m)
    all_on r rs (s ∷ S) d m = elim (ℕ_discrete (street_of r) s) [
      | yes e ↦ omega (arith, one_on r s rs e, all_off r rs S (λ i. d.0 (mem_cast (sym e) i)))
      | no n ↦ omega (arith, one_off r s rs n, all_on r rs S d.1 (⊎_elim (λ e. absurd (n e)) (λ i. i) (mem_cases m)))
    ]

    -- each row is in one street, named or not
    pub parts_sum : (rs S : List ℕ) → Distinct S → ¬ (0 ∈ S) → ((r : ℕ) → r ∈ rs → (street_of r ≡ 0) ⊎ (street_of r ∈ S)) → in_all rs S + in_one rs 0 ≡ sum (map f rs)
    unfolding sum filter_b
    parts_sum [] S once no_zero each = omega (arith, all_nothing S)
    parts_sum (r ∷ rs) S once no_zero each =
        let rest = parts_sum rs S once no_zero (λ q m. each q (there m)) in
        ⊎_elim
        (λ (e : street_of r ≡ 0). omega (arith, rest, one_on r 0 rs e, all_off r rs S (λ m. no_zero (mem_cast (sym e) m))))
        (λ (m : street_of r ∈ S). omega (arith, rest, one_off r 0 rs (λ e. no_zero (mem_cast (sym e) m)), all_on r rs S once m))
        (each r (here refl))

module _ (w : Network) (c : ℕ) where
  -- the named streets of the rows together
  abbrev pub named_cost : List ℕ → ℕ
  named_cost rs = sum (map (street_cost w c rs) (streets_of w rs))

  abbrev pub gain : ℕ → ℕ
  gain r = gain_at closing w c r

  -- MOST: at most the plain sum
  pub closing_most : (rs : List ℕ) → closing_cost w c rs ≤ added_cost w c rs
  closing_most rs =
      let h = streets_named w rs in
      omega (
        arith,
        sum_larger (street_cost w c rs) (in_one w (cost_at w c) rs) (streets_of w rs) (λ s m. largest_sum (map (cost_at w c) (in_street w s rs))),
        parts_sum w (cost_at w c) rs (streets_of w rs) h.once h.no_zero h.each,
      )

  -- more rows close no less
  pub street_within : (s : ℕ) (rs qs : List ℕ) → rs ⊆ qs → street_cost w c rs s ≤ street_cost w c qs s
  street_within s rs qs i = largest_within (cost_at w c) (in_street w s rs) (rows_within w s rs qs i)

  pub named_within : (rs qs : List ℕ) → rs ⊆ qs → named_cost rs ≤ named_cost qs
  named_within rs qs i =
      omega (
        arith,
        sum_larger (street_cost w c rs) (street_cost w c qs) (streets_of w rs) (λ s m. street_within s rs qs i),
        sum_within (street_cost w c qs) (streets_of w rs) (streets_named w rs).once (streets_within w rs qs i),
      )

  -- the rows of street 0 give their gains, the others have none
  pub off_gains : (rs : List ℕ) → sum (map (cost_at w c) (in_street w 0 rs)) ≡ sum (map gain rs)
  unfolding sum filter_b
  off_gains [] = refl
  off_gains (r ∷ rs) = elim (ℕ_discrete (street_of w r) 0) [
    | yes e ↦ omega (arith, one_on w (cost_at w c) r 0 rs e, ap {B = ℕ} (λ b. pick b (cost_at w c r) 0) ((T_true (eqb (street_of w r) 0)).0 (eq→eqb (street_of w r) 0 e)), off_gains rs)
    | no n ↦ omega (arith, one_off w (cost_at w c) r 0 rs n, ap {B = ℕ} (λ b. pick b (cost_at w c r) 0) ((T_false (eqb (street_of w r) 0)).0 (λ t. n (eqb→eq (street_of w r) 0 t))), off_gains rs)
  ]

  pub gains_append : (rs qs : List ℕ) → sum (map gain (rs ++ qs)) ≡ sum (map gain rs) + sum (map gain qs)
  gains_append rs qs = ap sum (map-append gain rs qs) ∙ sum_append (map gain rs) (map gain qs)

  -- GAINS: rows behind others add at least their gains
  pub closing_gains : (rs qs : List ℕ) → closing_cost w c rs + sum (map gain qs) ≤ closing_cost w c (rs ++ qs)
  closing_gains rs qs =
      omega (
        arith,
        named_within rs (rs ++ qs) (λ r m. append_left qs m),
        off_gains rs,
        off_gains (rs ++ qs),
        gains_append rs qs,
      )

  -- WITHIN: different rows of qs close no more than qs
  pub closing_within : (rs qs : List ℕ) → Distinct rs → rs ⊆ qs → closing_cost w c rs ≤ closing_cost w c qs
  closing_within rs qs d i = omega (arith, named_within rs qs i, off_gains rs, off_gains qs, sum_within gain rs d i)

  -- SAME: in any sequence
  pub closing_same : (rs qs : List ℕ) → Distinct rs → Distinct qs → rs ⊆ qs → qs ⊆ rs → closing_cost w c rs ≡ closing_cost w c qs
  closing_same rs qs d e i j = omega (arith, closing_within rs qs d i, closing_within qs rs e j)

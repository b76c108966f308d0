-- THE MARKS: over any list of a graph's layouts, the mark of a row by its definition is the closed one (`mark_closed`).
use mathlib.Core.Path.{◌∙◌, ◌≡◌, refl, sym}
use mathlib.Core.Logic.{◌↔◌, ◌⊎◌, inl, inr, ⊎_elim}
use mathlib.Core.Bool.{Bool, not}
use mathlib.Core.List.{List}
use Prim.Native.Nat.{◌<◌, ◌≤◌, ℕ}
use native.Mathlib.Omega.{arith}
use lib.Dec.{T, T_not, eqb, eqb→eq, leb, leb→le, le→leb, ltb, ltb→lt, lt→ltb, not_T}
use lib.ListN.{length}
use Rattle.lists.specs.Lists.{all, any, both, either, filter_b, member, pick}
use Rattle.lists.proofs.Distinct.{Distinct}
use Rattle.lists.proofs.Members.{◌∈◌, ◌⊆◌, all_in, all_out, any_in, any_out, filter_in, filter_out, member_in, member_out}
use Rattle.lists.proofs.Tests.{T-both, T-either, T_false, T_true, decide, eq→eqb}
use Rattle.graph.specs.Graph.{Graph, first_end, row_numbers, second_end}
use Rattle.graph.proofs.Minimal.{WellFormed}
use Rattle.graph.proofs.Tree.{tree_out}
use Rattle.forests.proofs.Closure.{joined_runs}
use Rattle.forests.proofs.Joined.{Lies}
use Rattle.musts.proofs.Layouts.{Layout, Listed, lightest_layout}
use Rattle.ranges.specs.Closed.{closed_mark, joins_ends, must_or}
use Rattle.ranges.specs.Ranges.{beats, row_mark, unbeaten}
use Rattle.ranges.proofs.Beaten.{Unbeaten, lightest_unbeaten, necessary, possible}
use Rattle.ranges.proofs.Choices.{Beats, at, beats_all, weight_equal}

module _ (g : Graph) (wf : WellFormed g) (ms ps : List ℕ) (L : List (List ℕ)) (h : Listed g ms ps L) (some : (ts : List ℕ) × Layout g ms ps ts)
    (lows highs : List ℕ) (e : length lows ≡ length highs) (order : (r : ℕ) → at lows r ≤ at highs r) where
  abbrev U : List (List ℕ)
  U = unbeaten lows highs L

  abbrev Kept : List ℕ → Type 0
  Kept ts = Unbeaten (at lows) (at highs) order g wf ms ps ts

  once : {ts : List ℕ} → Layout g ms ps ts → Distinct ts
  once {ts} k = (tree_out g ts k.tree).once

  -- beating goes by which rows there are
  beats_same : (ss ts p q : List ℕ) → Layout g ms ps ss → Layout g ms ps ts → Layout g ms ps p → Layout g ms ps q
      → p ⊆ ss → ss ⊆ p → q ⊆ ts → ts ⊆ q → Beats (at lows) (at highs) ss ts → Beats (at lows) (at highs) p q
  beats_same ss ts p q hs ht hp hq a b x y k c w =
      omega (arith, k c w, weight_equal c p ss (once hp) (once hs) a b, weight_equal c q ts (once hq) (once ht) x y)

  unbeaten_out : (t : List ℕ) → t ∈ U → (t ∈ L) × Kept t
  unfolding unbeaten
  unbeaten_out t i =
      let (j, u) = filter_out (λ t. not (any (λ s. beats lows highs s t) L)) L i in (
        j,
        λ ss s b.
            let (p, k, (x, y)) = h.path ss s in
            let ht = h.layout t j in
            T_not (any (λ s. beats lows highs s t) L) u (any_in (λ s. beats lows highs s t) k
            ((beats_all lows highs e p t).1 (beats_same ss t p t s ht (h.layout p k) ht x y (λ r m. m) (λ r m. m) b))),
      )

  unbeaten_in : (t : List ℕ) → t ∈ L → Kept t → t ∈ U
  unfolding unbeaten
  unbeaten_in t j k = filter_in (λ t. not (any (λ s. beats lows highs s t) L)) j (not_T (any (λ s. beats lows highs s t) L) (λ u.
      let (s, i, b) = any_out (λ s. beats lows highs s t) L u in
      k s (h.layout s i) ((beats_all lows highs e s t).0 b)))

  -- an unbeaten layout is listed
  kept_listed : (ts : List ℕ) → Layout g ms ps ts → Kept ts → (p : List ℕ) × (p ∈ U) × ((p ⊆ ts) × (ts ⊆ p))
  kept_listed ts ht k =
      let (p, i, (x, y)) = h.path ts ht in
      (p, unbeaten_in p i (λ ss s b. k ss s (beats_same ss p ss ts s (h.layout p i) s ht (λ r m. m) (λ r m. m) y x b)), (x, y))

  some_kept : (ts : List ℕ) × Layout g ms ps ts × Kept ts
  some_kept =
      let (bs, k, l) = lightest_layout g wf ms ps (at lows) some.0 some.1 in
      (bs, k, lightest_unbeaten (at lows) (at highs) order g wf ms ps (at lows) (λ r. (omega arith, order r)) bs l)

  module _ (r : ℕ) where
    any_mark : T (any (member r) U) ↔ ((ts : List ℕ) × Layout g ms ps ts × Kept ts × (r ∈ ts))
    any_mark = (
      λ t. let (p, i, m) = any_out (member r) U t in let (j, k) = unbeaten_out p i in (p, h.layout p j, k, member_out r p m),
      λ (ts, l, k, i). let (p, j, (x, y)) = kept_listed ts l k in any_in (member r) j (member_in (y r i)),
    )

    all_mark : T (all (member r) U) ↔ ((ts : List ℕ) → Layout g ms ps ts → Kept ts → r ∈ ts)
    all_mark = (
      λ t ts l k. let (p, j, (x, y)) = kept_listed ts l k in x r (member_out r p (all_out (member r) t j)),
      λ f. all_in (member r) U (λ p i. let (j, k) = unbeaten_out p i in member_in (f p (h.layout p j) k)),
    )

    mark_two : T (any (member r) U) → T (all (member r) U) → row_mark U r ≡ 2
    unfolding row_mark
    mark_two a b = rw ((T_true (any (member r) U)).0 a, (T_true (all (member r) U)).0 b) refl

    mark_one : T (any (member r) U) → ¬ T (all (member r) U) → row_mark U r ≡ 1
    unfolding row_mark
    mark_one a b = rw ((T_true (any (member r) U)).0 a, (T_false (all (member r) U)).0 b) refl

    mark_none : ¬ T (any (member r) U) → row_mark U r ≡ 0
    unfolding row_mark
    mark_none a = rw ((T_false (any (member r) U)).0 a) refl

    -- must rows are necessary, and rows that are not allowed are not possible
    pub must_two : r ∈ ms → row_mark (unbeaten lows highs L) r ≡ 2
    must_two i =
        let (ts, l, k) = some_kept in
        mark_two (any_mark.1 (ts, l, k, l.musts r i)) (all_mark.1 (λ ss s u. s.musts r i))

    pub barred_none : ¬ (r ∈ ps) → row_mark (unbeaten lows highs L) r ≡ 0
    barred_none n = mark_none (λ t. let (ts, l, k, i) = any_mark.0 t in n (l.allowed r i))

-- With must and barred rows by tests

module _ (g : Graph) (must barred test : ℕ → Bool) where
  must_or_out : (r : ℕ) → r ∈ must_or g must barred test → (r ∈ row_numbers g) × (T (must r) ⊎ ((¬ T (barred r)) × T (test r)))
  unfolding must_or
  must_or_out r i =
      let (j, t) = filter_out (λ f. either (must f) (both (not (barred f)) (test f))) (row_numbers g) i in (
        j,
        ⊎_elim (λ a. inl a) (λ b. let (x, y) = (T-both (not (barred r)) (test r)).0 b in inr (T_not (barred r) x, y)) ((T-either (must r) (both (not (barred r)) (test r))).0 t),
      )

  must_or_in : (r : ℕ) → r ∈ row_numbers g → T (must r) ⊎ ((¬ T (barred r)) × T (test r)) → r ∈ must_or g must barred test
  unfolding must_or
  must_or_in r j s = filter_in (λ f. either (must f) (both (not (barred f)) (test f))) j ((T-either (must r) (both (not (barred r)) (test r))).1
      (⊎_elim (λ a. inl a) (λ (x, y). inr ((T-both (not (barred r)) (test r)).1 (not_T (barred r) x, y))) s))

abbrev pub musts_by : Graph → (ℕ → Bool) → List ℕ
musts_by g must = filter_b must (row_numbers g)

abbrev pub allowed_by : Graph → (ℕ → Bool) → List ℕ
allowed_by g barred = filter_b (λ r. not (barred r)) (row_numbers g)

module _ (g : Graph) (wf : WellFormed g) (must barred : ℕ → Bool) (L : List (List ℕ)) (h : Listed g (musts_by g must) (allowed_by g barred) L)
    (some : (ts : List ℕ) × Layout g (musts_by g must) (allowed_by g barred) ts)
    (lows highs : List ℕ) (e : length lows ≡ length highs) (order : (r : ℕ) → at lows r ≤ at highs r) where
  abbrev ms : List ℕ
  ms = musts_by g must

  abbrev ps : List ℕ
  ps = allowed_by g barred

  allowed_out : {r : ℕ} → r ∈ ps → (r ∈ row_numbers g) × (¬ T (barred r))
  allowed_out {r} i = let (j, t) = filter_out (λ r. not (barred r)) (row_numbers g) i in (j, T_not (barred r) t)

  allowed_in : {r : ℕ} → r ∈ row_numbers g → ¬ T (barred r) → r ∈ ps
  allowed_in {r} i n = filter_in (λ r. not (barred r)) i (not_T (barred r) n)

  -- MARKS
  pub mark_closed : (r : ℕ) → r ∈ row_numbers g → Lies g r → row_mark (unbeaten lows highs L) r ≡ closed_mark g must barred (at lows) (at highs) r
  unfolding closed_mark
  mark_closed r i lies = ⊎_elim
      (λ (t : T (must r)). must_two g wf ms ps L h some lows highs e order r (filter_in must i t) ∙ sym (rw ((T_true (must r)).0 t) refl))
      (λ (n : ¬ T (must r)). ⊎_elim
      (λ (t : T (barred r)). barred_none g wf ms ps L h some lows highs e order r (λ j. (allowed_out j).1 t) ∙ sym (rw ((T_false (must r)).0 n, (T_true (barred r)).0 t) refl))
      (λ (b : ¬ T (barred r)). free n b ∙ sym (rw ((T_false (must r)).0 n, (T_false (barred r)).0 b) refl))
      (decide (barred r)))
      (decide (must r))
    where
      low : ℕ → ℕ
      low = at lows

      high : ℕ → ℕ
      high = at highs

      below : List ℕ
      below = must_or g must barred (λ f. ltb (high f) (low r))

      level : List ℕ
      level = must_or g must barred (λ f. both (not (eqb f r)) (leb (low f) (high r)))

      free : ¬ T (must r) → ¬ T (barred r) → row_mark (unbeaten lows highs L) r ≡ pick (joins_ends g below r) 0 (pick (joins_ends g level r) 1 2)
      free n b =
          let not_must : ¬ (r ∈ ms) = λ j. n (filter_out must (row_numbers g) j).1 in
          let may = allowed_in i b in
          let some_in = possible low high order g wf ms ps some r lies not_must may below below_is in
          let all_in = necessary low high order g wf ms ps some r lies not_must may level level_is in
          ⊎_elim
          (λ (t : T (joins_ends g below r)). mark_none g wf ms ps L h some lows highs e order r
          (λ u. some_in.0 ((any_mark g wf ms ps L h some lows highs e order r).0 u) ((joined_runs g below (first_end g r) (second_end g r) lies.first).1 t))
          ∙ sym (rw ((T_true (joins_ends g below r)).0 t) refl))
          (λ (k : ¬ T (joins_ends g below r)).
          let here_some : T (any (member r) (unbeaten lows highs L)) = (any_mark g wf ms ps L h some lows highs e order r).1
          (some_in.1 (λ j. k ((joined_runs g below (first_end g r) (second_end g r) lies.first).0 j))) in
          ⊎_elim
          (λ (t : T (joins_ends g level r)). mark_one g wf ms ps L h some lows highs e order r here_some
          (λ u. all_in.0 ((all_mark g wf ms ps L h some lows highs e order r).0 u) ((joined_runs g level (first_end g r) (second_end g r) lies.first).1 t))
          ∙ sym (rw ((T_false (joins_ends g below r)).0 k, (T_true (joins_ends g level r)).0 t) refl))
          (λ (l : ¬ T (joins_ends g level r)). mark_two g wf ms ps L h some lows highs e order r here_some
          ((all_mark g wf ms ps L h some lows highs e order r).1 (all_in.1 (λ j. l ((joined_runs g level (first_end g r) (second_end g r) lies.first).0 j))))
          ∙ sym (rw ((T_false (joins_ends g below r)).0 k, (T_false (joins_ends g level r)).0 l) refl))
          (decide (joins_ends g level r)))
          (decide (joins_ends g below r))
        where
          below_is : (f : ℕ) → f ∈ below ↔ ((f ∈ ms) ⊎ ((f ∈ ps) × (high f < low r)))
          below_is f = (
            λ j. let (k, s) = must_or_out g must barred (λ f. ltb (high f) (low r)) f j in
                ⊎_elim (λ t. inl (filter_in must k t)) (λ (x, y). inr (allowed_in k x, ltb→lt (high f) (low r) y)) s,
            λ s. ⊎_elim
                (λ j. let (k, t) = filter_out must (row_numbers g) j in must_or_in g must barred (λ f. ltb (high f) (low r)) f k (inl t))
                (λ (j, l). let (k, x) = allowed_out j in must_or_in g must barred (λ f. ltb (high f) (low r)) f k (inr (x, lt→ltb (high f) (low r) l)))
                s,
          )

          near : ℕ → Bool
          near f = both (not (eqb f r)) (leb (low f) (high r))

          level_is : (f : ℕ) → f ∈ level ↔ ((f ∈ ms) ⊎ ((f ∈ ps) × (¬ (f ≡ r)) × (low f ≤ high r)))
          level_is f = (
            λ j. let (k, s) = must_or_out g must barred near f j in
                ⊎_elim
                (λ t. inl (filter_in must k t))
                (λ (x, y). let (c, d) = (T-both (not (eqb f r)) (leb (low f) (high r))).0 y in
                inr (allowed_in k x, λ q. T_not (eqb f r) c (eq→eqb f r q), leb→le (low f) (high r) d))
                s,
            λ s. ⊎_elim
                (λ j. let (k, t) = filter_out must (row_numbers g) j in must_or_in g must barred near f k (inl t))
                (λ (j, d, l). let (k, x) = allowed_out j in must_or_in g must barred near f k
                (inr (x, (T-both (not (eqb f r)) (leb (low f) (high r))).1 (not_T (eqb f r) (λ t. d (eqb→eq f r t)), le→leb (low f) (high r) l))))
                s,
          )

-- Laws of the count over a matrix, by which the code goes: the last node's links one after the other (`total_branch`), a node that nothing joins
-- (`total_apart`), one link (`total_one`), two links (`total_two`).
use mathlib.Core.Path.{◌∙◌, ◌≡◌, ap, ap₂, refl, subst, sym}
use mathlib.Core.Logic.{inl, inr}
use mathlib.Core.Bool.{Bool, ◌&&◌, false, true}
use mathlib.Core.List.{List, [], ◌++◌, ◌∷◌}
use Prim.Native.Nat.{◌*◌, ◌+◌, ◌<◌, ◌≤◌, suc, zero, ℕ}
use native.Mathlib.Decide.{ℕ_discrete}
use native.Mathlib.Omega.{arith}
use lib.Dec.{eqb, eqb→eq, ltb, ltb→lt}
use lib.ListN.{length}
use Rattle.lists.specs.Lists.{range}
use Rattle.lists.proofs.Members.{◌⊆◌, range_in, range_out}
use Rattle.lists.proofs.Tests.{T_false, T_true, decide, eq→eqb, not_ltb→le}
use Rattle.counts.specs.Counting.{Link, Weight, beside, count, link}
use Rattle.counts.specs.Trees.{unite}
use Rattle.counts.specs.Matrix.{Matrix, absent, add, links, merge_into, move_from, put, star, total}
use Rattle.counts.proofs.Labels.{unite_coarser, unite_joins, unite_out}
use Rattle.counts.proofs.Alike.{Within, count_alike, move_same}
use Rattle.counts.proofs.Laws.{Holds, count_absent, count_behind, count_beside, count_ends, count_flip, count_held}
use Rattle.counts.proofs.Laws.{count_pair, count_swap, first, holds_before, holds_behind, later, within_more}

-- One weight replaced

pub put_same : (w : Matrix) (a b : ℕ) (p : Weight) → put w a b p a b ≡ p
put_same w a b p = rw ((T_true (eqb a a)).0 (eq→eqb a a refl), (T_true (eqb b b)).0 (eq→eqb b b refl))

pub put_row : (w : Matrix) (a b : ℕ) (p : Weight) (i j : ℕ) → ¬ (i ≡ a) → put w a b p i j ≡ w i j
put_row w a b p i j n = rw ((T_false (eqb i a)).0 (λ t. n (eqb→eq i a t)))

and-false : (x y : Bool) → y ≡ false → (x && y) ≡ false
and-false true y e = e
and-false false y e = refl

pub put_column : (w : Matrix) (a b : ℕ) (p : Weight) (i j : ℕ) → ¬ (j ≡ b) → put w a b p i j ≡ w i j
put_column w a b p i j n = rw (and-false (eqb i a) (eqb j b) ((T_false (eqb j b)).0 (λ t. n (eqb→eq j b t))))

-- The links depend on the weights between their nodes

star_same : (w z : Matrix) (v j n : ℕ) → ((i : ℕ) → j ≤ i → i < j + n → w v i ≡ z v i) → star w v j n ≡ star z v j n
unfolding star
star_same w z v j zero h = refl
star_same w z v j (suc n) h = ap₂ (λ (p : Weight) (l : List Link). link v j p ∷ l) (h j (omega arith) (omega arith)) (star_same w z v (suc j) n (λ i a b. h i (omega arith) (omega arith)))

pub links_same : (w z : Matrix) (k : ℕ) → ((a b : ℕ) → b < a → a < k → w a b ≡ z a b) → links w k ≡ links z k
unfolding links
links_same w z zero h = refl
links_same w z (suc v) h = ap₂ ◌++◌ (star_same w z v 0 v (λ i a b. h v i (omega arith) (omega arith))) (links_same w z v (λ a b i j. h a b i (omega arith)))

pub total_same : (w z : Matrix) (k : ℕ) → ((a b : ℕ) → b < a → a < k → w a b ≡ z a b) → total w k ≡ total z k
unfolding total
total_same w z k h = ap (count (range 0 k) (λ v. v)) (links_same w z k h)

-- How many there are
pub star_length : (w : Matrix) (v j n : ℕ) → length (star w v j n) ≡ n
unfolding star
star_length w v j zero = refl
star_length w v j (suc n) = ap suc (star_length w v (suc j) n)

-- One link, and the others

star_held : (w : Matrix) (v x j n : ℕ) → j ≤ x → x < j + n
    → (rest : List Link) × Holds (link v x (w v x)) (star w v j n) rest × ((q : Weight) → Holds (link v x q) (star (put w v x q) v j n) rest)
unfolding star
star_held w v x j zero a b = absurd (omega arith)
star_held w v x j (suc n) a b = elim (ℕ_discrete x j) [
  | yes e ↦ (
    star w v (suc j) n,
    subst (λ (y : ℕ). Holds (link v y (w v y)) (link v j (w v j) ∷ star w v (suc j) n) (star w v (suc j) n)) (sym e) first,
    λ q. subst (λ (y : ℕ). Holds (link v y q) (link v j (put w v y q v j) ∷ star (put w v y q) v (suc j) n) (star w v (suc j) n)) (sym e)
        (rw (put_same w v j q, star_same (put w v j q) w v (suc j) n (λ i c d. put_column w v j q v i (λ f. omega arith))) first),
  )
  | no k ↦ let (rest, h, f) = star_held w v x (suc j) n (omega arith) (omega arith) in
      (link v j (w v j) ∷ rest, later h, λ q. rw (put_column w v x q v j (λ e. k (sym e))) (later (f q)))
]

pub links_held : (w : Matrix) (k a b : ℕ) → b < a → a < k
    → (rest : List Link) × Holds (link a b (w a b)) (links w k) rest × ((q : Weight) → Holds (link a b q) (links (put w a b q) k) rest)
unfolding links
links_held w zero a b i j = absurd (omega arith)
links_held w (suc v) a b i j = elim (ℕ_discrete a v) [
  | yes e ↦ top e
  | no n ↦ let (rest, h, f) = links_held w v a b i (omega arith) in (
    star w v 0 v ++ rest,
    holds_behind (star w v 0 v) h,
    λ q. rw (star_same (put w a b q) w v 0 v (λ c d g. put_row w a b q v c (λ e. n (sym e)))) (holds_behind (star w v 0 v) (f q)),
  )
]
  where
    top : a ≡ v → (rest : List Link) × Holds (link a b (w a b)) (star w v 0 v ++ links w v) rest
        × ((q : Weight) → Holds (link a b q) (star (put w a b q) v 0 v ++ links (put w a b q) v) rest)
    top e =
        let (rest, h, f) = star_held w v b 0 v (omega arith) (omega arith) in (
          rest ++ links w v,
          subst (λ (y : ℕ). Holds (link y b (w y b)) (star w v 0 v ++ links w v) (rest ++ links w v)) (sym e) (holds_before (links w v) h),
          λ q. subst (λ (y : ℕ). Holds (link y b q) (star (put w y b q) v 0 v ++ links (put w y b q) v) (rest ++ links w v)) (sym e)
              (rw (links_same (put w v b q) w v (λ c d g m. put_row w v b q c d (λ z. omega arith))) (holds_before (links w v) (f q))),
        )

-- the ends of the links
star_within : (w : Matrix) (v j n : ℕ) → j + n ≤ v → Within (range 0 (suc v)) (star w v j n)
unfolding star
star_within w v j zero h = tt
star_within w v j (suc n) h = ((range_in 0 (suc v) v (omega arith) (omega arith), range_in 0 (suc v) j (omega arith) (omega arith)), star_within w v (suc j) n (omega arith))

within_append : (N : List ℕ) (l m : List Link) → Within N l → Within N m → Within N (l ++ m)
within_append N [] m a b = b
within_append N (e ∷ l) m a b = (a.0, within_append N l m a.1 b)

range_grows : (k n : ℕ) → k ≤ n → range 0 k ⊆ range 0 n
range_grows k n h v i = let r = range_out 0 k i in range_in 0 n v (omega arith) (omega arith)

pub links_within : (w : Matrix) (k : ℕ) → Within (range 0 k) (links w k)
unfolding links
links_within w zero = tt
links_within w (suc v) = within_append (range 0 (suc v)) (star w v 0 v) (links w v) (star_within w v 0 v (omega arith))
    (within_more (range_grows v (suc v) (omega arith)) (links w v) (links_within w v))

-- A link added

module _ (ns : List ℕ) (w : Matrix) (k : ℕ) where
  beside_put : (lab : ℕ → ℕ) (a b : ℕ) (p : Weight) → b < a → a < k
      → count ns lab (link a b p ∷ links w k) ≡ count ns lab (links (put w a b (beside (w a b) p)) k)
  beside_put lab a b p i j =
      let (rest, h, f) = links_held w k a b i j in
      count_behind ns (link a b p) (links w k) (link a b (w a b) ∷ rest) (count_held ns h) lab
      ∙ count_beside ns lab a b p (w a b) rest ∙ sym (count_held ns (f (beside (w a b) p)) lab)

  -- ADDED
  pub count_add : (lab : ℕ → ℕ) (x y : ℕ) (p : Weight) → x < k → y < k → ¬ (x ≡ y) → count ns lab (link x y p ∷ links w k) ≡ count ns lab (links (add w x y p) k)
  count_add lab x y p i j n = elim (decide (ltb x y)) [
    | inl t ↦ rw ((T_true (ltb x y)).0 t) (count_flip ns lab x y p (links w k) ∙ beside_put lab y x p (ltb→lt x y t) j)
    | inr f ↦ rw ((T_false (ltb x y)).0 f) (beside_put lab x y p (omega (arith, not_ltb→le x y f)) i)
  ]

-- a row that nobody adds to stays
pub add_row : (w : Matrix) (x y : ℕ) (p : Weight) (i j : ℕ) → x < i → y < i → add w x y p i j ≡ w i j
add_row w x y p i j a b = elim (decide (ltb x y)) [
  | inl t ↦ rw ((T_true (ltb x y)).0 t) (put_row w y x (beside (w y x) p) i j (λ e. omega arith))
  | inr f ↦ rw ((T_false (ltb x y)).0 f) (put_row w x y (beside (w x y) p) i j (λ e. omega arith))
]

-- all links of v moved to x, where both have one label
count_move : (ns : List ℕ) (lab : ℕ → ℕ) (v x : ℕ) → x < v → lab v ≡ lab x → (n j : ℕ) → j + n ≤ v → (w : Matrix) → w v x ≡ absent
    → count ns lab (star w v j n ++ links w v) ≡ count ns lab (links (move_from w v x j n) v)
unfolding star move_from
count_move ns lab v x h e zero j l w o = refl
count_move ns lab v x h e (suc n) j l w o = elim (ℕ_discrete j x) [
  | yes d ↦ rw ((T_true (eqb j x)).0 (eq→eqb j x d)) (skip d ∙ count_move ns lab v x h e n (suc j) (omega arith) w o)
  | no d ↦ rw ((T_false (eqb j x)).0 (λ t. d (eqb→eq j x t))) (
      count_ends ns lab v j x j (w v j) (star w v (suc j) n ++ links w v) e refl ∙ turned d
      ∙ ap (λ (l : List Link). count ns lab (l ++ links (add w x j (w v j)) v)) (star_same w (add w x j (w v j)) v (suc j) n (λ i a b. sym (add_row w x j (w v j) v i h (omega arith))))
      ∙ count_move ns lab v x h e n (suc j) (omega arith) (add w x j (w v j)) (add_row w x j (w v j) v x h (omega arith) ∙ o))
]
  where
    skip : j ≡ x → count ns lab (link v j (w v j) ∷ star w v (suc j) n ++ links w v) ≡ count ns lab (star w v (suc j) n ++ links w v)
    skip d = rw (d, o) (count_absent ns lab v x (star w v (suc x) n ++ links w v))

    turned : ¬ (j ≡ x) → count ns lab (link x j (w v j) ∷ star w v (suc j) n ++ links w v) ≡ count ns lab (star w v (suc j) n ++ links (add w x j (w v j)) v)
    turned d = through (star w v (suc j) n) lab
      where
        through : (l : List Link) (bal : ℕ → ℕ) → count ns bal (link x j (w v j) ∷ l ++ links w v) ≡ count ns bal (l ++ links (add w x j (w v j)) v)
        through [] bal = count_add ns w v bal x j (w v j) h (omega arith) (λ f. d (sym f))
        through (g ∷ l) bal = count_swap ns (link x j (w v j)) g (l ++ links w v) bal
            ∙ count_behind ns g (link x j (w v j) ∷ l ++ links w v) (l ++ links (add w x j (w v j)) v) (through l) bal

-- the last node v has the label of x
module _ (v x : ℕ) (h : x < v) where
  abbrev lab : ℕ → ℕ
  lab = unite (λ u. u) v x

  -- then the others count by themselves
  last_gone : (w : Matrix) → count (range 0 (suc v)) lab (links w v) ≡ total w v
  unfolding total
  last_gone w = sym (count_alike (λ u. u) (range 0 v) (range 0 v) (range 0 (suc v)) (λ u. u) lab (links w v) (links_within w v) (record {
    part = λ u i. i;
    to = range_grows v (suc v) (omega arith);
    from = λ u i. elim (ℕ_discrete u v) [
      | yes e ↦ (x, range_in 0 v x (omega arith) (omega arith), unite_coarser (λ u. u) v x u v e ∙ unite_joins (λ u. u) v x)
      | no n ↦ let r = range_out 0 (suc v) i in (u, range_in 0 v u (omega arith) (omega arith), refl)
    ];
    same = λ a b i j. (
      λ e. unite_coarser (λ u. u) v x a b e,
      λ e. elim (unite_out (λ u. u) v x a b e) [
        | inl p ↦ p
        | inr s ↦ elim s [
          | inl (p, q) ↦ let r = range_out 0 v i in absurd (omega arith)
          | inr (p, q) ↦ let r = range_out 0 v j in absurd (omega arith)
        ]
      ],
    );
  }) ∙ ap (count (range 0 (suc v)) lab) (move_same (links w v)))

-- BRANCH: the last node's link to x dropped, or the node merged into x
pub total_branch : (w : Matrix) (v x : ℕ) → x < v
    → total w (suc v) ≡ (w v x).dropped * total (put w v x absent) (suc v) + (w v x).merged * total (merge_into (put w v x absent) v x) v
unfolding total links
total_branch w v x h =
    let ns = range 0 (suc v) in
    let (rest, i, f) = links_held w (suc v) v x h (omega arith) in
    let z = put w v x absent in
    count_held ns i (λ u. u) ∙ count_pair ns (λ u. u) (link v x (w v x)) rest (λ e. omega arith)
    ∙ ap₂ (λ (a b : ℕ). (w v x).dropped * a + (w v x).merged * b)
    (sym (count_held ns (f absent) (λ u. u) ∙ count_absent ns (λ u. u) v x rest))
    (sym (count_held ns (f absent) (lab v x h) ∙ count_absent ns (lab v x h) v x rest)
    ∙ count_move ns (lab v x h) v x h (unite_joins (λ u. u) v x) v 0 (omega arith) z (put_same w v x absent)
    ∙ last_gone v x h (merge_into z v x))

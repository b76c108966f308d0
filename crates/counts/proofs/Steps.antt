-- What the code does at the last node: a network that falls apart counts 0 (`total_apart`), a node with one link is merged (`total_one`), and one with
-- two links gives way to one link (`total_two`); a link that cannot be merged is dropped (`total_dropped`).
use mathlib.Core.Path.{◌∙◌, ◌≡◌, ap, ap₂, fun_ext, refl, subst, sym}
use mathlib.Core.Logic.{◌⊎◌, inl, inr}
use mathlib.Core.Bool.{Bool, ◌&&◌}
use mathlib.Core.List.{List, [], ◌++◌, ◌∷◌}
use Prim.Native.Nat.{◌*◌, ◌+◌, ◌<◌, ◌≤◌, suc, zero, ℕ}
use native.Mathlib.Decide.{ℕ_discrete}
use native.Mathlib.Omega.{arith}
use lib.Dec.{T, eqb, eqb→eq, ltb, ltb→lt}
use Rattle.lists.specs.Lists.{pick, range}
use Rattle.lists.proofs.Members.{range_in}
use Rattle.lists.proofs.Tests.{T_false, T_true, decide, eq→eqb, not_ltb→le}
use Rattle.counts.specs.Counting.{Link, Weight, behind, beside, count, link, weigh}
use Rattle.counts.specs.Trees.{unite, whole}
use Rattle.counts.specs.Matrix.{Matrix, absent, add, links, move_from, put, star, total}
use Rattle.counts.proofs.Laws.{Sided, count_apart, count_held, count_pair}
use Rattle.counts.proofs.Matrix.{add_row, links_held, put_column, put_row, put_same, total_branch, total_same}

-- NO NODE
pub total_none : (w : Matrix) → total w 0 ≡ 0
unfolding total links count whole range
total_none w = refl

-- ONE NODE
pub total_single : (w : Matrix) → total w 1 ≡ 1
unfolding total links star count whole range Rattle.lists.specs.Lists.all
total_single w = refl

-- A link that cannot be merged
pub total_dropped : (w : Matrix) (v x : ℕ) → x < v → (w v x).merged ≡ 0 → total w (suc v) ≡ (w v x).dropped * total (put w v x absent) (suc v)
total_dropped w v x h e = total_branch w v x h ∙ rw e (omega arith)

-- APART

sided_append : (side : ℕ → Bool) (l m : List Link) → Sided side l → Sided side m → Sided side (l ++ m)
sided_append side [] m a b = b
sided_append side (e ∷ l) m a b = (a.0, sided_append side l m a.1 b)

-- no link leads from one side to the other
abbrev pub Parted : (ℕ → Bool) → Matrix → ℕ → Type 0
Parted side w k = (a b : ℕ) → b < a → a < k → ((w a b).merged ≡ 0) ⊎ (side a ≡ side b)

star_sided : (side : ℕ → Bool) (w : Matrix) (v j n : ℕ) → ((i : ℕ) → j ≤ i → i < j + n → ((w v i).merged ≡ 0) ⊎ (side v ≡ side i)) → Sided side (star w v j n)
unfolding star
star_sided side w v j zero h = tt
star_sided side w v j (suc n) h = (h j (omega arith) (omega arith), star_sided side w v (suc j) n (λ i a b. h i (omega arith) (omega arith)))

links_sided : (side : ℕ → Bool) (w : Matrix) (k : ℕ) → Parted side w k → Sided side (links w k)
unfolding links
links_sided side w zero h = tt
links_sided side w (suc v) h = sided_append side (star w v 0 v) (links w v) (star_sided side w v 0 v (λ i a b. h v i (omega arith) (omega arith)))
    (links_sided side w v (λ a b i j. h a b i (omega arith)))

pub total_apart : (side : ℕ → Bool) (w : Matrix) (k : ℕ) → Parted side w k → (u v : ℕ) → u < k → v < k → ¬ (side u ≡ side v) → total w k ≡ 0
unfolding total
total_apart side w k h u v i j n = count_apart (range 0 k) side (λ u. u) (links w k) (links_sided side w k h) (λ a b e. ap side e)
    u v (range_in 0 k u (omega arith) (omega arith)) (range_in 0 k v (omega arith) (omega arith)) n

-- Links that nothing joins

weight_path : (p : Weight) (d m : ℕ) → p.dropped ≡ d → p.merged ≡ m → p ≡ weigh d m
weight_path p d m a b = ap₂ weigh a b

put_own : (w : Matrix) (a b : ℕ) (p : Weight) → p ≡ w a b → put w a b p ≡ w
put_own w a b p e = fun_ext (λ i. fun_ext (λ j. elim (ℕ_discrete i a) [
  | no n ↦ put_row w a b p i j n
  | yes q ↦ elim (ℕ_discrete j b) [
    | no n ↦ put_column w a b p i j n
    | yes s ↦ rw (q, s) (put_same w a b p ∙ e)
  ]
]))

beside_absent : (p : Weight) → beside p absent ≡ p
beside_absent p = sym (weight_path p _ _ (omega arith) (omega arith))

add_absent : (w : Matrix) (x y : ℕ) → add w x y absent ≡ w
add_absent w x y = elim (decide (ltb x y)) [
  | inl t ↦ rw ((T_true (ltb x y)).0 t) (put_own w y x (beside (w y x) absent) (beside_absent (w y x)))
  | inr f ↦ rw ((T_false (ltb x y)).0 f) (put_own w x y (beside (w x y) absent) (beside_absent (w x y)))
]

-- the links of v to n nodes from j on, but to x and y, join nothing
abbrev Bare : Matrix → ℕ → ℕ → ℕ → ℕ → ℕ → Type 0
Bare w v x y j n = (i : ℕ) → j ≤ i → i < j + n → ¬ (i ≡ x) → ¬ (i ≡ y) → w v i ≡ absent

move_none : (v x n j : ℕ) (w : Matrix) → Bare w v x x j n → move_from w v x j n ≡ w
unfolding move_from
move_none v x zero j w h = refl
move_none v x (suc n) j w h = elim (ℕ_discrete j x) [
  | yes e ↦ rw ((T_true (eqb j x)).0 (eq→eqb j x e)) (move_none v x n (suc j) w (λ i a b c d. h i (omega arith) (omega arith) c d))
  | no f ↦ rw ((T_false (eqb j x)).0 (λ t. f (eqb→eq j x t)), h j (omega arith) (omega arith) f f, add_absent w x j)
      (move_none v x n (suc j) w (λ i a b c d. h i (omega arith) (omega arith) c d))
]

move_one : (v x y : ℕ) → x < v → y < v → ¬ (x ≡ y) → (n j : ℕ) (w : Matrix) → j ≤ y → y < j + n → Bare w v x y j n → move_from w v x j n ≡ add w x y (w v y)
unfolding move_from
move_one v x y lx ly k zero j w a b h = absurd (omega arith)
move_one v x y lx ly k (suc n) j w a b h = elim (ℕ_discrete j y) [
  | yes e ↦ rw (e, (T_false (eqb y x)).0 (λ t. k (sym (eqb→eq y x t)))) (move_none v x n (suc y) (add w x y (w v y))
      (λ i c d f g. add_row w x y (w v y) v i lx ly ∙ h i (omega arith) (omega arith) f (λ z. omega arith)))
  | no e ↦ elim (ℕ_discrete j x) [
    | yes f ↦ rw ((T_true (eqb j x)).0 (eq→eqb j x f)) (move_one v x y lx ly k n (suc j) w (omega arith) (omega arith) (λ i c d g m. h i (omega arith) (omega arith) g m))
    | no f ↦ rw ((T_false (eqb j x)).0 (λ t. f (eqb→eq j x t)), h j (omega arith) (omega arith) f e, add_absent w x j)
        (move_one v x y lx ly k n (suc j) w (omega arith) (omega arith) (λ i c d g m. h i (omega arith) (omega arith) g m))
  ]
]

-- ONE LINK
pub total_one : (w : Matrix) (v x : ℕ) → x < v → ((i : ℕ) → i < v → ¬ (i ≡ x) → w v i ≡ absent) → total w (suc v) ≡ (w v x).merged * total w v
total_one w v x h bare = total_branch w v x h ∙ rw (alone, move_none v x v 0 (put w v x absent) (λ i a b c d. put_column w v x absent v i c ∙ bare i (omega arith) c), same) (omega arith)
  where
    here_absent : (i : ℕ) → i < v → (put w v x absent) v i ≡ absent
    here_absent i j = elim (ℕ_discrete i x) [ yes e ↦ rw e (put_same w v x absent) | no n ↦ put_column w v x absent v i n ∙ bare i j n ]

    differ : ¬ (eqb v v ≡ eqb x v)
    differ e = let d : x ≡ v = eqb→eq x v (subst T e (eq→eqb v v refl)) in omega arith

    inner : (a b : ℕ) → b < a → a < suc v → ¬ (a ≡ v) → eqb a v ≡ eqb b v
    inner a b i j n = (T_false (eqb a v)).0 (λ t. n (eqb→eq a v t)) ∙ sym ((T_false (eqb b v)).0 (λ t. let e : b ≡ v = eqb→eq b v t in omega arith))

    alone : total (put w v x absent) (suc v) ≡ 0
    alone = total_apart (λ u. eqb u v) (put w v x absent) (suc v) (λ a b i j. elim (ℕ_discrete a v) [
      | yes e ↦ inl (rw e (ap (λ (p : Weight). p.merged) (here_absent b (omega arith))))
      | no n ↦ inr (inner a b i j n)
    ]) v x (omega arith) (omega arith) differ

    same : total (put w v x absent) v ≡ total w v
    same = total_same (put w v x absent) w v (λ a b i j. put_row w v x absent a b (λ e. omega arith))

-- TWO LINKS

-- the weight between a and b makes the count a sum
pub total_linear : (w : Matrix) (k a b : ℕ) → b < a → a < k
    → (p q : ℕ) × (total w k ≡ (w a b).dropped * p + (w a b).merged * q)
    × ((u : Weight) → total (put w a b u) k ≡ u.dropped * p + u.merged * q)
unfolding total
total_linear w k a b i j =
    let ns = range 0 k in
    let (rest, h, f) = links_held w k a b i j in (
      count ns (λ u. u) rest,
      count ns (unite (λ u. u) a b) rest,
      count_held ns h (λ u. u) ∙ count_pair ns (λ u. u) (link a b (w a b)) rest (λ e. omega arith),
      λ u. count_held ns (f u) (λ u. u) ∙ count_pair ns (λ u. u) (link a b u) rest (λ e. omega arith),
    )

-- a link added between x and y makes the count a sum
total_add : (w : Matrix) (k x y : ℕ) → x < k → y < k → ¬ (x ≡ y)
    → (d m p q : ℕ) × (total w k ≡ d * p + m * q) × ((u : Weight) → total (add w x y u) k ≡ (d * u.dropped) * p + (d * u.merged + m * u.dropped) * q)
total_add w k x y i j n = elim (decide (ltb x y)) [
  | inl t ↦ let (p, q, e, f) = total_linear w k y x (ltb→lt x y t) j in
      ((w y x).dropped, (w y x).merged, p, q, e, λ u. rw ((T_true (ltb x y)).0 t) (f (beside (w y x) u)))
  | inr k ↦ let (p, q, e, f) = total_linear w _ x y (omega (arith, not_ltb→le x y k)) i in
      ((w x y).dropped, (w x y).merged, p, q, e, λ u. rw ((T_false (ltb x y)).0 k) (f (beside (w x y) u)))
]

put_both : (w z : Matrix) (a b : ℕ) (p q : Weight) (i j : ℕ) → p ≡ q → w i j ≡ z i j → put w a b p i j ≡ put z a b q i j
put_both w z a b p q i j e f = ap₂ (λ (p u : Weight). pick (eqb i a && eqb j b) p u) e f

-- a link added to weights that are the same
pub add_both : (w z : Matrix) (x y : ℕ) (p : Weight) (k : ℕ) → x < k → y < k → ¬ (x ≡ y) → ((a b : ℕ) → b < a → a < k → w a b ≡ z a b)
    → (a b : ℕ) → b < a → a < k → add w x y p a b ≡ add z x y p a b
add_both w z x y p k lx ly n h a b i j = elim (decide (ltb x y)) [
  | inl t ↦ rw ((T_true (ltb x y)).0 t) (put_both w z y x (beside (w y x) p) (beside (z y x) p) a b (ap (λ (u : Weight). beside u p) (h y x (ltb→lt x y t) ly)) (h a b i j))
  | inr f ↦ rw ((T_false (ltb x y)).0 f) (put_both w z x y (beside (w x y) p) (beside (z x y) p) a b (ap (λ (u : Weight). beside u p) (h x y (omega (arith, not_ltb→le x y f)) lx)) (h a b i j))
]

pub total_two : (w : Matrix) (v x y : ℕ) → x < v → y < v → ¬ (x ≡ y) → ((i : ℕ) → i < v → ¬ (i ≡ x) → ¬ (i ≡ y) → w v i ≡ absent)
    → total w (suc v) ≡ total (add w x y (behind (w v x) (w v y))) v
total_two w v x y lx ly k bare =
    let (d, m, p, q, e, f) = total_add w v x y lx ly k in
    total_branch w v x lx
    ∙ rw (
      total_one (put w v x absent) v y ly others,
      other_y,
      same,
      move_one v x y lx ly k v 0 (put w v x absent) (omega arith) (omega arith) (λ i a b c g. put_column w v x absent v i c ∙ bare i (omega arith) c g),
      other_y,
      added,
      e,
      f (w v y),
      f (behind (w v x) (w v y)),
    ) (omega arith)
  where
    other_y : (put w v x absent) v y ≡ w v y
    other_y = put_column w v x absent v y (λ e. k (sym e))

    others : (i : ℕ) → i < v → ¬ (i ≡ y) → (put w v x absent) v i ≡ absent
    others i j n = elim (ℕ_discrete i x) [ yes e ↦ rw e (put_same w v x absent) | no c ↦ put_column w v x absent v i c ∙ bare i j c n ]

    lower : (a b : ℕ) → b < a → a < v → (put w v x absent) a b ≡ w a b
    lower a b i j = put_row w v x absent a b (λ e. omega arith)

    same : total (put w v x absent) v ≡ total w v
    same = total_same (put w v x absent) w v lower

    added : total (add (put w v x absent) x y (w v y)) v ≡ total (add w x y (w v y)) v
    added = total_same (add (put w v x absent) x y (w v y)) (add w x y (w v y)) v (add_both (put w v x absent) w x y (w v y) v lx ly k lower)

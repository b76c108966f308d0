-- The order of vectors, `vector_less`, is a strict total order (`vector_order`), and equality of vectors is decided (`vector-eq?`).
-- `none_larger` and `some_smaller` say what they are named for, component by component (`none_larger_exactly`, `some_smaller_exactly`).
-- Dominance is a strict partial order on vectors of one length (`dominates_irrefl`, `dominates_trans`), what dominates is less
-- (`dominates_less`), and `none_larger` tests in one walk whether a vector equals or dominates another (`none_larger_cases`).
use mathlib.Core.Path.{◌∙◌, ◌≡◌, ap, ap₂, refl, sym}
use mathlib.Core.Logic.{◌↔◌, ◌⊎◌, inl, inr, ⊎_elim}
use mathlib.Core.Bool.{Bool}
use mathlib.Core.List.{List, [], ◌∷◌}
use Prim.Native.Nat.{◌<◌, ◌≤◌, suc, zero, ℕ}
use native.Mathlib.Decide.{dec_lt}
use native.Mathlib.Omega.{arith}
use lib.Dec.{T, eqb, eqb→eq, leb, leb→le, le→leb, ltb, ltb→lt, lt→ltb}
use lib.ListN.{get_or, length}
use lib.Seq.{ext_get_or}
use Rattle.lists.specs.Lists.{both, either}
use Rattle.lists.proofs.Orders.{Everywhere, StrictTotal, compared, is_equal, is_greater, is_less, less_ne}
use Rattle.lists.proofs.Tests.{T-both, T-either, decide, eq→eqb, not_ltb→le}
use Rattle.costs.specs.Costs.{dominates, none_larger, some_smaller, vector_less}

-- one step of `vector_less`
lex_out : (x y : ℕ) (b : Bool) → T (either (ltb x y) (both (eqb x y) b)) → (x < y) ⊎ ((x ≡ y) × T b)
lex_out x y b t =
    ⊎_elim (λ h. inl (ltb→lt x y h)) (λ h. let (e, s) = (T-both (eqb x y) b).0 h in inr (eqb→eq x y e, s)) ((T-either (ltb x y) (both (eqb x y) b)).0 t)

lex_smaller : (x y : ℕ) (b : Bool) → x < y → T (either (ltb x y) (both (eqb x y) b))
lex_smaller x y b h = (T-either (ltb x y) (both (eqb x y) b)).1 (inl (lt→ltb x y h))

lex_equal : (x y : ℕ) (b : Bool) → x ≡ y → T b → T (either (ltb x y) (both (eqb x y) b))
lex_equal x y b e t = (T-either (ltb x y) (both (eqb x y) b)).1 (inr ((T-both (eqb x y) b).1 (eq→eqb x y e, t)))

vector_irrefl : (v : List ℕ) → ¬ T (vector_less v v)
unfolding vector_less
vector_irrefl [] t = t
vector_irrefl (x ∷ v) t =
    ⊎_elim (λ (h : x < x). omega arith) (λ (h : (x ≡ x) × T (vector_less v v)). vector_irrefl v h.1) (lex_out x x (vector_less v v) t)

vector_trans : (u v w : List ℕ) → T (vector_less u v) → T (vector_less v w) → T (vector_less u w)
unfolding vector_less
vector_trans [] [] w p q = absurd p
vector_trans [] (y ∷ v) [] p q = absurd q
vector_trans [] (y ∷ v) (z ∷ w) p q = tt
vector_trans (x ∷ u) [] w p q = absurd p
vector_trans (x ∷ u) (y ∷ v) [] p q = absurd q
vector_trans (x ∷ u) (y ∷ v) (z ∷ w) p q = step (vector_trans u v w) (lex_out x y (vector_less u v) p) (lex_out y z (vector_less v w) q)
  where
    step : (T (vector_less u v) → T (vector_less v w) → T (vector_less u w))
        → (x < y) ⊎ ((x ≡ y) × T (vector_less u v)) → (y < z) ⊎ ((y ≡ z) × T (vector_less v w)) → T (vector_less (x ∷ u) (z ∷ w))
    step below (inl h) (inl k) = lex_smaller x z (vector_less u w) (omega arith)
    step below (inl h) (inr k) = lex_smaller x z (vector_less u w) (omega arith)
    step below (inr h) (inl k) = lex_smaller x z (vector_less u w) (omega arith)
    step below (inr h) (inr k) = lex_equal x z (vector_less u w) (omega arith) (below h.1 k.1)

vector_total : (v w : List ℕ) → ¬ T (vector_less v w) → ¬ T (vector_less w v) → v ≡ w
unfolding vector_less
vector_total [] [] n n' = refl
vector_total [] (y ∷ w) n n' = absurd (n tt)
vector_total (x ∷ v) [] n n' = absurd (n' tt)
vector_total (x ∷ v) (y ∷ w) n n' =
    ap₂ ◌∷◌ heads (vector_total v w (λ t. n (lex_equal x y (vector_less v w) heads t)) (λ t. n' (lex_equal y x (vector_less w v) (sym heads) t)))
  where
    equal : ¬ (x < y) → ¬ (y < x) → x ≡ y
    equal h k = omega arith

    heads : x ≡ y
    heads = equal (λ h. n (lex_smaller x y (vector_less v w) h)) (λ h. n' (lex_smaller y x (vector_less w v) h))

-- `vector_less` is a strict total order.
pub vector_order : StrictTotal Everywhere vector_less
vector_order = record { irrefl = vector_irrefl; trans = vector_trans; total = λ v w _ _. vector_total v w }

pub vector_eq? : (v w : List ℕ) → Dec (v ≡ w)
vector_eq? v w =
    elim (compared vector_order v w tt tt)
    [ is_less h ↦ no (less_ne vector_order h) | is_equal e ↦ yes e | is_greater h ↦ no (λ e. less_ne vector_order h (sym e)) ]

-- the head of `none_larger`
none_larger_head : (x y : ℕ) (b : Bool) → T (both (leb x y) b) → x ≤ y
none_larger_head x y b t = leb→le x y ((T-both (leb x y) b).0 t).0

-- The vectors are of one length, and no component is larger.
pub none_larger_exactly : (v w : List ℕ) → T (none_larger v w) ↔ ((length v ≡ length w) × ((j : ℕ) → j < length v → get_or v j 0 ≤ get_or w j 0))
unfolding none_larger
none_larger_exactly [] [] = (λ t. (refl, λ j h. omega arith), λ p. tt)
none_larger_exactly [] (y ∷ w) = (λ t. absurd t, λ p. omega arith)
none_larger_exactly (x ∷ v) [] = (λ t. absurd t, λ p. omega arith)
none_larger_exactly (x ∷ v) (y ∷ w) = (
  λ t. let (e, h) = (none_larger_exactly v w).0 ((T-both (leb x y) (none_larger v w)).0 t).1 in (ap suc e, each (none_larger_head x y (none_larger v w) t) h),
  λ (e, h). (T-both (leb x y) (none_larger v w)).1 (le→leb x y (h 0 (omega arith)), (none_larger_exactly v w).1 (omega arith, λ j k. h (suc j) (omega arith))),
)
  where
    each : x ≤ y → ((j : ℕ) → j < length v → get_or v j 0 ≤ get_or w j 0) → (j : ℕ) → j < length (x ∷ v) → get_or (x ∷ v) j 0 ≤ get_or (y ∷ w) j 0
    each l h zero k = l
    each l h (suc j) k = h j (omega arith)

-- One component is smaller; past its end a vector reads as 0, below which none is.
pub some_smaller_exactly : (v w : List ℕ) → T (some_smaller v w) ↔ ((j : ℕ) × (j < length v) × (get_or v j 0 < get_or w j 0))
unfolding some_smaller
some_smaller_exactly [] w = (λ t. absurd t, λ (j, h, k). omega arith)
some_smaller_exactly (x ∷ v) [] = (λ t. absurd t, λ (j, h, k). omega arith)
some_smaller_exactly (x ∷ v) (y ∷ w) = (
  λ t. ⊎_elim (λ (l : T (ltb x y)). (0, omega arith, ltb→lt x y l))
      (λ (r : T (some_smaller v w)). let (j, h, k) = (some_smaller_exactly v w).0 r in (suc j, omega arith, k)) ((T-either (ltb x y) (some_smaller v w)).0 t),
  found (some_smaller_exactly v w).1,
)
  where
    found : ((j : ℕ) × (j < length v) × (get_or v j 0 < get_or w j 0) → T (some_smaller v w))
        → (j : ℕ) × (j < length (x ∷ v)) × (get_or (x ∷ v) j 0 < get_or (y ∷ w) j 0) → T (either (ltb x y) (some_smaller v w))
    found behind (zero, h, k) = (T-either (ltb x y) (some_smaller v w)).1 (inl (lt→ltb x y k))
    found behind (suc j, h, k) = (T-either (ltb x y) (some_smaller v w)).1 (inr (behind (j, omega arith, k)))

-- `none_larger` is a partial order on vectors of one length.
pub none_larger_refl : (v : List ℕ) → T (none_larger v v)
none_larger_refl v = (none_larger_exactly v v).1 (refl, λ j h. omega arith)

pub none_larger_trans : (u v w : List ℕ) → length u ≡ length v → T (none_larger u v) → T (none_larger v w) → T (none_larger u w)
none_larger_trans u v w e p q =
    let (f, h) = (none_larger_exactly v w).0 q in
    (none_larger_exactly u w).1 (e ∙ f, λ j k. omega (arith, ((none_larger_exactly u v).0 p).1 j k, h j (omega arith)))

-- not larger, then smaller somewhere: smaller somewhere
none_larger_some_smaller : (u v w : List ℕ) → length u ≡ length v → T (none_larger u v) → T (some_smaller v w) → T (some_smaller u w)
none_larger_some_smaller u v w e p q =
    let (j, h, k) = (some_smaller_exactly v w).0 q in
    (some_smaller_exactly u w).1 (j, omega arith, omega (arith, ((none_larger_exactly u v).0 p).1 j (omega arith)))

some_smaller_irrefl : (v : List ℕ) → ¬ T (some_smaller v v)
some_smaller_irrefl v t = let (j, h, k) = (some_smaller_exactly v v).0 t in omega arith

-- `dominates` is a strict partial order on vectors of one length.
pub dominates_none_larger : (v w : List ℕ) → T (dominates v w) → T (none_larger v w)
dominates_none_larger v w t = ((T-both (none_larger v w) (some_smaller v w)).0 t).0

pub dominates_some_smaller : (v w : List ℕ) → T (dominates v w) → T (some_smaller v w)
dominates_some_smaller v w t = ((T-both (none_larger v w) (some_smaller v w)).0 t).1

pub dominates_irrefl : (v : List ℕ) → ¬ T (dominates v v)
dominates_irrefl v t = some_smaller_irrefl v (dominates_some_smaller v v t)

pub dominates_trans : (u v w : List ℕ) → length u ≡ length v → T (dominates u v) → T (dominates v w) → T (dominates u w)
dominates_trans u v w e p q =
    (T-both (none_larger u w) (some_smaller u w)).1 (
      none_larger_trans u v w e (dominates_none_larger u v p) (dominates_none_larger v w q),
      none_larger_some_smaller u v w e (dominates_none_larger u v p) (dominates_some_smaller v w q),
    )

smaller_vector_less : (v w : List ℕ) → T (none_larger v w) → T (some_smaller v w) → T (vector_less v w)
unfolding none_larger some_smaller vector_less
smaller_vector_less [] w p q = absurd q
smaller_vector_less (x ∷ v) [] p q = absurd q
smaller_vector_less (x ∷ v) (y ∷ w) p q = ⊎_elim
    (λ (h : T (ltb x y)). (T-either (ltb x y) (both (eqb x y) (vector_less v w))).1 (inl h))
    (λ (h : ¬ T (ltb x y)). lex_equal x y (vector_less v w) (omega (arith, none_larger_head x y (none_larger v w) p, not_ltb→le x y h))
    (smaller_vector_less v w ((T-both (leb x y) (none_larger v w)).0 p).1
    (⊎_elim (λ (k : T (ltb x y)). absurd (h k)) (λ (k : T (some_smaller v w)). k) ((T-either (ltb x y) (some_smaller v w)).0 q))))
    (decide (ltb x y))

-- What dominates a vector is less than it, whatever their lengths.
pub dominates_less : (v w : List ℕ) → T (dominates v w) → T (vector_less v w)
dominates_less v w t = smaller_vector_less v w (dominates_none_larger v w t) (dominates_some_smaller v w t)

none_larger_equal : (v w : List ℕ) → length v ≡ length w → T (none_larger v w) → (¬ T (some_smaller v w)) → v ≡ w
none_larger_equal v w e p n = ext_get_or 0 v w e (λ j h. elim (dec_lt (get_or v j 0) (get_or w j 0)) [
  | yes l ↦ absurd (n ((some_smaller_exactly v w).1 (j, h, l)))
  | no l ↦ omega (arith, ((none_larger_exactly v w).0 p).1 j h)
])

-- Not larger is: equal, or dominates.
pub none_larger_cases : (v w : List ℕ) → length v ≡ length w → T (none_larger v w) → (v ≡ w) ⊎ T (dominates v w)
none_larger_cases v w e p =
    ⊎_elim (λ (h : T (some_smaller v w)). inr ((T-both (none_larger v w) (some_smaller v w)).1 (p, h)))
    (λ (h : ¬ T (some_smaller v w)). inl (none_larger_equal v w e p h)) (decide (some_smaller v w))

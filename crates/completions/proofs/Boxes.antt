-- Boxes of vectors: component by component (`inside_cons`, `inside_at_lem`), with a limit set lower (`inside_set`, `inside_unset`), what is not larger than a
-- vector of the box (`inside_down`), and weighted sums of the components (`inside_dot`).
use mathlib.Core.Path.{◌≡◌, refl}
use mathlib.Core.Logic.{◌↔◌}
use mathlib.Core.List.{List, [], ◌∷◌, map}
use Prim.Native.Nat.{◌<◌, ◌≤◌, pred, suc, zero, ℕ}
use native.Mathlib.Nat.{mul-le-mul_right}
use native.Mathlib.Omega.{arith}
use lib.Dec.{T, leb, leb→le, ltb, ltb→lt, le→leb, lt→ltb}
use lib.ListN.{get_or, length, set}
use Rattle.lists.proofs.Tests.{T-both}
use Rattle.costs.specs.Costs.{none_larger}
use Rattle.completions.specs.Boxes.{dot, inside}

-- Component by component

pub inside_cons : (z y : ℕ) (limits v : List ℕ) → T (inside (z ∷ limits) (y ∷ v)) ↔ ((y < z) × T (inside limits v))
unfolding inside
inside_cons z y limits v = (
  λ t. let (a, b) = (T-both (ltb y z) (inside limits v)).0 t in (ltb→lt y z a, b),
  λ (h, b). (T-both (ltb y z) (inside limits v)).1 (lt→ltb y z h, b),
)

pub larger_cons : (x y : ℕ) (l v : List ℕ) → x ≤ y → T (none_larger l v) → T (none_larger (x ∷ l) (y ∷ v))
unfolding none_larger
larger_cons x y l v h t = (T-both (leb x y) (none_larger l v)).1 (le→leb x y h, t)

pub larger_out : (x y : ℕ) (l v : List ℕ) → T (none_larger (x ∷ l) (y ∷ v)) → (x ≤ y) × T (none_larger l v)
unfolding none_larger
larger_out x y l v t = let (a, b) = (T-both (leb x y) (none_larger l v)).0 t in (leb→le x y a, b)

-- a box and its vectors have as many components
pub inside_length : (limits v : List ℕ) → T (inside limits v) → length limits ≡ length v
unfolding inside
inside_length [] [] t = refl
inside_length [] (y ∷ v) t = absurd t
inside_length (x ∷ limits) [] t = absurd t
inside_length (x ∷ limits) (y ∷ v) t = omega (arith, inside_length limits v ((inside_cons x y limits v).0 t).1)

-- each component is below its limit
pub inside_at_lem : (limits v : List ℕ) (c : ℕ) → T (inside limits v) → c < length v → get_or v c 0 < get_or limits c 0
unfolding inside
inside_at_lem [] [] c t h = absurd (omega arith)
inside_at_lem [] (y ∷ v) c t h = absurd t
inside_at_lem (z ∷ limits) [] c t h = absurd t
inside_at_lem (z ∷ limits) (y ∷ v) zero t h = ((inside_cons z y limits v).0 t).0
inside_at_lem (z ∷ limits) (y ∷ v) (suc c) t h = inside_at_lem limits v c ((inside_cons z y limits v).0 t).1 (omega arith)

-- a limit set lower
pub inside_set : (limits v : List ℕ) (c x : ℕ) → T (inside limits v) → get_or v c 0 < x → T (inside (set limits c x) v)
unfolding inside
inside_set [] [] c x t h = tt
inside_set [] (y ∷ v) c x t h = absurd t
inside_set (z ∷ limits) [] c x t h = absurd t
inside_set (z ∷ limits) (y ∷ v) zero x t h = (inside_cons x y limits v).1 (h, ((inside_cons z y limits v).0 t).1)
inside_set (z ∷ limits) (y ∷ v) (suc c) x t h =
    let (a, b) = (inside_cons z y limits v).0 t in (inside_cons z y (set limits c x) v).1 (a, inside_set limits v c x b h)

-- what is below a limit set so low that a vector of the box allows it
pub inside_unset : (limits u v : List ℕ) (c x : ℕ) → T (inside limits u) → x ≤ suc (get_or u c 0) → c < length limits → T (inside (set limits c x) v)
    → T (inside limits v) × (get_or v c 0 < x)
unfolding inside
inside_unset [] u v c x i h l t = absurd (omega arith)
inside_unset (z ∷ limits) [] v c x i h l t = absurd i
inside_unset (z ∷ limits) (y ∷ u) [] zero x i h l t = absurd t
inside_unset (z ∷ limits) (y ∷ u) [] (suc c) x i h l t = absurd t
inside_unset (z ∷ limits) (y ∷ u) (k ∷ v) zero x i h l t =
    let (a, b) = (inside_cons x k limits v).0 t in
    let (d, e) = (inside_cons z y limits u).0 i in
    ((inside_cons z k limits v).1 (omega arith, b), a)
inside_unset (z ∷ limits) (y ∷ u) (k ∷ v) (suc c) x i h l t =
    let (a, b) = (inside_cons z k (set limits c x) v).0 t in
    let (m, n) = inside_unset limits u v c x ((inside_cons z y limits u).0 i).1 h (omega arith) b in
    ((inside_cons z k limits v).1 (a, m), n)

-- what is not larger than a vector of the box is in it
pub inside_down : (limits l v : List ℕ) → T (none_larger l v) → T (inside limits v) → T (inside limits l)
unfolding inside none_larger
inside_down [] [] v s t = tt
inside_down [] (x ∷ l) [] s t = absurd s
inside_down [] (x ∷ l) (y ∷ v) s t = absurd t
inside_down (z ∷ limits) l [] s t = absurd t
inside_down (z ∷ limits) [] (y ∷ v) s t = absurd s
inside_down (z ∷ limits) (x ∷ l) (y ∷ v) s t =
    let (a, b) = larger_out x y l v s in
    let (c, d) = (inside_cons z y limits v).0 t in
    (inside_cons z x limits l).1 (omega arith, inside_down limits l v b d)

-- no weighted sum is larger than at the limits less one
pub inside_dot : (factors limits v : List ℕ) → T (inside limits v) → dot factors v ≤ dot factors (map pred limits)
unfolding dot inside
inside_dot [] limits v t = omega arith
inside_dot (a ∷ factors) [] [] t = omega arith
inside_dot (a ∷ factors) [] (y ∷ v) t = absurd t
inside_dot (a ∷ factors) (z ∷ limits) [] t = absurd t
inside_dot (a ∷ factors) (z ∷ limits) (y ∷ v) t =
    let (c, d) = (inside_cons z y limits v).0 t in
    let less : y ≤ pred z = omega arith in
    omega (arith, mul-le-mul_right a less, inside_dot factors limits v d)

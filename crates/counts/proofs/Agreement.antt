-- Matrices that agree among the first k nodes: they count alike (`held_agree`), a node is merged along a link that is dropped (`merged_along`, `merged_must`), and the
-- code's loops, turn by turn (`move_start`, `move_skip`, `move_add`, `move_end`, `fill_turn`, `fill_agree`).
use mathlib.Core.Path.{◌∙◌, ◌≡◌, ap, ap₂, refl, sym}
use mathlib.Core.Logic.{inl, inr}
use mathlib.Core.Bool.{Bool, ◌&&◌}
use mathlib.Core.List.{List, [], ◌∷◌}
use Prim.Native.Nat.{◌*◌, ◌+◌, ◌-◌, ◌<◌, ◌≤◌, min, pred, suc, zero, ℕ}
use native.Mathlib.Decide.{ℕ_discrete}
use native.Mathlib.Numerals.{add-one}
use native.Mathlib.Omega.{arith}
use lib.Dec.{eqb, eqb→eq, ltb, ltb→lt}
use lib.ListN.{drop, length}
use lib.Seq.{drop-cons}
use Rattle.lists.specs.Lists.{pick}
use Rattle.lists.proofs.Members.{range_out}
use Rattle.lists.proofs.Tests.{T_false, T_true, decide, eq→eqb, not_ltb→le}
use Rattle.graph.specs.Graph.{Graph, first_end, second_end}
use Rattle.counts.specs.Counting.{Weight, beside}
use Rattle.counts.specs.Matrix.{Agree, Matrix, absent, add_held, held, held_total, move_held, put}
use Rattle.costs.specs.Network.{State, «open»}
use Rattle.counts.specs.States.{fill_held, state_at, weight_of}
use Rattle.counts.proofs.Fill.{Between, first_in_lem, second_in}
use Rattle.counts.proofs.HeldSteps.{held_must}
use Rattle.counts.proofs.Matrix.{total_same}

pub agree_trans : {w z u : Matrix} {k : ℕ} → Agree w z k → Agree z u k → Agree w u k
agree_trans h g a b i j = h a b i j ∙ g a b i j

pub held_agree : (L so f : ℕ) (w z : Matrix) (k : ℕ) → Agree w z k → held_total L so f w k ≡ held_total L so f z k
unfolding held_total
held_agree L so f w z k h = ap (λ (x : ℕ). min L (so + f * x)) (total_same w z k h)

-- Steps on matrices that agree

pub put_agree : (w z : Matrix) (a b : ℕ) (p q : Weight) (k : ℕ) → p ≡ q → Agree w z k → Agree (put w a b p) (put z a b q) k
put_agree w z a b p q k e h i j l m = ap₂ (λ (x y : Weight). pick (eqb i a && eqb j b) x y) e (h i j l m)

pub add_agree : (L : ℕ) (w z : Matrix) (x y : ℕ) (p q : Weight) (k : ℕ) → x < k → y < k → ¬ (x ≡ y) → p ≡ q → Agree w z k → Agree (add_held L w x y p) (add_held L z x y q) k
add_agree L w z x y p q k i j n e h = elim (decide (ltb x y)) [
  | inl t ↦ rw ((T_true (ltb x y)).0 t) (put_agree w z y x (held L (beside (w y x) p)) (held L (beside (z y x) q)) k
      (ap₂ (λ (u s : Weight). held L (beside u s)) (h y x (ltb→lt x y t) j) e) h)
  | inr f ↦ rw ((T_false (ltb x y)).0 f) (put_agree w z x y (held L (beside (w x y) p)) (held L (beside (z x y) q)) k
      (ap₂ (λ (u s : Weight). held L (beside u s)) (h x y (omega (arith, not_ltb→le x y f)) i) e) h)
]

pub move_agree : (L v x : ℕ) → x < v → (n j : ℕ) → j + n ≤ v → (w z : Matrix) → Agree w z (suc v) → Agree (move_held L w v x j n) (move_held L z v x j n) (suc v)
unfolding move_held
move_agree L v x l zero j m w z h = h
move_agree L v x l (suc n) j m w z h = elim (ℕ_discrete j x) [
  | yes e ↦ rw ((T_true (eqb j x)).0 (eq→eqb j x e)) (move_agree L v x l n (suc j) (omega arith) w z h)
  | no d ↦ rw ((T_false (eqb j x)).0 (λ t. d (eqb→eq j x t))) (move_agree L v x l n (suc j) (omega arith) (add_held L w x j (w v j)) (add_held L z x j (z v j))
      (add_agree L w z x j (w v j) (z v j) (suc v) (omega arith) (omega arith) (λ e. d (sym e)) (h v j (omega arith) (omega arith)) h))
]

-- THE LINK of v to x dropped: w is z without it, among the first 32 nodes
module _ (w z : Matrix) (v x : ℕ) (low : x < v) (high : v < 32) (gone : Agree w (put z v x absent) 32) where
  -- what is then counted by merging
  pub merged_along : (L r so f t : ℕ) → t ≡ min L (f * (z v x).merged) → r ≡ held_total L so t (move_held L w v x 0 v) v
      → r ≡ held_total L so (min L (f * (z v x).merged)) (move_held L (put z v x absent) v x 0 v) v
  merged_along L r so f t p q = q ∙ ap (λ (y : ℕ). held_total L so y (move_held L w v x 0 v) v) p
      ∙ held_agree L so (min L (f * (z v x).merged)) (move_held L w v x 0 v) (move_held L (put z v x absent) v x 0 v) v
      (λ i j a b. move_agree L v x low v 0 (omega arith) w (put z v x absent) (λ i j a b. gone i j a (omega arith)) i j a (omega arith))

  -- it cannot be dropped
  pub merged_must : (L r so f t : ℕ) → (z v x).dropped ≡ 0 → t ≡ min L (f * (z v x).merged) → r ≡ held_total L so t (move_held L w v x 0 v) v
      → r ≡ held_total L so f z (suc v)
  merged_must L r so f t e p q = merged_along L r so f t p q ∙ sym (held_must L so f z v x low e)

-- THE LOOP that moves the links of v to x, at link j: `move_held L w v x j (v - j)` is what is left to do

pub move_start : (L : ℕ) (w : Matrix) (v x : ℕ) → move_held L w v x 0 v ≡ move_held L w v x 0 (v - 0)
move_start L w v x = let e : v ≡ v - 0 = omega arith in ap (move_held L w v x 0) e

turn : (v j : ℕ) → j < v → v - j ≡ suc (v - (j + 1))
turn v j h = omega arith

pub move_skip : (L : ℕ) (w : Matrix) (v x j : ℕ) → j < v → j ≡ x → move_held L w v x j (v - j) ≡ move_held L w v x (j + 1) (v - (j + 1))
unfolding move_held
move_skip L w v x j h e = ap (move_held L w v x j) (turn v j h) ∙ ap (λ (b : Bool). move_held L (pick b w (add_held L w x j (w v j))) v x (suc j) (v - (j + 1))) ((T_true (eqb j x)).0 (eq→eqb j x e))
    ∙ ap (λ (i : ℕ). move_held L w v x i (v - (j + 1))) (sym (add-one j))

pub move_add : (L : ℕ) (w : Matrix) (v x j : ℕ) → j < v → ¬ (j ≡ x) → move_held L w v x j (v - j) ≡ move_held L (add_held L w x j (w v j)) v x (j + 1) (v - (j + 1))
unfolding move_held
move_add L w v x j h d = ap (move_held L w v x j) (turn v j h)
    ∙ ap (λ (b : Bool). move_held L (pick b w (add_held L w x j (w v j))) v x (suc j) (v - (j + 1))) ((T_false (eqb j x)).0 (λ t. d (eqb→eq j x t)))
    ∙ ap (λ (i : ℕ). move_held L (add_held L w x j (w v j)) v x i (v - (j + 1))) (sym (add-one j))

pub move_end : (L : ℕ) (w : Matrix) (v x j : ℕ) → v ≤ j → move_held L w v x j (v - j) ≡ w
unfolding move_held
move_end L w v x j h = let e : v - j ≡ 0 = omega arith in ap (move_held L w v x j) e

-- THE LOOP that fills the matrix with the rows, at row r

pub fill_turn : (L : ℕ) (g : Graph) (ss : List State) (r : ℕ) (w : Matrix) → r < length ss
    → fill_held L g r (drop r ss) w ≡ fill_held L g (r + 1) (drop (r + 1) ss) (add_held L w (pred (first_end g r)) (pred (second_end g r)) (weight_of (state_at ss r)))
unfolding fill_held
fill_turn L g ss r w h = ap (λ (l : List State). fill_held L g r l w) (drop-cons ss r «open» h)
    ∙ ap (λ (i : ℕ). fill_held L g i (drop i ss) (add_held L w (pred (first_end g r)) (pred (second_end g r)) (weight_of (state_at ss r)))) (sym (add-one r))

pub fill_agree : (L : ℕ) (g : Graph) (n : ℕ) → Between g n → (k : ℕ) → n ≤ k → (ss : List State) (r : ℕ) → r + length ss ≤ length g.first_ends → (w z : Matrix) → Agree w z k
    → Agree (fill_held L g r ss w) (fill_held L g r ss z) k
unfolding fill_held
fill_agree L g n b k m [] r l w z h = h
fill_agree L g n b k m (s ∷ ss) r l w z h =
    let low : r < length g.first_ends = omega arith in
    let i = range_out 1 n (first_in_lem g n b r low) in
    let j = range_out 1 n (second_in g n b r low) in
    let d = b.differ r low in
    fill_agree L g n b k m ss (suc r) (omega arith) _ _ (add_agree L w z (pred (first_end g r)) (pred (second_end g r)) (weight_of s) (weight_of s) k
    (omega arith) (omega arith) (λ e. d (omega arith)) refl h)

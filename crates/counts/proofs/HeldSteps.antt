-- The steps of the count with everything held at a limit L, one law for each step of the code. `held_total L so f w k` is what a call answers: so is the
-- count so far, f a factor, w the weights and k how many nodes are left.
use mathlib.Core.Path.{◌∙◌, ◌≡◌, ap, sym}
use mathlib.Core.Logic.{inl, inr}
use mathlib.Core.List.{List, [], ◌∷◌}
use Prim.Native.Nat.{◌*◌, ◌+◌, ◌<◌, ◌≤◌, min, pred, suc, zero, ℕ}
use native.Mathlib.Decide.{ℕ_discrete}
use native.Mathlib.Omega.{arith}
use lib.Dec.{eqb, eqb→eq, ltb, ltb→lt}
use lib.ListN.{length}
use Rattle.lists.proofs.Members.{range_out}
use Rattle.lists.proofs.Tests.{T_false, T_true, decide, eq→eqb, not_ltb→le}
use Rattle.graph.specs.Graph.{Graph, first_end, second_end}
use Rattle.counts.specs.Counting.{Weight, behind, beside}
use Rattle.counts.specs.Matrix.{Matrix, absent, add, add_held, held, held_total, move_from, move_held, put, total}
use Rattle.costs.specs.Network.{State}
use Rattle.counts.specs.States.{empty, fill, fill_from, fill_held, link_count, weight_of}
use Rattle.counts.proofs.Fill.{Between, fill_total, first_in_lem, second_in}
use Rattle.counts.proofs.Held.{NearMatrix, NearWeight, held_near, held_weight, near_add, near_beside, near_held, near_min, near_mul, near_refl, near_trans, near_weight, total_near}
use Rattle.counts.proofs.Matrix.{put_column, put_row, put_same, total_branch}
use Rattle.counts.proofs.Steps.{total_dropped, total_none, total_one, total_single, total_two}

module _ (L : ℕ) where
  -- near weights in near matrices

  weight_trans : (p q s : Weight) → NearWeight L p q → NearWeight L q s → NearWeight L p s
  weight_trans p q s h k = record { dropped = near_trans L _ _ _ h.dropped k.dropped; merged = near_trans L _ _ _ h.merged k.merged }

  put_near : (w z : Matrix) (a b : ℕ) (p q : Weight) (i j : ℕ) → NearWeight L p q → NearWeight L (w i j) (z i j) → NearWeight L (put w a b p i j) (put z a b q i j)
  put_near w z a b p q i j h k = elim (ℕ_discrete i a) [
    | no n ↦ rw (put_row w a b p i j n, put_row z a b q i j n) k
    | yes e ↦ elim (ℕ_discrete j b) [
      | no n ↦ rw (put_column w a b p i j n, put_column z a b q i j n) k
      | yes f ↦ rw (e, f, put_same w a b p, put_same z a b q) h
    ]
  ]

  beside_held : (p q s t : Weight) → NearWeight L p q → NearWeight L s t → NearWeight L (held L (beside p s)) (beside q t)
  beside_held p q s t h k = weight_trans _ _ _ (held_weight L (beside p s)) (near_beside L p q s t h k)

  -- a link added, with the weight held
  pub add_near : (w z : Matrix) (k x y : ℕ) (p q : Weight) → x < k → y < k → ¬ (x ≡ y) → NearMatrix L w z k → NearWeight L p q → NearMatrix L (add_held L w x y p) (add z x y q) k
  add_near w z k x y p q i j n h u a b l m = elim (decide (ltb x y)) [
    | inl t ↦ rw ((T_true (ltb x y)).0 t) (put_near w z y x _ _ a b (beside_held (w y x) (z y x) p q (h y x (ltb→lt x y t) j) u) (h a b l m))
    | inr f ↦ rw ((T_false (ltb x y)).0 f) (put_near w z x y _ _ a b (beside_held (w x y) (z x y) p q (h x y (omega (arith, not_ltb→le x y f)) i) u) (h a b l m))
  ]

  pub move_near : (v x : ℕ) → x < v → (n j : ℕ) → j + n ≤ v → (w z : Matrix) → NearMatrix L w z (suc v) → NearMatrix L (move_held L w v x j n) (move_from z v x j n) (suc v)
  unfolding move_held move_from
  move_near v x l zero j m w z h = h
  move_near v x l (suc n) j m w z h = elim (ℕ_discrete j x) [
    | yes e ↦ rw ((T_true (eqb j x)).0 (eq→eqb j x e)) (move_near v x l n (suc j) (omega arith) w z h)
    | no d ↦ rw ((T_false (eqb j x)).0 (λ t. d (eqb→eq j x t))) (move_near v x l n (suc j) (omega arith) (add_held L w x j (w v j)) (add z x j (z v j))
        (add_near w z (suc v) x j (w v j) (z v j) (omega arith) (omega arith) (λ e. d (sym e)) h (h v j (omega arith) (omega arith))))
  ]

  -- THE START: the matrix of the rows, held
  pub fill_near : (g : Graph) (n : ℕ) → Between g n → (ss : List State) (r : ℕ) → r + length ss ≤ length g.first_ends → (w z : Matrix) → NearMatrix L w z n
      → NearMatrix L (fill_held L g r ss w) (fill_from g r ss z) n
  unfolding fill_held fill_from
  fill_near g n b [] r m w z h = h
  fill_near g n b (s ∷ ss) r m w z h =
      let l : r < length g.first_ends = omega arith in
      let i = range_out 1 n (first_in_lem g n b r l) in
      let j = range_out 1 n (second_in g n b r l) in
      let d = b.differ r l in
      fill_near g n b ss (suc r) (omega arith) _ _ (add_near w z n (pred (first_end g r)) (pred (second_end g r)) (weight_of s) (weight_of s)
      (omega arith) (omega arith) (λ e. d (omega arith)) h (near_weight L (weight_of s)))

  pub held_start : (g : Graph) (n : ℕ) → Between g n → (ss : List State) → length ss ≡ length g.first_ends
      → held_total L 0 1 (fill_held L g 0 ss empty) n ≡ min L (link_count g ss)
  unfolding held_total
  held_start g n b ss e =
      held_near L 0 0 1 1 _ (fill g ss) n (near_refl L 0) (near_refl L 1) (fill_near g n b ss 0 (omega arith) empty empty (λ a b i j. near_weight L absent))
      ∙ ap (min L) (omega (arith, fill_total g n b ss (omega arith)))

  pub held_bound : (so f : ℕ) (w : Matrix) (k : ℕ) → held_total L so f w k ≤ L
  unfolding held_total
  held_bound so f w k = omega arith

  -- ENOUGH: at the limit nothing more is counted
  pub held_enough : (so f : ℕ) (w : Matrix) (k : ℕ) → L ≤ so → held_total L so f w k ≡ L
  unfolding held_total
  held_enough so f w k h = omega arith

  -- a factor of 0
  pub held_zero : (so : ℕ) (w : Matrix) (k : ℕ) → held_total L so 0 w k ≡ min L so
  unfolding held_total
  held_zero so w k = ap (min L) (omega arith)

  -- no node
  pub held_empty : (so f : ℕ) (w : Matrix) → held_total L so f w 0 ≡ min L so
  unfolding held_total
  held_empty so f w = rw (total_none w) (ap (min L) (omega arith))

  -- one node is left
  pub held_single : (so f : ℕ) (w : Matrix) → held_total L so f w 1 ≡ min L (so + f)
  unfolding held_total
  held_single so f w = rw (total_single w) (ap (min L) (omega arith))

  -- a link that cannot be merged is dropped
  pub held_dropped : (so f : ℕ) (w : Matrix) (v x : ℕ) → x < v → (w v x).merged ≡ 0
      → held_total L so f w (suc v) ≡ held_total L so (min L (f * (w v x).dropped)) (put w v x absent) (suc v)
  unfolding held_total
  held_dropped so f w v x h e = rw (total_dropped w v x h e)
      (ap (λ (y : ℕ). min L (so + y)) (omega arith)
      ∙ sym (held_near L so so (min L (f * (w v x).dropped)) (f * (w v x).dropped) (put w v x absent) (put w v x absent) (suc v) (near_refl L so) (near_held L (f * (w v x).dropped))
      (λ a b i j. near_weight L (put w v x absent a b))))

  -- BRANCH: merged first, then dropped
  pub held_branch : (so f : ℕ) (w : Matrix) (v x : ℕ) → x < v
      → held_total L so f w (suc v)
      ≡ held_total L (held_total L so (min L (f * (w v x).merged)) (move_held L (put w v x absent) v x 0 v) v) (min L (f * (w v x).dropped)) (put w v x absent) (suc v)
  unfolding held_total
  held_branch so f w v x h = near_min L _ _ (inl (ap (λ (y : ℕ). so + f * y) (total_branch w v x h) ∙ (omega arith)))
      ∙ sym (near_min L _ _ (near_add L _ _ _ _
      (near_trans L _ _ _ (near_held L _) (near_add L so so _ _ (near_refl L so) (near_mul L _ _ _ _ (near_held L (f * (w v x).merged)) (total_near L _ _ v
      (λ a b i j. move_near v x h v 0 (omega arith) (put w v x absent) (put w v x absent) (λ a b i j. near_weight L (put w v x absent a b)) a b i (omega arith))))))
      (near_mul L _ _ _ _ (near_held L (f * (w v x).dropped)) (near_refl L (total (put w v x absent) (suc v))))))

  -- MUST: a link that cannot be dropped is only merged
  pub held_must : (so f : ℕ) (w : Matrix) (v x : ℕ) → x < v → (w v x).dropped ≡ 0
      → held_total L so f w (suc v) ≡ held_total L so (min L (f * (w v x).merged)) (move_held L (put w v x absent) v x 0 v) v
  held_must so f w v x h e = held_branch so f w v x h
      ∙ ap (λ (y : ℕ). held_total L inner y (put w v x absent) (suc v)) (ap (λ (y : ℕ). min L (f * y)) e ∙ (omega arith))
      ∙ held_zero inner (put w v x absent) (suc v) ∙ omega (arith, held_bound so (min L (f * (w v x).merged)) (move_held L (put w v x absent) v x 0 v) v)
    where
      inner : ℕ
      inner = held_total L so (min L (f * (w v x).merged)) (move_held L (put w v x absent) v x 0 v) v

  -- ONE LINK
  pub held_one : (so f : ℕ) (w : Matrix) (v x : ℕ) → x < v → ((i : ℕ) → i < v → ¬ (i ≡ x) → w v i ≡ absent)
      → held_total L so f w (suc v) ≡ held_total L so (min L (f * (w v x).merged)) w v
  unfolding held_total
  held_one so f w v x h bare = rw (total_one w v x h bare)
      (ap (λ (y : ℕ). min L (so + y)) (omega arith)
      ∙ sym (held_near L so so (min L (f * (w v x).merged)) (f * (w v x).merged) w w v (near_refl L so) (near_held L (f * (w v x).merged)) (λ a b i j. near_weight L (w a b))))

  -- two nodes are left
  pub held_pair : (so f : ℕ) (w : Matrix) → held_total L so f w 2 ≡ min L (so + min L (f * (w 1 0).merged))
  held_pair so f w = held_one so f w 1 0 (omega arith) (λ i l n. absurd (n (omega arith))) ∙ held_single so (min L (f * (w 1 0).merged)) w

  -- NO LINK
  pub held_none : (so f : ℕ) (w : Matrix) (v : ℕ) → 1 ≤ v → ((i : ℕ) → i < v → w v i ≡ absent) → held_total L so f w (suc v) ≡ min L so
  held_none so f w v h bare = held_one so f w v 0 h (λ i l n. bare i l)
      ∙ ap (λ (y : ℕ). held_total L so y w v) (ap (λ (p : Weight). min L (f * p.merged)) (bare 0 h) ∙ (omega arith)) ∙ held_zero so w v

  -- TWO LINKS
  pub held_two_lem : (so f : ℕ) (w : Matrix) (v x y : ℕ) → x < v → y < v → ¬ (x ≡ y) → ((i : ℕ) → i < v → ¬ (i ≡ x) → ¬ (i ≡ y) → w v i ≡ absent)
      → held_total L so f w (suc v) ≡ held_total L so f (add_held L w x y (held L (behind (w v x) (w v y)))) v
  unfolding held_total
  held_two_lem so f w v x y i j n bare = rw (total_two w v x y i j n bare)
      (sym (held_near L so so f f (add_held L w x y (held L (behind (w v x) (w v y)))) (add w x y (behind (w v x) (w v y))) v (near_refl L so) (near_refl L f)
      (add_near w w v x y _ _ i j n (λ a b k l. near_weight L (w a b)) (held_weight L (behind (w v x) (w v y))))))

-- Laws of the loops: the links moved one by one (`Moving`), the links that cannot be merged dropped (`Clearing`), and of what the searches find (`found_from`,
-- `none_from`, `undropped`).
use Rattle.std.specs.Prelude.{Bool, None, Option, Some, false, not, true, ◌==◌, slice_range}
use Rattle.std.specs.List.{position, position_or_len}
use Rattle.std.proofs.lemmas.Bool.{not-true}
use Rattle.std.proofs.lemmas.Bool.Decides.{nat_tests}
use Rattle.std.proofs.lemmas.List.{get_or-append_right, get_or-drop, get_or-take, length-take-le, set-append_left, set-append_right}
use Rattle.std.proofs.lemmas.List.Quantifiers.{position-Some}
use Rattle.std.proofs.lemmas.List.Sums.{prefix_len_passes}
use mathlib.Core.Path.{◌∙◌, ◌≡◌, ap, refl, subst, sym}
use mathlib.Core.List.{List, ◌++◌}
use Prim.Native.Nat.{◌*◌, ◌+◌, ◌-◌, ◌<◌, ◌≤◌, min, suc, ℕ}
use native.Mathlib.Decide.{dec_lt, ℕ_discrete}
use native.Mathlib.Omega.{arith}
use lib.Seq.{get_or-set_other, get_or-set_same, set-get_or}
use lib.ListN.{drop, get_or, get_or-append, length, length-append, length-drop, length-take, set, take}
use borrow.Author.Count.{below_more}
use borrow.Author.Tests.{lt-ltb}
use borrow.Rule.Slice.PartMut.{post_of, put_mid}
use Rattle.counts.specs.Counting.{Weight}
use Rattle.counts.specs.Matrix.{Agree, Matrix, absent, add_held, held_total, limit, move_held, put}
use Rattle.counts.proofs.Agreement.{held_agree, move_add, move_agree, move_end, move_skip, move_start}
use Rattle.counts.proofs.HeldSteps.{held_dropped}
use Rattle.counts.proofs.Matrix.{put_column, put_same}
use Rattle.weights.specs.Weights.{matrix_in, weight_at, weight_in}
use Rattle.weights.specs.declared.Weight as code
use Rattle.weights.proofs.Stores.{matrix_set}
use Rattle.counted.specs.Counted.{Clearing, FirstLink, NoLink}

-- The loop that moves the links, at link j, of a matrix z
pub record Moving (v x : ℕ) (z w : Matrix) (j : ℕ) : Type 0 where
  pub within : j ≤ v
  pub low : x < v
  pub high : v < 32
  pub left : Agree (move_held limit w v x j (v - j)) (move_held limit z v x 0 v) (suc v)

pub moving_start : (v x : ℕ) (w : Matrix) → x < v → v < 32 → Moving v x w w 0
moving_start v x w l h = record {
  within = omega arith;
  low = l;
  high = h;
  left = λ a b i j. ap (λ (z : Matrix). z a b) (sym (move_start limit w v x));
}

module _ {v x : ℕ} {z w : Matrix} {j : ℕ} (so : Moving v x z w j) where
  pub moving_skip : j < v → j ≡ x → Moving v x z w (j + 1)
  moving_skip l e = record {
    within = omega arith;
    low = so.low;
    high = so.high;
    left = λ a b i k. ap (λ (z : Matrix). z a b) (sym (move_skip limit w v x j l e)) ∙ so.left a b i k;
  }

  pub moving_next : (u : Matrix) → j < v → ¬ (j ≡ x) → Agree u (add_held limit w x j (w v j)) 32 → Moving v x z u (j + 1)
  moving_next u l n e = record {
    within = omega arith;
    low = so.low;
    high = so.high;
    left = λ a b i k.
        move_agree limit v x so.low (v - (j + 1)) (j + 1) (omega arith) u (add_held limit w x j (w v j))
        (λ p q u o. e p q u (omega (arith, so.high))) a b i k
        ∙ ap (λ (z : Matrix). z a b) (sym (move_add limit w v x j l n)) ∙ so.left a b i k;
  }

  pub moving_end : v ≤ j → Agree w (move_held limit z v x 0 v) (suc v)
  moving_end l a b i k = ap (λ (z : Matrix). z a b) (sym (move_end limit w v x j l)) ∙ so.left a b i k

-- The loop that drops the links that cannot be merged, at link j

pub clearing_start : (ws : List code.Weight) (v f : ℕ) → Clearing ws v f ws f 0
clearing_start ws v f = record { same = λ so. refl; clear = λ i h. absurd (omega arith) }

module _ {ws : List code.Weight} {v f : ℕ} {us : List code.Weight} {g j : ℕ} (so : Clearing ws v f us g j) (l : j < v) (h : v < 32) where
  pub clearing_skip : ¬ ((matrix_in us v j).merged ≡ 0) → Clearing ws v f us g (j + 1)
  clearing_skip n = record {
    same = so.same;
    clear = λ i k e. elim (ℕ_discrete i j) [ yes q ↦ absurd (n (subst (λ (z : ℕ). (matrix_in us v z).merged ≡ 0) q e)) | no q ↦ so.clear i (omega arith) e ];
  }

  pub clearing_next : (x : ℕ) → 1024 ≤ length us → (matrix_in us v j).merged ≡ 0 → x ≡ min limit (g * (matrix_in us v j).dropped)
      → Clearing ws v f (set us (v * 32 + j) (record { dropped = 1; merged = 0 })) x (j + 1)
  clearing_next x p e o = record {
    same = λ s. held_agree limit s x (matrix_in (set us (v * 32 + j) (record { dropped = 1; merged = 0 }))) (put (matrix_in us) v j absent) (suc v) (λ a b i k. stored a b (omega arith))
        ∙ ap (λ (z : ℕ). held_total limit s z (put (matrix_in us) v j absent) (suc v)) o
        ∙ sym (held_dropped limit s g (matrix_in us) v j l e) ∙ so.same s;
    clear = λ i k q. elim (ℕ_discrete i j) [
      | yes z ↦ rw z (stored v j (omega arith) ∙ put_same (matrix_in us) v j absent)
      | no z ↦ kept i (omega arith) z ∙ so.clear i (omega arith) (sym (ap (λ (p : Weight). p.merged) (kept i (omega arith) z)) ∙ q)
    ];
  }
    where
      stored : (a b : ℕ) → b < 32 → matrix_in (set us (v * 32 + j) (record { dropped = 1; merged = 0 })) a b ≡ put (matrix_in us) v j absent a b
      stored a b k = matrix_set us v j (record { dropped = 1; merged = 0 }) a b (omega arith) (omega arith) k

      kept : (i : ℕ) → i < 32 → ¬ (i ≡ j) → matrix_in (set us (v * 32 + j) (record { dropped = 1; merged = 0 })) v i ≡ matrix_in us v i
      kept i k n = stored v i k ∙ put_column (matrix_in us) v j absent v i n

-- The links of v, lent to the loop, as they stand in the whole

module _ (ws items : List code.Weight) (a n j : ℕ) (fits : a + n ≤ length ws) (long : length items ≡ n) (low : j < n) where
  before : length (take a ws) ≡ a
  before = length-take-le a ws (omega arith)

  from_a : a + j - a ≡ j
  from_a = omega arith

  pub part_place : weight_at (put_mid a n ws items) (a + j) ≡ weight_at items j
  part_place = get_or-append_right (take a ws) (items ++ post_of a n ws) a (a + j) _ before (omega arith) ∙ rw from_a (get_or-append items (post_of a n ws) _ j (omega arith))

  pub part_set : (p : code.Weight) → set (put_mid a n ws items) (a + j) p ≡ put_mid a n ws (set items j p)
  part_set p = set-append_right (take a ws) (items ++ post_of a n ws) a (a + j) p before (omega arith)
      ∙ ap (λ (z : List code.Weight). take a ws ++ z) (rw from_a (set-append_left items (post_of a n ws) j p (omega arith)))

pub part_length : (ws items : List code.Weight) (a n : ℕ) → a + n ≤ length ws → length items ≡ n → length (put_mid a n ws items) ≡ length ws
part_length ws items a n h e = simp (length-append, length-take, length-drop) (omega arith)

module _ (ws items : List code.Weight) (v f g j : ℕ) (high : v < 32) (full : 1024 ≤ length ws) (long : length items ≡ v) (low : j < v)
    (so : Clearing ws v f (put_mid (v * 32) v ws items) g j) where
  place : weight_at (put_mid (v * 32) v ws items) (v * 32 + j) ≡ weight_at items j
  place = part_place ws items (v * 32) v j (omega arith) long low

  pub clear_next : (weight_at items j).merged ≡ 0 → (x : ℕ) → x ≡ min limit (g * (weight_at items j).dropped)
      → Clearing ws v f (put_mid (v * 32) v ws (set items j (record { dropped = 1; merged = (weight_at items j).merged }))) x (j + 1)
  clear_next e x o = rw (e, ← part_set ws items (v * 32) v j (omega arith) long low (record { dropped = 1; merged = 0 }))
      (clearing_next so low high x (omega (arith, part_length ws items (v * 32) v (omega arith) long)) (rw place e) (rw place o))

  pub clear_skip : ¬ ((weight_at items j).merged ≡ 0) → Clearing ws v f (put_mid (v * 32) v ws (set items j (weight_at items j))) g (j + 1)
  clear_skip n = rw set-get_or (clearing_skip so low high (rw place n))

-- What the searches find

position_none : {X : Type 0} (p : X → Bool) (xs : List X) → position p xs ≡ None → (k : ℕ) (d : X) → k < length xs → p (get_or xs k d) ≡ false
position_none p xs e k d h = elim (dec_lt (position_or_len p xs) (length xs)) [
  | yes l ↦ absurd (some_none (position_or_len p xs) (position p xs) (simp (lt-ltb _ _ l)) e)
  | no n ↦ not-true _ (prefix_len_passes (λ x. not (p x)) xs k d (omega arith))
]
  where
    some_none : (i : ℕ) (o : Option ℕ) → o ≡ Some i → o ≡ None → ⊥
    some_none i o a b = cc

some_merged : (x : ℕ) → not (x == 0) ≡ true → ¬ (x ≡ 0)
some_merged x h e = grind (arith, nat_tests)

none_merged : (x : ℕ) → not (x == 0) ≡ false → x ≡ 0
none_merged x h = grind (arith, nat_tests)

module _ (ws : List code.Weight) (v «from» : ℕ) (r : Option ℕ) (l : «from» ≤ v) (h : v * 32 + v ≤ length ws)
    (found : r ≡ position (λ (w : code.Weight). not (w.merged == 0)) (slice_range ws (v * 32 + «from») (v * 32 + v))) where
  abbrev part : List code.Weight
  part = slice_range ws (v * 32 + «from») (v * 32 + v)

  part_long : length part ≡ v - «from»
  part_long = simp (length-take, length-drop) (omega arith)

  at : (i k : ℕ) → i < v → i ≡ «from» + k → get_or part k (record { dropped = 0; merged = 0 }) ≡ weight_at ws (v * 32 + i)
  at i k u e =
      let o : v * 32 + «from» + k ≡ v * 32 + i = omega arith in
      get_or-take _ (drop (v * 32 + «from») ws) k _ (omega arith) ∙ get_or-drop (v * 32 + «from») ws k _ ∙ ap (weight_at ws) o

  test : (i k : ℕ) → i < v → i ≡ «from» + k
      → not ((get_or part k (record { dropped = 0; merged = 0 })).merged == 0) ≡ not ((matrix_in ws v i).merged == 0)
  test i k u e = ap (λ (w : code.Weight). not (w.merged == 0)) (at i k u e)

  pub found_from : (i : ℕ) → r ≡ Some i → FirstLink (matrix_in ws) v «from» («from» + i)
  found_from i e =
      let first = position-Some (λ (w : code.Weight). not (w.merged == 0)) part i (record { dropped = 0; merged = 0 }) (sym found ∙ e) in
      let low : «from» + i < v = omega (arith, first.0, part_long) in
      record {
        above = omega arith;
        below = low;
        before = λ k j u. none_merged _ (sym (test k (k - «from») (omega arith) (omega arith)) ∙ first.2 (k - «from») (omega arith));
        found = some_merged _ (sym (test («from» + i) i low refl) ∙ first.1);
      }

  pub none_from : r ≡ None → NoLink (matrix_in ws) v «from» v
  none_from e k j u =
      none_merged _ (sym (test k (k - «from») u (omega arith))
      ∙ position_none (λ (w : code.Weight). not (w.merged == 0)) part (sym found ∙ e) (k - «from») (record { dropped = 0; merged = 0 }) (omega (arith, part_long)))

-- A node's links copied one by one, to places from a * 32 on: those before are as they were
pub record RowCopied (ws xs us : List code.Weight) (a i : ℕ) : Type 0 where
  pub row : (b : ℕ) → b < i → weight_at us (a * 32 + b) ≡ weight_at ws (a * 32 + b)
  pub before : (k : ℕ) → k < a * 32 → weight_at us k ≡ weight_at xs k

pub none_copied : (ws xs : List code.Weight) (a : ℕ) → RowCopied ws xs xs a 0
none_copied ws xs a = record { row = λ b h. absurd (omega arith); before = λ k h. refl }

pub one_copied : {ws xs us : List code.Weight} {a i : ℕ} → RowCopied ws xs us a i → a * 32 + i < length us → RowCopied ws xs (set us (a * 32 + i) (weight_at ws (a * 32 + i))) a (i + 1)
one_copied {ws} {xs} {us} {a} {i} p h = record {
  row = below_more _ i (λ k l. get_or-set_other us (a * 32 + i) (a * 32 + k) _ _ (λ e. omega arith) ∙ p.row k l) (get_or-set_same us (a * 32 + i) _ _ h);
  before = λ k l. get_or-set_other us (a * 32 + i) k _ _ (λ e. omega arith) ∙ p.before k l;
}

-- A level copied node by node: one more node's links
pub rows_copied : (ws xs us : List code.Weight) (a : ℕ) → Agree (matrix_in xs) (matrix_in ws) a → ((b : ℕ) → b < a → weight_at us (a * 32 + b) ≡ weight_at ws (a * 32 + b))
    → ((k : ℕ) → k < a * 32 → weight_at us k ≡ weight_at xs k) → a < 32 → Agree (matrix_in us) (matrix_in ws) (suc a)
rows_copied ws xs us a so row before h i j l n = elim (ℕ_discrete i a) [
  | yes e ↦ ap weight_in (ap (λ (m : ℕ). weight_at us (m * 32 + j)) e ∙ row j (omega arith) ∙ sym (ap (λ (m : ℕ). weight_at ws (m * 32 + j)) e))
  | no d ↦ ap weight_in (before (i * 32 + j) (omega arith)) ∙ so i j l (omega arith)
]

-- A link made absent
pub absent_set : (ws : List code.Weight) (v x : ℕ) → 1024 ≤ length ws → x < v → v < 32
    → Agree (matrix_in (set ws (v * 32 + x) (record { dropped = 1; merged = 0 }))) (put (matrix_in ws) v x absent) 32
absent_set ws v x l j h a b p q = matrix_set ws v x (record { dropped = 1; merged = 0 }) a b (omega arith) (omega arith) (omega arith)

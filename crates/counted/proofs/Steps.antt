-- Laws of the three functions that call each other: what each way out answers, and the links left, by which the calls end.
use mathlib.Core.Path.{◌∙◌, ◌≡◌, ap, ap₂, refl, subst, sym}
use Prim.Native.Nat.{◌*◌, ◌+◌, ◌-◌, ◌<◌, ◌≤◌, min, suc, zero, ℕ}
use native.Mathlib.Decide.{dec_lt, ℕ_discrete}
use native.Mathlib.Omega.{arith}
use lib.ListN.{length, length-append}
use Rattle.counts.specs.Counting.{Weight, behind}
use Rattle.counts.specs.Matrix.{Agree, Matrix, absent, add_held, held, held_total, limit, links, move_held, put, star}
use Rattle.counts.proofs.Agreement.{agree_trans, held_agree, merged_along, move_agree}
use Rattle.counts.proofs.HeldSteps.{held_bound, held_branch, held_enough, held_none, held_one, held_pair, held_single, held_two_lem, held_zero}
use Rattle.counts.proofs.Matrix.{put_column, put_same, star_length}
use Rattle.counted.specs.Counted.{Clear, FirstLink, NoLink, links_left}

-- The links left

pub links_left_lem : (w : Matrix) (k : ℕ) → length (links w k) ≡ links_left k
unfolding links links_left
links_left_lem w zero = refl
links_left_lem w (suc v) = length-append (star w v 0 v) (links w v) ∙ ap₂ ◌+◌ (star_length w v 0 v) (links_left_lem w v)

-- without a node that is not the only one there are fewer
pub links_fewer : (k : ℕ) → 2 ≤ k → links_left (k - 1) < links_left k
unfolding links_left
links_fewer zero h = absurd (omega arith)
links_fewer (suc v) h = let e : suc v - 1 ≡ v = omega arith in rw e (omega arith)

-- r is what a call answers
abbrev pub Answers : ℕ → ℕ → ℕ → Matrix → ℕ → Type 0
Answers r so f w k = (r ≡ held_total limit so f w k) × (r ≤ limit)

answer : (r so f : ℕ) (w : Matrix) (k : ℕ) → r ≡ held_total limit so f w k → Answers r so f w k
answer r so f w k e = (e, omega (arith, held_bound limit so f w k))

-- Dropping's own ways out

pub answer_enough : (so f : ℕ) (w : Matrix) (k : ℕ) → so ≡ limit → Answers so so f w k
answer_enough so f w k e = answer so so f w k (e ∙ sym (held_enough limit so f w k (omega arith)))

pub answer_zero : (so f : ℕ) (w : Matrix) (k : ℕ) → so ≤ limit → f ≡ 0 → Answers so so f w k
answer_zero so f w k l e = answer so so f w k (rw e (sym (held_zero limit so w k ∙ (omega arith))))

pub answer_single : (r so f : ℕ) (w : Matrix) (k : ℕ) → k ≡ 1 → r ≡ min limit (so + f) → Answers r so f w k
answer_single r so f w k e q = answer r so f w k (rw e (q ∙ sym (held_single limit so f w)))

pub answer_pair : (r so f t k : ℕ) (w : Matrix) → k ≡ 2 → t ≡ min limit (f * (w 1 0).merged) → r ≡ min limit (so + t) → Answers r so f w k
answer_pair r so f t k w e p q = answer r so f w k (rw e (q ∙ ap (λ (x : ℕ). min limit (so + x)) p ∙ sym (held_pair limit so f w)))

-- the links that cannot be merged are absent, and the count is the same
pub answer_cleared : (r so f g k : ℕ) (w z : Matrix) → 1 ≤ k → ((so : ℕ) → held_total limit so g z (suc (k - 1)) ≡ held_total limit so f w (suc (k - 1)))
    → r ≡ held_total limit so g z (suc (k - 1)) → Answers r so f w k
answer_cleared r so f g k w z l same e =
    let n : suc (k - 1) ≡ k = omega arith in
    answer r so f w k (subst (λ (x : ℕ). r ≡ held_total limit so f w x) n (e ∙ same so))

-- Merging

-- what agrees with the nodes' network counts as it does
pub counted_as : (r so f v : ℕ) (u w : Matrix) → Agree u w (suc v) → r ≡ held_total limit so f u v → r ≡ held_total limit so f w v
counted_as r so f v u w h e = e ∙ held_agree limit so f u w v (λ a b i j. h a b i (omega arith))

-- it is counted in the level below, as u, after v's links were moved to x there
pub answer_next : (r so f v x : ℕ) (u z w : Matrix) → x < v → Agree z w (suc v) → Agree u (move_held limit z v x 0 v) (suc v) → r ≡ held_total limit so f u v
    → Answers r so f (move_held limit w v x 0 v) v
answer_next r so f v x u z w l c h e =
    answer r so f (move_held limit w v x 0 v) v (counted_as r so f v u (move_held limit w v x 0 v) (agree_trans h (move_agree limit v x l v 0 (omega arith) z w c)) e)

-- The loop over the links of v, from `from` on

pub record Linking (v f so : ℕ) (z w : Matrix) (g s «from» : ℕ) : Type 0 where
  pub within : «from» ≤ v
  pub some : 1 ≤ v
  pub high : v < 32
  pub bound : s ≤ limit
  pub clear : Clear w v v
  pub passed : (i : ℕ) → i < «from» → (w v i).merged ≡ 0
  pub same : held_total limit s g w (suc v) ≡ held_total limit so f z (suc v)

module _ {v f so : ℕ} {z w : Matrix} {g s «from» : ℕ} (k : Linking v f so z w g s «from») where
  -- no link before x but those passed
  none_before : (x : ℕ) → NoLink w v «from» x → (i : ℕ) → i < x → (w v i).merged ≡ 0
  none_before x a i l = elim (dec_lt i «from») [ yes j ↦ k.passed i j | no j ↦ a i (omega arith) l ]

  pub linking_none : NoLink w v «from» v → Answers s so f z (suc v)
  linking_none a = answer s so f z (suc v) (sym (
      held_none limit s g w v k.some (λ i l. k.clear i l (none_before v a i l)) ∙ omega (arith, k.bound)) ∙ k.same)

  pub linking_one : {r x t : ℕ} → FirstLink w v «from» x → NoLink w v (x + 1) v → t ≡ min limit (g * (w v x).merged)
      → r ≡ held_total limit s t w v → Answers r so f z (suc v)
  linking_one {r} {x} {t} a b q o = answer r so f z (suc v) (o ∙ ap (λ (y : ℕ). held_total limit s y w v) q
      ∙ sym (held_one limit s g w v x a.below (λ i l j. k.clear i l (other i l j))) ∙ k.same)
    where
      other : (i : ℕ) → i < v → ¬ (i ≡ x) → (w v i).merged ≡ 0
      other i l j = elim (dec_lt i x) [ yes c ↦ none_before x a.before i c | no c ↦ b i (omega arith) l ]

  -- the two links are the link that was added
  pub linking_two : {r x y : ℕ} {u : Matrix} → FirstLink w v «from» x → FirstLink w v (x + 1) y → NoLink w v (y + 1) v
      → Agree u (add_held limit w x y (held limit (behind (w v x) (w v y)))) 32
      → r ≡ held_total limit s g u v → Answers r so f z (suc v)
  linking_two {r} {x} {y} {u} a b c h q = answer r so f z (suc v) (q
      ∙ held_agree limit s g u (add_held limit w x y (held limit (behind (w v x) (w v y)))) v (λ i j l p. h i j l (omega (arith, k.high)))
      ∙ sym (held_two_lem limit s g w v x y a.below b.below (λ j. omega (arith, b.above)) (λ i l p j. k.clear i l (other i l p j))) ∙ k.same)
    where
      other : (i : ℕ) → i < v → ¬ (i ≡ x) → ¬ (i ≡ y) → (w v i).merged ≡ 0
      other i l p j = elim (dec_lt i x) [
        | yes d ↦ none_before x a.before i d
        | no d ↦ elim (dec_lt i y) [ yes t ↦ b.before i (omega arith) t | no t ↦ c i (omega arith) l ]
      ]

  -- x is dropped, after the node was merged along it
  pub linking_next : {x t r h : ℕ} {u : Matrix} → FirstLink w v «from» x → Agree u (put w v x absent) 32 → t ≡ min limit (g * (w v x).merged)
      → r ≡ held_total limit s t (move_held limit u v x 0 v) v → r ≤ limit → h ≡ min limit (g * (w v x).dropped)
      → Linking v f so z u h r (x + 1)
  linking_next {x} {t} {r} {h} {u} a gone et er lr eh = record {
    within = omega (arith, a.below);
    some = k.some;
    high = k.high;
    bound = lr;
    clear = λ i l e. elim (ℕ_discrete i x) [
      | yes q ↦ rw q absent_now
      | no q ↦ kept i l q ∙ k.clear i l (sym (ap (λ (p : Weight). p.merged) (kept i l q)) ∙ e)
    ];
    passed = λ i l. elim (ℕ_discrete i x) [
      | yes q ↦ rw q (ap (λ (p : Weight). p.merged) absent_now)
      | no q ↦ ap (λ (p : Weight). p.merged) (kept i (omega (arith, a.below)) q) ∙ none_before x a.before i (omega arith)
    ];
    same = held_agree limit r h u (put w v x absent) (suc v) (λ i j l b. gone i j l (omega (arith, k.high)))
        ∙ ap₂ (λ (p q : ℕ). held_total limit p q (put w v x absent) (suc v)) (merged_along u w v x a.below k.high gone limit r s g t et er) eh
        ∙ sym (held_branch limit s g w v x a.below) ∙ k.same;
  }
    where
      absent_now : u v x ≡ absent
      absent_now = gone v x a.below k.high ∙ put_same w v x absent

      kept : (i : ℕ) → i < v → ¬ (i ≡ x) → u v i ≡ w v i
      kept i l q = gone v i l k.high ∙ put_column w v x absent v i q

-- Comparison by cases, after every number of components of any two vectors (`by_cases`): 'worse somewhere' exactly if one of them is larger, 'so far
-- equal' exactly if all are equal, else 'so far better'. A vector dominates another of its length exactly if its last case is 'so far better'
-- (`dominates_exactly`, as a test `dominates_last`), and none of another length (`dominates_unequal`).
use mathlib.Core.Path.{◌≡◌, refl, subst, sym}
use mathlib.Core.Logic.{◌↔◌}
use mathlib.Core.Bool.{false}
use mathlib.Core.List.{List}
use Prim.Native.Nat.{◌<◌, ◌≤◌, suc, zero, ℕ}
use native.Mathlib.Decide.{ℕ_discrete}
use native.Mathlib.Omega.{arith}
use lib.Dec.{T, ltb, ltb→lt}
use lib.ListN.{get_or, length}
use Rattle.lists.proofs.Tests.{T-both, T_false, T-same, not_ltb→le, pick_elim}
use Rattle.costs.specs.Cases.{AllEqual, ByCases, Case, SomeLarger, case_after, is_better, last_case, next_case, so_far_better, so_far_equal, worse_somewhere}
use Rattle.costs.specs.Costs.{dominates, none_larger, some_smaller}
use Rattle.costs.proofs.Vectors.{dominates_none_larger, dominates_some_smaller, none_larger_exactly, some_smaller_exactly}

-- what holds of the first i components and of the next holds of one more
each_next : (P : ℕ → Type 0) (i : ℕ) → ((j : ℕ) → j < i → P j) → P i → (j : ℕ) → j < suc i → P j
each_next P i h p j k = elim (ℕ_discrete j i) [ yes e ↦ rw e p | no n ↦ h j (omega arith) ]

module _ (v w : List ℕ) where
  -- none of the first i components is larger, and one is smaller
  abbrev OneSmaller : ℕ → Type 0
  OneSmaller i = ((j : ℕ) → j < i → get_or v j 0 ≤ get_or w j 0) × ((j : ℕ) × (j < i) × (get_or v j 0 < get_or w j 0))

  -- what each case says
  abbrev Says : ℕ → Case → Type 0
  Says i worse_somewhere = SomeLarger i v w
  Says i so_far_equal = AllEqual i v w
  Says i so_far_better = OneSmaller i

  says_next : (i : ℕ) (c : Case) → Says i c → Says (suc i) (next_case c (get_or v i 0) (get_or w i 0))
  says_next i worse_somewhere (j, k, l) = (j, omega arith, l)
  says_next i so_far_equal h = pick_elim (Says (suc i)) (ltb (get_or v i 0) (get_or w i 0))
      (λ t. let l = ltb→lt (get_or v i 0) (get_or w i 0) t in
      (each_next (λ j. get_or v j 0 ≤ get_or w j 0) i (λ j k. omega (arith, h j k)) (omega arith), (i, omega arith, l)))
      (λ m. pick_elim (Says (suc i)) (ltb (get_or w i 0) (get_or v i 0))
      (λ t. (i, omega arith, ltb→lt (get_or w i 0) (get_or v i 0) t))
      (λ n. each_next (λ j. get_or v j 0 ≡ get_or w j 0) i h (omega (arith, not_ltb→le (get_or v i 0) (get_or w i 0) m, not_ltb→le (get_or w i 0) (get_or v i 0) n))))
  says_next i so_far_better (h, (j, k, l)) = pick_elim (Says (suc i)) (ltb (get_or w i 0) (get_or v i 0))
      (λ t. (i, omega arith, ltb→lt (get_or w i 0) (get_or v i 0) t))
      (λ n. (each_next (λ j. get_or v j 0 ≤ get_or w j 0) i h (not_ltb→le (get_or w i 0) (get_or v i 0) n), (j, omega arith, l)))

  -- after every number of components the case says what is so
  case_says : (i : ℕ) → Says i (case_after i v w)
  unfolding case_after
  case_says zero = λ j h. absurd (omega arith)
  case_says (suc i) = says_next i (case_after i v w) (case_says i)

  -- and no other case does
  module _ (i : ℕ) where
    larger_equal : SomeLarger i v w → ¬ AllEqual i v w
    larger_equal (j, k, l) h = omega (arith, h j k)

    larger_smaller : SomeLarger i v w → ¬ OneSmaller i
    larger_smaller (j, k, l) h = omega (arith, h.0 j k)

    equal_smaller : AllEqual i v w → ¬ OneSmaller i
    equal_smaller h (_, (j, k, l)) = omega (arith, h j k)

    says_only : (c d : Case) → Says i c → Says i d → c ≡ d
    says_only worse_somewhere worse_somewhere a b = refl
    says_only worse_somewhere so_far_equal a b = absurd (larger_equal a b)
    says_only worse_somewhere so_far_better a b = absurd (larger_smaller a b)
    says_only so_far_equal worse_somewhere a b = absurd (larger_equal b a)
    says_only so_far_equal so_far_equal a b = refl
    says_only so_far_equal so_far_better a b = absurd (equal_smaller a b)
    says_only so_far_better worse_somewhere a b = absurd (larger_smaller b a)
    says_only so_far_better so_far_equal a b = absurd (equal_smaller b a)
    says_only so_far_better so_far_better a b = refl

    case_exactly : (c : Case) → (case_after i v w ≡ c) ↔ Says i c
    case_exactly c = (λ e. subst (Says i) e (case_says i), says_only (case_after i v w) c (case_says i))

    -- where none is larger and not all are equal, one is smaller
    else_better : (c : Case) → Says i c → (¬ SomeLarger i v w) × (¬ AllEqual i v w) → c ≡ so_far_better
    else_better worse_somewhere s h = absurd (h.0 s)
    else_better so_far_equal s h = absurd (h.1 s)
    else_better so_far_better s h = refl

    pub by_cases : ByCases i v w
    by_cases = record {
      worse = case_exactly worse_somewhere;
      equal = case_exactly so_far_equal;
      better = (
        λ e. let s = (case_exactly so_far_better).0 e in (λ l. larger_smaller l s, λ a. equal_smaller a s),
        else_better (case_after i v w) (case_says i),
      );
    }

  -- Dominance by the last case.

  pub dominates_exactly : length v ≡ length w → T (dominates v w) ↔ (last_case v w ≡ so_far_better)
  dominates_exactly e =
      let better = case_exactly (length v) so_far_better in (
        λ t. better.1 (((none_larger_exactly v w).0 (dominates_none_larger v w t)).1, (some_smaller_exactly v w).0 (dominates_some_smaller v w t)),
        λ c. let (n, s) = better.0 c in (T-both (none_larger v w) (some_smaller v w)).1 ((none_larger_exactly v w).1 (e, n), (some_smaller_exactly v w).1 s),
      )

  pub dominates_unequal : ¬ (length v ≡ length w) → dominates v w ≡ false
  dominates_unequal n = (T_false (dominates v w)).0 (λ t. n ((none_larger_exactly v w).0 (dominates_none_larger v w t)).0)

-- the same as a test
is_better_lem : (c : Case) → T (is_better c) ↔ (c ≡ so_far_better)
is_better_lem worse_somewhere = (λ t. absurd t, λ e. subst (λ (c : Case). T (is_better c)) (sym e) tt)
is_better_lem so_far_equal = (λ t. absurd t, λ e. subst (λ (c : Case). T (is_better c)) (sym e) tt)
is_better_lem so_far_better = (λ t. refl, λ e. tt)

pub dominates_last : (v w : List ℕ) → length v ≡ length w → dominates v w ≡ is_better (last_case v w)
dominates_last v w e = T-same (dominates v w) (is_better (last_case v w))
    (λ t. (is_better_lem (last_case v w)).1 ((dominates_exactly v w e).0 t))
    (λ t. (dominates_exactly v w e).1 ((is_better_lem (last_case v w)).0 t))

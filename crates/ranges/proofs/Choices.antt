-- CHOICES: the members of `choices lows highs` are the costs between both, as functions on the rows (`choice_out`, `choice_in`). So `beats` says what its
-- request says (`beats_all`).
use mathlib.Core.Path.{◌∙◌, ◌≡◌, ap, refl, subst}
use mathlib.Core.Logic.{◌↔◌}
use mathlib.Core.List.Memᴰ.{eq_of_singleton}
use mathlib.Core.List.Memᴰ.{head as here}
use mathlib.Core.List.Memᴰ.{map as map_in}
use mathlib.Core.List.Memᴰ.{not-nil as mem_nil}
use mathlib.Core.List.Memᴰ.{of_map as map_out}
use mathlib.Core.List.{List, [], ◌∷◌, map}
use Prim.Native.Nat.{◌-◌, ◌<◌, ◌≤◌, suc, zero, ℕ}
use native.Mathlib.Decide.{dec_lt}
use native.Mathlib.Omega.{arith}
use lib.Dec.{T, ltb, ltb→lt, lt→ltb}
use lib.ListN.{get_or-eq_default, get_or, length, length-map}
use Rattle.lists.specs.Lists.{range, sum}
use Rattle.lists.proofs.Distinct.{Distinct}
use Rattle.lists.proofs.Members.{◌∈◌, ◌⊆◌, all_in, all_out, range_in, range_out}
use Rattle.lists.proofs.Ranges.{get_or_map_past, get_or_map_range, range_length}
use Rattle.lists.proofs.Sequences.{concat_map_in, concat_map_out}
use Rattle.lists.proofs.Sums.{sum_within}
use Rattle.forests.specs.Forests.{weight}
use Rattle.forests.proofs.Intervals.{Within}
use Rattle.ranges.specs.Ranges.{beats, choices, sum_by}

-- row by row, 0 past the last row
abbrev pub at : List ℕ → ℕ → ℕ
at costs r = get_or costs r 0

-- Members

pub choice_out : (lows highs cs : List ℕ) → cs ∈ choices lows highs → (length cs ≡ length lows) × Within (at lows) (at highs) (at cs)
unfolding choices
choice_out [] highs cs m = let e : cs ≡ [] = eq_of_singleton m in rw e (refl, λ r. (omega arith, omega arith))
choice_out (l ∷ lows) [] cs m = absurd (mem_nil m)
choice_out (l ∷ lows) (h ∷ highs) cs m =
    let (x, i, j) = concat_map_out (λ c. map (λ cs. c ∷ cs) (choices lows highs)) (range l (suc h - l)) m in
    let (ds, k, e) = map_out (λ cs. x ∷ cs) (choices lows highs) j in
    let (n, w) = choice_out lows highs ds k in
    let (a, b) = range_out l (suc h - l) i in
    subst (λ (cs : List ℕ). (length cs ≡ suc (length lows)) × Within (at (l ∷ lows)) (at (h ∷ highs)) (at cs)) e (ap suc n, both x ds (omega arith, omega arith) w)
  where
    both : (x : ℕ) (ds : List ℕ) → (l ≤ x) × (x ≤ h) → Within (at lows) (at highs) (at ds) → Within (at (l ∷ lows)) (at (h ∷ highs)) (at (x ∷ ds))
    both x ds b w zero = b
    both x ds b w (suc r) = w r

pub choice_in : (lows highs cs : List ℕ) → length lows ≡ length highs → length cs ≡ length lows → Within (at lows) (at highs) (at cs) → cs ∈ choices lows highs
unfolding choices
choice_in [] highs [] e d w = here refl
choice_in [] highs (c ∷ cs) e d w = absurd (omega arith)
choice_in (l ∷ lows) [] cs e d w = absurd (omega arith)
choice_in (l ∷ lows) (h ∷ highs) [] e d w = absurd (omega arith)
choice_in (l ∷ lows) (h ∷ highs) (c ∷ cs) e d w =
    let (a, b) = w 0 in
    concat_map_in (λ c. map (λ cs. c ∷ cs) (choices lows highs)) (range_in l (suc h - l) c (omega arith) (omega arith))
    (map_in (λ cs. c ∷ cs) (choice_in lows highs cs (omega arith) (omega arith) (λ r. w (suc r))))

-- Weights

pub weight_same : (p q : ℕ → ℕ) → ((r : ℕ) → p r ≡ q r) → (rs : List ℕ) → weight p rs ≡ weight q rs
unfolding sum
weight_same p q h [] = refl
weight_same p q h (r ∷ rs) = omega (arith, h r, weight_same p q h rs)

pub weight_up : (p q : ℕ → ℕ) → ((r : ℕ) → p r ≤ q r) → (rs : List ℕ) → weight p rs ≤ weight q rs
unfolding sum
weight_up p q h [] = omega arith
weight_up p q h (r ∷ rs) = omega (arith, h r, weight_up p q h rs)

-- the same rows in another sequence
pub weight_equal : (c : ℕ → ℕ) (ss ts : List ℕ) → Distinct ss → Distinct ts → ss ⊆ ts → ts ⊆ ss → weight c ss ≡ weight c ts
weight_equal c ss ts d k i j = omega (arith, sum_within c ss d i, sum_within c ts k j)

-- S is strictly less than T for every choice of costs
abbrev pub Beats : (ℕ → ℕ) → (ℕ → ℕ) → List ℕ → List ℕ → Type 0
Beats lo hi ss ts = (c : ℕ → ℕ) → Within lo hi c → weight c ss < weight c ts

module _ (lows highs : List ℕ) (e : length lows ≡ length highs) where
  -- a function on the rows as a choice
  abbrev chosen : (ℕ → ℕ) → List ℕ
  chosen c = map c (range 0 (length lows))

  chosen_at : (c : ℕ → ℕ) → Within (at lows) (at highs) c → (r : ℕ) → at (chosen c) r ≡ c r
  chosen_at c w r = elim (dec_lt r (length lows)) [
    | yes h ↦ get_or_map_range c (length lows) r 0 h
    | no n ↦
        let past : at highs r ≡ 0 = get_or-eq_default highs 0 {n = r} (omega arith) in
        omega (arith, w r, get_or_map_past c (length lows) r 0 (omega arith))
  ]

  pub chosen_in : (c : ℕ → ℕ) → Within (at lows) (at highs) c → map c (range 0 (length lows)) ∈ choices lows highs
  chosen_in c w = choice_in lows highs (chosen c) e (length-map (range 0 (length lows)) c ∙ range_length 0 (length lows))
      (λ r. rw (chosen_at c w r) (w r))

  -- BEATS
  pub beats_all : (ss ts : List ℕ) → T (beats lows highs ss ts) ↔ Beats (at lows) (at highs) ss ts
  unfolding beats
  beats_all ss ts = (
    λ t c w.
        let h = ltb→lt (sum_by (chosen c) ss) (sum_by (chosen c) ts) (all_out (λ choice. ltb (sum_by choice ss) (sum_by choice ts)) t (chosen_in c w)) in
        omega (arith, weight_same (at (chosen c)) c (chosen_at c w) ss, weight_same (at (chosen c)) c (chosen_at c w) ts),
    λ h. all_in (λ choice. ltb (sum_by choice ss) (sum_by choice ts)) (choices lows highs)
        (λ choice i. lt→ltb (sum_by choice ss) (sum_by choice ts) (h (at choice) (choice_out lows highs choice i).1)),
  )

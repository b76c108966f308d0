-- What is left to enter: a completion enters each missing node (`missing_entered`). So what the missing nodes cost at least, by any measure that no step
-- is below (`Pays`), its rows add at least: `missing_sum`, `missing_largest`.
use mathlib.Core.Path.{◌∙◌, ◌≡◌, ap, refl, subst, sym}
use mathlib.Core.Logic.{◌⊎◌, ⊎_elim}
use mathlib.Core.Bool.{not}
use mathlib.Core.Option.{Option, some}
use mathlib.Core.List.{List, [], ◌++◌, ◌∷◌, append-nil, map}
use mathlib.Core.List.Memᴰ.{cases_cons as mem_cases}
use mathlib.Core.List.Memᴰ.{head as here}
use mathlib.Core.List.Memᴰ.{map as map_in}
use mathlib.Core.List.Memᴰ.{cast as mem_cast}
use mathlib.Core.List.Memᴰ.{not-nil as mem_nil}
use mathlib.Core.List.Memᴰ.{tail as there}
use Prim.Native.Nat.{◌≤◌, ℕ}
use native.Mathlib.Decide.{ℕ_discrete}
use native.Mathlib.Omega.{arith}
use lib.Dec.{T_not}
use lib.Seq.{append_snoc}
use Rattle.lists.specs.Lists.{largest, member, sum}
use Rattle.lists.proofs.Distinct.{Distinct}
use Rattle.lists.proofs.Members.{◌∈◌, ◌⊆◌, filter_out, member_in, not_snoc, snoc_old}
use Rattle.lists.proofs.Sums.{largest_within, sum_within}
use Rattle.graph.specs.Graph.{Graph}
use Rattle.graph.specs.Paths.{Key, steps}
use Rattle.graph.proofs.Growth.{Completion, Legal, State, after, rows_of, start}
use Rattle.graph.proofs.Walk.{state_after}
use Rattle.bounds.specs.Bounds.{entered_by, keys_or, missing, nodes_of}

-- The state after a prefix

pub state_entered : (s : State) (ks : List Key) → (state_after s ks).entered ≡ s.entered ++ nodes_of ks
state_entered s [] = sym (append-nil s.entered)
state_entered s (k ∷ ks) = state_entered (after s k) ks ∙ append_snoc s.entered k.node (nodes_of ks)

pub entered_is : (g : Graph) (prefix : List ℕ) (js : List Key) → steps g prefix ≡ some js → entered_by g prefix ≡ (state_after (start g) js).entered
entered_is g prefix js e = ap (λ (o : Option (List Key)). g.plant ∷ nodes_of (keys_or o)) e ∙ sym (state_entered (start g) js)

-- The steps of a completion

module _ (g : Graph) (rs : List ℕ) where
  -- each step of a completion is legal in a state that comes after s
  pub step_legal : (s : State) (ks : List Key) {k : Key} → Completion g rs s ks → k ∈ ks → (t : State) × Legal g rs t k × (s.entered ⊆ t.entered)
  step_legal s [] c m = absurd (mem_nil m)
  step_legal s (l ∷ ks) {k} c m = ⊎_elim
      (λ (e : k ≡ l). (s, subst (Legal g rs s) (sym e) c.0, λ v i. i))
      (λ (i : k ∈ ks). let (t, h, w) = step_legal (after s l) ks c.1 i in (t, h, λ v j. w v (snoc_old l.node j)))
      (mem_cases m)

  pub entered_by_lem : (s : State) (ks : List Key) (v : ℕ) → Completion g rs s ks → v ∈ g.nodes → ¬ (v ∈ s.entered) → (k : Key) × (k ∈ ks) × (k.node ≡ v)
  entered_by_lem s [] v c m n = absurd (n (c v m))
  entered_by_lem s (k ∷ ks) v c m n = elim (ℕ_discrete v k.node) [
    | yes e ↦ (k, here refl, sym e)
    | no d ↦ let (l, i, e) = entered_by_lem (after s k) ks v c.1 m (not_snoc s.entered n d) in (l, there i, e)
  ]

pub rows_map : (ks : List Key) → rows_of ks ≡ map (λ k. k.row) ks
rows_map [] = refl
rows_map (k ∷ ks) = ap (λ (l : List ℕ). k.row ∷ l) (rows_map ks)

module _ (g : Graph) (rs : List ℕ) (s : State) (ks : List Key) (c : Completion g rs s ks) where
  -- the missing nodes are among those that the completion enters
  pub missing_entered : missing g s.entered ⊆ nodes_of ks
  missing_entered v m =
      let (i, t) = filter_out (λ v. not (member v s.entered)) g.nodes m in
      let (k, j, e) = entered_by_lem g rs s ks v c i (λ n. T_not (member v s.entered) t (member_in n)) in
      mem_cast (sym e) (map_in (λ k. k.node) j)

-- What they cost

-- b is at most what f gives to the row that enters the node
abbrev pub Pays : (ℕ → ℕ) → (ℕ → ℕ) → List Key → Type 0
Pays f b ks = (k : Key) → k ∈ ks → b k.node ≤ f k.row

module _ (f b : ℕ → ℕ) where
  pays_sum : (ks : List Key) → Pays f b ks → sum (map b (nodes_of ks)) ≤ sum (map f (rows_of ks))
  unfolding sum
  pays_sum [] h = omega arith
  pays_sum (k ∷ ks) h = omega (arith, h k (here refl), pays_sum ks (λ l m. h l (there m)))

  pays_largest : (ks : List Key) → Pays f b ks → largest (map b (nodes_of ks)) ≤ largest (map f (rows_of ks))
  unfolding largest
  pays_largest [] h = omega arith
  pays_largest (k ∷ ks) h = omega (arith, h k (here refl), pays_largest ks (λ l m. h l (there m)))

  pub missing_sum : (vs : List ℕ) (ks : List Key) → Distinct vs → vs ⊆ nodes_of ks → Pays f b ks → sum (map b vs) ≤ sum (map f (rows_of ks))
  missing_sum vs ks d s h = omega (arith, sum_within b vs d s, pays_sum ks h)

  pub missing_largest : (vs : List ℕ) (ks : List Key) → vs ⊆ nodes_of ks → Pays f b ks → largest (map b vs) ≤ largest (map f (rows_of ks))
  missing_largest vs ks s h = omega (arith, largest_within b vs s, pays_largest ks h)

-- The nodes joined to a node u, as a list (`Closure`): so `Joined` is decided (`joined?`), and it is what `runs` tests (`joined_runs`).
use mathlib.Core.Path.{◌≡◌, refl, subst, sym}
use mathlib.Core.Logic.{◌↔◌, ◌⊎◌, inl, inr}
use mathlib.Core.List.Memᴰ.{cast as mem_cast}
use mathlib.Core.List.Memᴰ.{eq_of_singleton}
use mathlib.Core.List.Memᴰ.{head as here}
use mathlib.Core.List.Memᴰ.{not-nil as mem_nil}
use mathlib.Core.List.Memᴰ.{tail as there}
use mathlib.Core.List.{List, [], ◌∷◌}
use Prim.Native.Nat.{◌+◌, ◌-◌, ◌≤◌, suc, zero, ℕ}
use native.Mathlib.Decide.{ℕ_discrete}
use native.Mathlib.Omega.{arith}
use lib.Dec.{T}
use lib.ListN.{length}
use Rattle.lists.proofs.Distinct.{Distinct, filled, mem?, pigeonhole}
use Rattle.lists.proofs.Members.{◌∈◌, ◌⊆◌, cons_⊆, mem_elim, nil_⊆}
use Rattle.graph.specs.Graph.{Graph, first_end, runs, second_end}
use Rattle.graph.proofs.Growth.{Joins, back, forth}
use Rattle.graph.proofs.Runs.{Run, run_in, run_out}
use Rattle.forests.proofs.Cuts.{dec_or, find?}
use Rattle.forests.proofs.Joined.{Joined, joined_left, joined_row, joined_trans, stay, walk}

module _ (g : Graph) (rs : List ℕ) where
  -- Runs are joined nodes

  pub run_joined : (n u v : ℕ) → u ∈ g.nodes → Run g rs n u v → Joined g rs u v
  run_joined zero u v m e = stay m e
  run_joined (suc n) u v m (inl e) = stay m e
  run_joined (suc n) u v m (inr t) = joined_trans (joined_row t.3 t.4 m t.2) (run_joined n t.0 v t.2 t.5)

  run_more : (n u v : ℕ) → Run g rs n u v → Run g rs (suc n) u v
  run_more zero u v e = inl e
  run_more (suc n) u v (inl e) = inl e
  run_more (suc n) u v (inr t) = inr (t.0, t.1, t.2, t.3, t.4, run_more n t.0 v t.5)

  run_add : (k n u v : ℕ) → Run g rs n u v → Run g rs (k + n) u v
  run_add zero n u v h = let e : n ≡ 0 + n = omega arith in subst (λ (x : ℕ). Run g rs x u v) e h
  run_add (suc k) n u v h = let e : suc (k + n) ≡ suc k + n = omega arith in subst (λ (x : ℕ). Run g rs x u v) e (run_more (k + n) u v (run_add k n u v h))

  run_on : (n a u v r : ℕ) → Run g rs n a u → r ∈ rs → Joins g r u v → v ∈ g.nodes → Run g rs (suc n) a v
  run_on zero a u v r e i j m = inr (v, r, m, i, subst (λ (x : ℕ). Joins g r x v) (sym e) j, refl)
  run_on (suc n) a u v r (inl e) i j m = inr (v, r, m, i, subst (λ (x : ℕ). Joins g r x v) (sym e) j, inl refl)
  run_on (suc n) a u v r (inr t) i j m = inr (t.0, t.1, t.2, t.3, t.4, run_on n t.0 u v r t.5 i j m)

  -- nodes found from u
  record Found (u : ℕ) (x : List ℕ) : Type 0 where
    once : Distinct x
    nodes : x ⊆ g.nodes
    from : u ∈ x
    reached : (v : ℕ) → v ∈ x → Run g rs (length x) u v

  abbrev Closed : List ℕ → Type 0
  Closed x = (r w v : ℕ) → r ∈ rs → w ∈ x → Joins g r w v → v ∈ g.nodes → v ∈ x

  -- a row that leaves x
  abbrev Leaves : List ℕ → ℕ → ℕ → Type 0
  Leaves x a b = (a ∈ x) × (b ∈ g.nodes) × (¬ (b ∈ x))

  abbrev Exit : List ℕ → ℕ → Type 0
  Exit x r = Leaves x (first_end g r) (second_end g r) ⊎ Leaves x (second_end g r) (first_end g r)

  leaves? : (x : List ℕ) (a b : ℕ) → Dec (Leaves x a b)
  leaves? x a b = elim (mem? ℕ_discrete a x) [
    | no n ↦ no (λ t. n t.0)
    | yes i ↦ elim (mem? ℕ_discrete b g.nodes) [
      | no n ↦ no (λ t. n t.1)
      | yes j ↦ elim (mem? ℕ_discrete b x) [ yes k ↦ no (λ t. t.2 k) | no n ↦ yes (i, j, n) ]
    ]
  ]

  exit? : (x : List ℕ) (r : ℕ) → Dec (Exit x r)
  exit? x r = dec_or (leaves? x (first_end g r) (second_end g r)) (leaves? x (second_end g r) (first_end g r))

  closed_in : (x : List ℕ) → ((r : ℕ) → r ∈ rs → ¬ Exit x r) → Closed x
  closed_in x f r w v i m o n = elim (mem? ℕ_discrete v x) [ yes k ↦ k | no k ↦ absurd (f r i (exit o k)) ]
    where
      exit : Joins g r w v → ¬ (v ∈ x) → Exit x r
      exit (forth a b) k = inl (mem_cast a m, mem_cast b n, λ h. k (mem_cast (sym b) h))
      exit (back a b) k = inr (mem_cast b m, mem_cast a n, λ h. k (mem_cast (sym a) h))

  found_on : (u : ℕ) (x : List ℕ) (r a b : ℕ) → Found u x → r ∈ rs → Joins g r a b → Leaves x a b → Found u (b ∷ x)
  found_on u x r a b h i o t = record {
    once = (t.2, h.once);
    nodes = cons_⊆ t.1 h.nodes;
    from = there h.from;
    reached = λ v m. mem_elim (λ (y : ℕ). Run g rs (suc (length x)) u y) m
        (run_on (length x) u a b r (h.reached a t.0) i o t.1) (λ k. run_more (length x) u v (h.reached v k));
  }

  grow : (n u : ℕ) (x : List ℕ) → Found u x → length g.nodes ≤ n + length x → (y : List ℕ) × Found u y × Closed y
  grow zero u x h l = (x, h, λ r w v i m o k. filled ℕ_discrete x g.nodes h.once h.nodes (omega arith) v k)
  grow (suc n) u x h l = elim (find? (Exit x) (exit? x) rs) [
    | inl t ↦ elim t.2 [
      | inl s ↦ grow n u (second_end g t.0 ∷ x) (found_on u x t.0 _ _ h t.1 (forth refl refl) s) (omega arith)
      | inr s ↦ grow n u (first_end g t.0 ∷ x) (found_on u x t.0 _ _ h t.1 (back refl refl) s) (omega arith)
    ]
    | inr f ↦ (x, h, closed_in x f)
  ]

  closure : (u : ℕ) → u ∈ g.nodes → (y : List ℕ) × Found u y × Closed y
  closure u m = grow (length g.nodes) u (u ∷ []) (record {
    once = (mem_nil, tt);
    nodes = cons_⊆ m (nil_⊆ g.nodes);
    from = here refl;
    reached = λ v i. inl (sym (eq_of_singleton i));
  }) (omega arith)

  closure_in : {u v : ℕ} (y : List ℕ) → Found u y → Closed y → Joined g rs u v → v ∈ y
  closure_in y h c (stay m e) = mem_cast (sym e) h.from
  closure_in y h c (walk {r} {w} {v} j i o m) = c r w v i (closure_in y h c j) o m

  -- DECIDED
  pub joined? : (u v : ℕ) → Dec (Joined g rs u v)
  joined? u v = elim (mem? ℕ_discrete u g.nodes) [
    | no n ↦ no (λ j. n (joined_left j))
    | yes m ↦ let (y, h, c) = closure u m in elim (mem? ℕ_discrete v y) [
      | yes i ↦ yes (run_joined (length y) u v m (h.reached v i))
      | no n ↦ no (λ j. n (closure_in y h c j))
    ]
  ]

  pub joined_run : {u v : ℕ} → Joined g rs u v → Run g rs (length g.nodes) u v
  joined_run {u} {v} j =
      let (y, h, c) = closure u (joined_left j) in
      let l = pigeonhole y {m = g.nodes} h.once h.nodes in
      let e : (length g.nodes - length y) + length y ≡ length g.nodes = omega arith in
      subst (λ (x : ℕ). Run g rs x u v) e (run_add (length g.nodes - length y) (length y) u v (h.reached v (closure_in y h c j)))

  -- what `runs` tests, from a node
  pub joined_runs : (u v : ℕ) → u ∈ g.nodes → Joined g rs u v ↔ T (runs g rs (length g.nodes) u v)
  joined_runs u v m = (λ j. run_in g rs _ u v (joined_run j), λ t. run_joined (length g.nodes) u v m (run_out g rs _ u v t))

-- The parts that rows join the nodes into, by a node of each (`Parts`). A forest of k rows leaves n - k parts of n nodes (`forest_parts`),
-- so it has fewer rows than there are nodes, and exactly one fewer where it joins all nodes.
use mathlib.Core.Path.{◌∙◌, ◌≡◌, refl, subst, sym}
use mathlib.Core.Logic.{◌⊎◌, inl, inr, ⊎_elim}
use mathlib.Core.List.Memᴰ.{cases_cons as mem_cases}
use mathlib.Core.List.Memᴰ.{head as here}
use mathlib.Core.List.Memᴰ.{not-nil as mem_nil}
use mathlib.Core.List.Memᴰ.{tail as there}
use mathlib.Core.List.{List, [], ◌∷◌}
use Prim.Native.Nat.{◌+◌, ◌<◌, ◌≤◌, suc, ℕ}
use native.Mathlib.Decide.{ℕ_discrete}
use native.Mathlib.Omega.{arith}
use lib.ListN.{length}
use Rattle.lists.proofs.Distinct.{Distinct}
use Rattle.lists.proofs.Members.{◌∈◌, ◌⊆◌}
use Rattle.graph.specs.Graph.{Graph, first_end, second_end}
use Rattle.graph.proofs.Growth.{Joins, back, forth}
use Rattle.graph.proofs.Minimal.{WellFormed}
use Rattle.forests.specs.Forests.{cut}
use Rattle.forests.proofs.Cuts.{cut_distinct, cut_in, cut_length, cut_out}
use Rattle.forests.proofs.Forest.{Forest, forest_head, forest_tail}
use Rattle.forests.proofs.Joined.{Joined, Lies, Over, joined_ends, joined_more, joined_none, joined_refl, joined_sym, joined_trans, split}

-- all nodes are joined to the plant, and so to one another
abbrev pub Spans : Graph → List ℕ → Type 0
Spans g rs = (v : ℕ) → v ∈ g.nodes → Joined g rs g.plant v

pub spans_all : (g : Graph) (rs : List ℕ) → Spans g rs → (u v : ℕ) → u ∈ g.nodes → v ∈ g.nodes → Joined g rs u v
spans_all g rs s u v m n = joined_trans (joined_sym (s u m)) (s v n)

-- x has one node of each part
pub record Parts (g : Graph) (rs x : List ℕ) : Type 0 where
  pub once : Distinct x
  pub nodes : x ⊆ g.nodes
  pub near : (v : ℕ) → v ∈ g.nodes → (a : ℕ) × (a ∈ x) × Joined g rs v a
  pub apart : (a b : ℕ) → a ∈ x → b ∈ x → Joined g rs a b → a ≡ b

module _ (g : Graph) (r : ℕ) (rs x : List ℕ) (l : Lies g r) (n : ¬ Joined g rs (first_end g r) (second_end g r)) (p : Parts g rs x) where
  -- the nodes of the parts that row r joins
  abbrev a : ℕ
  a = (p.near (first_end g r) l.first).0

  abbrev b : ℕ
  b = (p.near (second_end g r) l.second).0

  two_parts : ¬ (a ≡ b)
  two_parts e = n (joined_trans (subst (Joined g rs (first_end g r)) e (p.near (first_end g r) l.first).2) (joined_sym (p.near (second_end g r) l.second).2))

  abbrev more : {u v : ℕ} → Joined g rs u v → Joined g (r ∷ rs) u v
  more j = joined_more (λ q i. there i) j

  b_to_a : Joined g (r ∷ rs) b a
  b_to_a = joined_trans (more (joined_sym (p.near (second_end g r) l.second).2))
      (joined_trans (joined_sym (joined_ends (here refl) l)) (more (p.near (first_end g r) l.first).2))

  -- what is joined over r has b's part on one side
  over_b : (u v : ℕ) → u ∈ x → v ∈ x → Over g r rs u v → (u ≡ b) ⊎ (v ≡ b)
  over_b u v i j o = side o.row o.before o.after
    where
      side : {s t : ℕ} → Joins g r s t → Joined g rs u s → Joined g rs t v → (u ≡ b) ⊎ (v ≡ b)
      side (forth c d) h k = inr (sym (p.apart b v (p.near (second_end g r) l.second).1 j
          (joined_trans (joined_sym (p.near (second_end g r) l.second).2) (rw (← d) at k))))
      side (back c d) h k = inl (p.apart u b i (p.near (second_end g r) l.second).1 (joined_trans (rw (← d) at h) (p.near (second_end g r) l.second).2))

  -- one part fewer
  parts_on : Parts g (r ∷ rs) (cut b x)
  parts_on = record {
    once = cut_distinct b x p.once;
    nodes = λ v i. p.nodes v (cut_out b x i).0;
    near = λ v m. let (c, i, j) = p.near v m in elim (ℕ_discrete c b) [
      | yes e ↦ (a, cut_in b (p.near (first_end g r) l.first).1 two_parts, joined_trans (more (subst (Joined g rs v) e j)) b_to_a)
      | no d ↦ (c, cut_in b i d, more j)
    ];
    apart = λ u v i j k.
        let (s, d) = cut_out b x i in
        let (t, e) = cut_out b x j in
        ⊎_elim (p.apart u v s t) (λ o. absurd (⊎_elim d e (over_b u v s t o))) (split k);
  }

  parts_length : suc (length (cut b x)) ≡ length x
  parts_length = cut_length b x p.once (p.near (second_end g r) l.second).1

module _ (g : Graph) (wf : WellFormed g) where
  pub forest_parts : (rs : List ℕ) → Forest g rs → (x : List ℕ) × Parts g rs x × (length x + length rs ≡ length g.nodes)
  forest_parts [] h = (
    g.nodes,
    record {
      once = wf.once;
      nodes = λ v m. m;
      near = λ v m. (v, m, joined_refl m);
      apart = λ a b i j k. joined_none k;
    },
    omega arith,
  )
  forest_parts (r ∷ rs) h =
      let (x, p, e) = forest_parts rs (forest_tail h) in
      let l = h.lies r (here refl) in
      let n = forest_head h in
      (cut (b g r rs x l n p) x, parts_on g r rs x l n p, omega (arith, parts_length g r rs x l n p))

  -- AT MOST n - 1 ROWS
  pub forest_size : (rs : List ℕ) → Forest g rs → length rs < length g.nodes
  forest_size rs h = let (x, p, e) = forest_parts rs h in omega (arith, filled_in_lem x (p.near g.plant wf.plant).1)
    where
      filled_in_lem : {a : ℕ} (x : List ℕ) → a ∈ x → 0 < length x
      filled_in_lem [] i = absurd (mem_nil i)
      filled_in_lem (y ∷ x) i = omega arith

  single : (rs x : List ℕ) → Parts g rs x → length x ≤ 1 → Spans g rs
  single rs [] p h v m = absurd (mem_nil (p.near v m).1)
  single rs (a ∷ []) p h v m =
      let (b, i, j) = p.near v m in
      let (c, k, o) = p.near g.plant wf.plant in
      joined_trans (subst (Joined g rs g.plant) (only k ∙ sym (only i)) o) (joined_sym j)
    where
      only : {b : ℕ} → b ∈ a ∷ [] → b ≡ a
      only i = ⊎_elim (λ e. e) (λ k. absurd (mem_nil k)) (mem_cases i)
  single rs (a ∷ b ∷ x) p h v m = absurd (omega arith)

  several : (rs x : List ℕ) → Parts g rs x → Spans g rs → length x ≤ 1
  several rs [] p s = omega arith
  several rs (a ∷ []) p s = omega arith
  several rs (a ∷ b ∷ x) p s = absurd (p.once.0 (here (p.apart a b (here refl) (there (here refl))
      (spans_all g rs s a b (p.nodes a (here refl)) (p.nodes b (there (here refl)))))))

  -- with exactly as many it joins all nodes, and only then
  pub full_spans : (rs : List ℕ) → Forest g rs → suc (length rs) ≡ length g.nodes → Spans g rs
  full_spans rs h e = let (x, p, l) = forest_parts rs h in single rs x p (omega arith)

  pub spans_full : (rs : List ℕ) → Forest g rs → Spans g rs → suc (length rs) ≡ length g.nodes
  spans_full rs h s = let (x, p, l) = forest_parts rs h in omega (arith, several rs x p s, forest_size rs h)

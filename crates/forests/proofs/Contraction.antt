-- CONTRACTION: the spanning trees of `merged g e` are those of g that contain e, with e taken out (`merged_tree`). The work is done for
-- `merge g e a b`, where a and b are the ends of e and b, which is renamed to a, is not the plant.
use mathlib.Core.Path.{◌∙◌, ◌≡◌, ap, refl, subst, sym}
use mathlib.Core.Logic.{◌↔◌, ⊎_elim}
use mathlib.Core.Bool.{Bool, false, true}
use mathlib.Core.List.Memᴰ.{cases_cons as mem_cases}
use mathlib.Core.List.Memᴰ.{cast as mem_cast}
use mathlib.Core.List.Memᴰ.{head as here}
use mathlib.Core.List.Memᴰ.{tail as there}
use mathlib.Core.List.{List, ◌∷◌, map}
use Prim.Native.Nat.{◌<◌, suc, ℕ}
use native.Mathlib.Decide.{ℕ_discrete}
use native.Mathlib.Omega.{arith}
use lib.Dec.{T, eqb, eqb→eq}
use lib.ListN.{get_or-map, get_or, length, length-map, length-set, set}
use lib.Seq.{get_or-set_other}
use Rattle.lists.specs.Lists.{pick}
use Rattle.lists.proofs.Distinct.{Distinct}
use Rattle.lists.proofs.Members.{◌∈◌, cons_⊆, mem_elim}
use Rattle.lists.proofs.Tests.{T_false, T_true, eq→eqb}
use Rattle.graph.specs.Graph.{Graph, first_end, is_tree, second_end}
use Rattle.graph.proofs.Growth.{Joins, back, forth, joins_sym}
use Rattle.graph.proofs.Minimal.{WellFormed}
use Rattle.graph.proofs.Tree.{tree_out}
use Rattle.forests.specs.Forests.{cut, goes, merge, merged, rename, stays}
use Rattle.forests.proofs.Cuts.{cut_back, cut_distinct, cut_gone, cut_in, cut_length, cut_old, cut_out}
use Rattle.forests.proofs.Deletion.{zeroed}
use Rattle.forests.proofs.Joined.{Joined, Lies, joined_left, joined_map, joined_row, joined_sym, joined_trans, joins_same, lies_in_lem, lies_known, stay}
use Rattle.forests.proofs.Spanning.{spans_tree, tree_forest, tree_same, tree_spans}

pub rename_this : (a b v : ℕ) → v ≡ b → rename a b v ≡ a
rename_this a b v e = rw ((T_true (eqb v b)).0 (eq→eqb v b e))

pub rename_other : (a b v : ℕ) → ¬ (v ≡ b) → rename a b v ≡ v
rename_other a b v n = rw ((T_false (eqb v b)).0 (λ t. n (eqb→eq v b t)))

pub record Ends (g : Graph) (e a b : ℕ) : Type 0 where
  pub row : Joins g e a b
  pub stay : a ∈ g.nodes
  pub go : b ∈ g.nodes
  pub differ : ¬ (a ≡ b)
  pub below : ¬ (b ≡ g.plant)

module _ (g : Graph) (wf : WellFormed g) (e a b : ℕ) (h : Ends g e a b) where
  pub merge_formed : WellFormed (merge g e a b)
  merge_formed = record {
    once = cut_distinct b g.nodes wf.once;
    plant = cut_in b wf.plant (λ d. h.below (sym d));
    no_zero = λ i. wf.no_zero (cut_old b g.nodes 0 i);
  }

  end_merge : (l : List ℕ) (r : ℕ) → ¬ (r ≡ e) → get_or (set (map (rename a b) l) e 0) r 0 ≡ rename a b (get_or l r 0)
  end_merge l r n =
      let z : rename a b 0 ≡ 0 = rename_other a b 0 (λ d. wf.no_zero (mem_cast d h.go)) in
      get_or-set_other (map (rename a b) l) e r 0 0 n ∙ subst (λ (x : ℕ). get_or (map (rename a b) l) r x ≡ rename a b (get_or l r 0)) z (get_or-map (rename a b) l r 0)

  pub merge_gone : ¬ Lies (merge g e a b) e
  merge_gone l = merge_formed.no_zero (mem_cast (sym (zeroed (map (rename a b) g.first_ends) e)) l.first)

  merge_length : length (merge g e a b).first_ends ≡ length g.first_ends
  merge_length = length-set (map (rename a b) g.first_ends) e 0 ∙ length-map g.first_ends (rename a b)

  rename_node : (v : ℕ) → v ∈ g.nodes → rename a b v ∈ cut b g.nodes
  rename_node v m = elim (ℕ_discrete v b) [
    | yes d ↦ mem_cast (rename_this a b v d) (cut_in b h.stay h.differ)
    | no n ↦ mem_cast (rename_other a b v n) (cut_in b m n)
  ]

  -- both ends of e go to a
  end_to : {v : ℕ} → (v ≡ a) → rename a b v ≡ a
  end_to {v} d = rename_other a b v (λ c. h.differ (sym d ∙ c)) ∙ d

  merge_joins : {r u v : ℕ} → ¬ (r ≡ e) → Joins g r u v → Joins (merge g e a b) r (rename a b u) (rename a b v)
  merge_joins {r} n (forth p q) = forth (end_merge g.first_ends r n ∙ ap (rename a b) p) (end_merge g.second_ends r n ∙ ap (rename a b) q)
  merge_joins {r} n (back p q) = back (end_merge g.first_ends r n ∙ ap (rename a b) p) (end_merge g.second_ends r n ∙ ap (rename a b) q)

  module _ (rs : List ℕ) (n : ¬ (e ∈ rs)) where
    other : {r : ℕ} → r ∈ rs → ¬ (r ≡ e)
    other i d = n (mem_cast (sym d) i)

    down_row : (r u v : ℕ) → r ∈ e ∷ rs → Joins g r u v → u ∈ g.nodes → v ∈ g.nodes → Joined (merge g e a b) rs (rename a b u) (rename a b v)
    down_row r u v i o m k = ⊎_elim
        (λ d. stay (rename_node u m) (⊎_elim
        (λ (x, y). end_to x ∙ sym (rename_this a b v y))
        (λ (x, y). rename_this a b u x ∙ sym (end_to y))
        (joins_same h.row (rw d at o))))
        (λ j. joined_row j (merge_joins (other j) o) (rename_node u m) (rename_node v k))
        (mem_cases i)

    pub merge_down : {u v : ℕ} → Joined g (e ∷ rs) u v → Joined (merge g e a b) rs (rename a b u) (rename a b v)
    merge_down = joined_map g (merge g e a b) (e ∷ rs) rs (rename a b) rename_node down_row

    -- a node and what it is renamed to are joined by e
    pull : (w x : ℕ) → rename a b w ≡ x → x ∈ cut b g.nodes → Joined g (e ∷ rs) w x
    pull w x d m = elim (ℕ_discrete w b) [
      | yes c ↦ rw (c, sym d ∙ rename_this a b w c) (joined_row (here refl) (joins_sym h.row) h.go h.stay)
      | no k ↦ joined_sym (stay (cut_old b g.nodes x m) (sym d ∙ rename_other a b w k))
    ]

    between : (r u v : ℕ) → r ∈ rs → rename a b (first_end g r) ≡ u → rename a b (second_end g r) ≡ v → u ∈ cut b g.nodes → v ∈ cut b g.nodes
        → Joined g (e ∷ rs) u v
    between r u v i p q m k =
        let x = pull (first_end g r) u p m in
        let y = pull (second_end g r) v q k in
        joined_trans (joined_sym x) (joined_trans (joined_row (there i) (forth refl refl) (joined_left x) (joined_left y)) y)

    up_row : (r u v : ℕ) → r ∈ rs → Joins (merge g e a b) r u v → u ∈ cut b g.nodes → v ∈ cut b g.nodes → Joined g (e ∷ rs) u v
    up_row r u v i (forth p q) m k = between r u v i (sym (end_merge g.first_ends r (other i)) ∙ p) (sym (end_merge g.second_ends r (other i)) ∙ q) m k
    up_row r u v i (back p q) m k =
        joined_sym (between r v u i (sym (end_merge g.first_ends r (other i)) ∙ p) (sym (end_merge g.second_ends r (other i)) ∙ q) k m)

    pub merge_up : {u v : ℕ} → Joined (merge g e a b) rs u v → Joined g (e ∷ rs) u v
    merge_up = joined_map (merge g e a b) g rs (e ∷ rs) (λ x. x) (cut_old b g.nodes) up_row

    pub merge_tree : T (is_tree g (e ∷ rs)) ↔ T (is_tree (merge g e a b) rs)
    merge_tree = (down, up)
      where
        size : suc (length (cut b g.nodes)) ≡ length g.nodes
        size = cut_length b g.nodes wf.once h.go

        down : T (is_tree g (e ∷ rs)) → T (is_tree (merge g e a b) rs)
        down t =
            let tree = tree_out g (e ∷ rs) t in
            spans_tree (merge g e a b) merge_formed rs (omega (arith, tree.size, size)) (λ r i. rw merge_length (tree.rows r (there i))) tree.once.1
            (λ v m. rw (rename_other a b g.plant (λ d. h.below (sym d)), rename_other a b v (cut_out b g.nodes m).1)
            at (merge_down (tree_spans g wf (e ∷ rs) t v (cut_old b g.nodes v m))))

        up : T (is_tree (merge g e a b) rs) → T (is_tree g (e ∷ rs))
        up t =
            let tree = tree_out (merge g e a b) rs t in
            spans_tree g wf (e ∷ rs) (omega (arith, tree.size, size))
            (λ r i. mem_elim (λ (x : ℕ). x < length g.first_ends) i (lies_known g wf e (lies_in_lem h.row h.stay h.go)) (λ j. rw merge_length at (tree.rows r j)))
            (n, tree.once)
            (λ v m. joined_trans (merge_up (tree_spans (merge g e a b) merge_formed rs t (rename a b v) (rename_node v m)))
            (joined_sym (pull v (rename a b v) refl (rename_node v m))))

  pub merge_avoids : (rs : List ℕ) → T (is_tree (merge g e a b) rs) → ¬ (e ∈ rs)
  merge_avoids rs t i = merge_gone ((tree_forest (merge g e a b) merge_formed rs t).lies e i)

-- the ends of a row between different nodes, the one that stays and the one that goes
pub merged_ends : (g : Graph) (e : ℕ) → Lies g e → ¬ (first_end g e ≡ second_end g e) → Ends g e (stays g e) (goes g e)
merged_ends g e l n = choose (eqb (second_end g e) g.plant) (λ t. eqb→eq (second_end g e) g.plant t) (λ k d. k (eq→eqb (second_end g e) g.plant d))
  where
    choose : (t : Bool) → (T t → second_end g e ≡ g.plant) → ((¬ T t) → ¬ (second_end g e ≡ g.plant)) → Ends g e (pick t (second_end g e) (first_end g e)) (pick t (first_end g e) (second_end g e))
    choose true y k = record { row = back refl refl; stay = l.second; go = l.first; differ = λ d. n (sym d); below = λ d. n (d ∙ sym (y tt)) }
    choose false y k = record { row = forth refl refl; stay = l.first; go = l.second; differ = n; below = k (λ t. t) }

module _ (g : Graph) (wf : WellFormed g) (e : ℕ) (l : Lies g e) (n : ¬ (first_end g e ≡ second_end g e)) where
  pub merged_formed : WellFormed (merged g e)
  merged_formed = merge_formed g wf e (stays g e) (goes g e) (merged_ends g e l n)

  pub merged_tree : (rs : List ℕ) → T (is_tree (merged g e) rs) ↔ (T (is_tree g (e ∷ rs)) × (¬ (e ∈ rs)))
  merged_tree rs = (
    λ t. let k = merge_avoids g wf e (stays g e) (goes g e) (merged_ends g e l n) rs t in
        ((merge_tree g wf e (stays g e) (goes g e) (merged_ends g e l n) rs k).1 t, k),
    λ p. (merge_tree g wf e (stays g e) (goes g e) (merged_ends g e l n) rs p.1).0 p.0,
  )

  -- the same for a list that contains e
  pub contains_tree : (rs : List ℕ) → Distinct rs → e ∈ rs → T (is_tree g rs) ↔ T (is_tree (merged g e) (cut e rs))
  contains_tree rs d i = (
    λ t. (merged_tree (cut e rs)).1 (tree_same g wf rs (e ∷ cut e rs) t (cut_gone e rs, cut_distinct e rs d) (cons_⊆ i (cut_old e rs)) (cut_back e rs), cut_gone e rs),
    λ t. tree_same g wf (e ∷ cut e rs) rs ((merged_tree (cut e rs)).0 t).0 d (cut_back e rs) (cons_⊆ i (cut_old e rs)),
  )

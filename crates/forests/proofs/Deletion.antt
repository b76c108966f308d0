-- DELETION: the spanning trees of `without g e` are those of g that avoid e (`without_tree`).
use mathlib.Core.Path.{◌∙◌, ◌≡◌, refl, sym}
use mathlib.Core.Logic.{◌↔◌}
use mathlib.Core.List.Memᴰ.{cast as mem_cast}
use mathlib.Core.List.{List, [], ◌∷◌}
use Prim.Native.Nat.{suc, zero, ℕ}
use lib.Dec.{T}
use lib.ListN.{get_or, length-set, set}
use lib.Seq.{get_or-set_other}
use Rattle.lists.proofs.Members.{◌∈◌}
use Rattle.graph.specs.Graph.{Graph, is_tree}
use Rattle.graph.proofs.Growth.{Joins, back, forth}
use Rattle.graph.proofs.Minimal.{WellFormed}
use Rattle.graph.proofs.Tree.{tree_out}
use Rattle.forests.specs.Forests.{without}
use Rattle.forests.proofs.Joined.{Joined, Lies, joined_map, joined_row}
use Rattle.forests.proofs.Spanning.{spans_tree, tree_forest, tree_spans}

pub zeroed : (l : List ℕ) (i : ℕ) → get_or (set l i 0) i 0 ≡ 0
zeroed [] i = refl
zeroed (x ∷ l) zero = refl
zeroed (x ∷ l) (suc i) = zeroed l i

module _ (g : Graph) (wf : WellFormed g) (e : ℕ) where
  pub without_formed : WellFormed (without g e)
  without_formed = record { once = wf.once; plant = wf.plant; no_zero = wf.no_zero }

  -- the deleted row joins nothing
  pub without_gone : ¬ Lies (without g e) e
  without_gone l = wf.no_zero (mem_cast (sym (zeroed g.first_ends e)) l.first)

  -- the other rows join what they did
  pub without_joins : {r u v : ℕ} → ¬ (r ≡ e) → Joins g r u v → Joins (without g e) r u v
  without_joins {r} n (forth a b) = forth (get_or-set_other g.first_ends e r 0 0 n ∙ a) (get_or-set_other g.second_ends e r 0 0 n ∙ b)
  without_joins {r} n (back a b) = back (get_or-set_other g.first_ends e r 0 0 n ∙ a) (get_or-set_other g.second_ends e r 0 0 n ∙ b)

  pub with_joins : {r u v : ℕ} → ¬ (r ≡ e) → Joins (without g e) r u v → Joins g r u v
  with_joins {r} n (forth a b) = forth (sym (get_or-set_other g.first_ends e r 0 0 n) ∙ a) (sym (get_or-set_other g.second_ends e r 0 0 n) ∙ b)
  with_joins {r} n (back a b) = back (sym (get_or-set_other g.first_ends e r 0 0 n) ∙ a) (sym (get_or-set_other g.second_ends e r 0 0 n) ∙ b)

  module _ (rs : List ℕ) (n : ¬ (e ∈ rs)) where
    other : {r : ℕ} → r ∈ rs → ¬ (r ≡ e)
    other i d = n (mem_cast (sym d) i)

    pub without_joined : (u v : ℕ) → Joined g rs u v ↔ Joined (without g e) rs u v
    without_joined u v = (
      joined_map g (without g e) rs rs (λ x. x) (λ v m. m) (λ r u v i o m k. joined_row i (without_joins (other i) o) m k),
      joined_map (without g e) g rs rs (λ x. x) (λ v m. m) (λ r u v i o m k. joined_row i (with_joins (other i) o) m k),
    )

  pub without_tree : (rs : List ℕ) → T (is_tree (without g e) rs) ↔ (T (is_tree g rs) × (¬ (e ∈ rs)))
  without_tree rs = (down, up)
    where
      down : T (is_tree (without g e) rs) → T (is_tree g rs) × (¬ (e ∈ rs))
      down t =
          let tree = tree_out (without g e) rs t in
          let n : ¬ (e ∈ rs) = λ i. without_gone ((tree_forest (without g e) without_formed rs t).lies e i) in (
            spans_tree g wf rs tree.size (λ r i. rw length-set at (tree.rows r i)) tree.once
                (λ v m. (without_joined rs n g.plant v).1 (tree_spans (without g e) without_formed rs t v m)),
            n,
          )

      up : T (is_tree g rs) × (¬ (e ∈ rs)) → T (is_tree (without g e) rs)
      up (t, n) =
          let tree = tree_out g rs t in
          spans_tree (without g e) without_formed rs tree.size (λ r i. rw length-set (tree.rows r i)) tree.once
          (λ v m. (without_joined rs n g.plant v).0 (tree_spans g wf rs t v m))

-- The NEXT ROW of the front from a search over the trees of a graph that have all must rows. The least vector that the known rows do not meet is the next
-- row (`next_least`, `known_more`), and if there is none, the known rows are the front (`none_left`, `all_known`).
use mathlib.Core.Path.{◌∙◌, ◌≡◌, ap, subst, sym}
use mathlib.Core.Logic.{◌↔◌, ⊎_elim}
use mathlib.Core.Option.{none-ne-some, some-injective, some-ne-none, none, some}
use mathlib.Core.List.Memᴰ.{map as map_in}
use mathlib.Core.List.Memᴰ.{of_map as map_out}
use mathlib.Core.List.{List, [], ◌++◌, ◌∷◌, map}
use Prim.Native.Nat.{◌<◌, ℕ}
use native.Mathlib.Omega.{arith}
use lib.Dec.{T}
use lib.ListN.{length, length-take, take}
use Rattle.lists.proofs.Members.{◌∈◌, ◌⊆◌, any_out, length_snoc}
use Rattle.lists.proofs.Tests.{decide}
use Rattle.graph.specs.Graph.{Graph, is_tree}
use Rattle.graph.proofs.Minimal.{WellFormed}
use Rattle.graph.proofs.Tree.{minimal_tree, tree_minimal, tree_out}
use Rattle.costs.specs.Costs.{cost_of, front_of, none_larger, vector_less}
use Rattle.costs.specs.Network.{Network}
use Rattle.costs.proofs.Fronts.{Sized, front_out}
use Rattle.costs.proofs.Networks.{cost_length, vectors_sized}
use Rattle.states.specs.States.{trees_with}
use Rattle.states.proofs.With.{with_mem}
use Rattle.tables.proofs.Known.{Known, known_initial, known_nothing}
use Rattle.operations.proofs.Costs.{cost_same}
use Rattle.completions.specs.Boxes.{inside}
use Rattle.completions.specs.Rows.{met_by}
use Rattle.completions.proofs.Least.{Lowered, Open}
use Rattle.completions.proofs.Rows.{Next, next_front, next_row, no_more}
use Rattle.completions.proofs.Splits.{rest_larger, unmet_rest}

-- a spanning tree with all must rows
pub record Good (g : Graph) (musts p : List ℕ) : Type 0 where
  pub tree : T (is_tree g p)
  pub has : musts ⊆ p

module _ (g : Graph) (wf : WellFormed g) (w : Network) (musts : List ℕ) where
  -- the vectors of these trees
  abbrev pub Of : List ℕ → Type 0
  Of v = (p : List ℕ) × Good g musts p × (cost_of w p ≡ v)

  abbrev pub entries : List (List ℕ)
  entries = trees_with g musts

  abbrev pub values : List (List ℕ)
  values = map (cost_of w) entries

  -- the path of a tree with all must rows has its vector
  pub good_path : (p : List ℕ) → Good g musts p → (f : List ℕ) × (f ∈ entries) × (f ⊆ p) × (p ⊆ f) × (cost_of w f ≡ cost_of w p)
  good_path p h =
      let (f, m, a, b) = tree_minimal g wf p h.tree in
      let once = (tree_out g f (minimal_tree g wf f m)).once in
      (f, (with_mem g wf musts f).1 (m, λ r i. b r (h.has r i)), a, b, cost_same w f p once (tree_out g p h.tree).once a b)

  pub path_good : (p : List ℕ) → p ∈ entries → Good g musts p
  path_good p m = let (t, a) = (with_mem g wf musts p).0 m in record { tree = minimal_tree g wf p t; has = a }

  pub good_value : (v : List ℕ) → Of v ↔ (v ∈ values)
  good_value v = (
    λ (p, h, e). let (f, m, a, b, d) = good_path p h in subst (λ (x : List ℕ). x ∈ values) (d ∙ e) (map_in (cost_of w) m),
    λ m. let (p, i, e) = map_out (cost_of w) entries m in (p, path_good p i, e),
  )

  pub sized : (v : List ℕ) → Of v → length v ≡ length w.kinds
  sized v (p, h, e) = sym (ap length e) ∙ cost_length w p

  pub values_sized : Sized (length w.kinds) values
  values_sized = vectors_sized w entries

  -- known rows are a first part of the front; at first there are none
  pub known_empty : Known values []
  known_empty = known_nothing values

  pub known_first : (known : List (List ℕ)) → Known values known → known ≡ take (length known) (front_of values)
  known_first known h = known_initial values known h

  module _ (known : List (List ℕ)) (h : Known values known) (tops : List ℕ) (under : (v : List ℕ) → Of v → T (inside tops v)) where
    -- what no known row meets is open
    unmet_open : (v : List ℕ) → Of v → ¬ T (met_by known v) → Open known tops v
    unmet_open v k n = (under v k, λ r j. unmet_rest (length w.kinds) values known values_sized h v ((good_value v).0 k) n r j)

    open_unmet : (v : List ℕ) → Of v → Open known tops v → ¬ T (met_by known v)
    open_unmet v k (i, n) t =
        let (r, j, l) = any_out (λ r. none_larger r v) known t in
        n r j (rest_larger r v (values_sized r (front_out values (h.final r j)).0 ∙ sym (sized v k)) l)

    -- NONE
    pub none_left : Lowered Of (Open known tops) (Open known tops) none none → (v : List ℕ) → v ∈ values → T (met_by known v)
    none_left l v m = ⊎_elim
        (λ t. t)
        (λ n. let k = (good_value v).1 m in let (u, e, z) = l.least v k (unmet_open v k n) in absurd (none-ne-some u e))
        (decide (met_by known v))

    pub all_known : Lowered Of (Open known tops) (Open known tops) none none → known ≡ front_of values
    all_known l = no_more (length w.kinds) values known values_sized h (none_left l)

    module _ (v : List ℕ) (l : Lowered Of (Open known tops) (Open known tops) none (some v)) where
      -- it is a vector of the region
      found : Of v × Open known tops v
      found = ⊎_elim
          (λ e. absurd (some-ne-none v e))
          (λ (u, e, k, o). subst (λ (x : List ℕ). Of x × Open known tops x) (sym (some-injective v u e)) (k, o))
          l.from

      -- NEXT
      pub next_least : Next values known v
      next_least = record {
        among = (good_value v).0 found.0;
        unmet = open_unmet v found.0 found.1;
        least = λ x m n.
            let k = (good_value x).1 m in
            let (u, e, z) = l.least x k (unmet_open x k n) in
            subst (λ (y : List ℕ). ¬ T (vector_less x y)) (sym (some-injective v u e)) z;
      }

      -- so one more row is known
      pub known_more : Known values (known ++ (v ∷ [])) × (v ∈ front_of values) × (length known < length (front_of values))
      known_more = (
        more,
        next_front (length w.kinds) values known values_sized h v next_least,
        omega (
          arith,
          length_snoc known v,
          ap length (known_initial values (known ++ (v ∷ [])) more) ∙ length-take (length (known ++ (v ∷ []))) (front_of values),
        ),
      )
        where
          more : Known values (known ++ (v ∷ []))
          more = next_row (length w.kinds) values known values_sized h v next_least

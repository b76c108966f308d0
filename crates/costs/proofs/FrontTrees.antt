-- The witnesses of a front (`front_trees`): each is one of the trees (`front_listed`) and has its row's vector (`front_vectors_lem`), and no tree before it
-- has that vector (`witness_first`).
use mathlib.Core.Path.{◌∙◌, ◌≡◌, ap, subst, sym}
use mathlib.Core.Option.{some}
use mathlib.Core.List.Memᴰ.{of_map as map_out}
use mathlib.Core.List.{List, ◌++◌, ◌∷◌, map}
use Prim.Native.Nat.{ℕ}
use lib.ListN.{length, length-map}
use Rattle.lists.specs.Lists.{first_with, same}
use Rattle.lists.proofs.Maps.{map_back}
use Rattle.lists.proofs.Members.{◌∈◌, first_in_lem, first_out, first_stands, same_of, same_out}
use Rattle.graph.specs.Paths.{path_in}
use Rattle.costs.specs.Costs.{cost_of, front_trees, front_vectors, tree_with}
use Rattle.costs.specs.Network.{Network}
use Rattle.costs.proofs.Fronts.{front_out}

module _ (g : Network) (trees : List (List ℕ)) where
  pub witness_found : (v : List ℕ) → v ∈ map (cost_of g) trees → first_with (cost_of g) v trees ≡ some (tree_with g trees v)
  unfolding tree_with
  witness_found v m =
      let (p, i, e) = map_out (cost_of g) trees m in
      let (q, f) = first_in_lem (λ r. same v (cost_of g r)) trees i (same_of v (cost_of g p) (sym e)) in
      f ∙ ap some (sym (ap path_in f))

  pub witness_out : (v : List ℕ) → v ∈ map (cost_of g) trees → (tree_with g trees v ∈ trees) × (cost_of g (tree_with g trees v) ≡ v)
  witness_out v m =
      let (i, t) = first_out (λ r. same v (cost_of g r)) trees (witness_found v m) in
      (i, sym (same_out v (cost_of g (tree_with g trees v)) t))

  -- THE FIRST of the trees with its vector
  pub witness_first : (v : List ℕ) → v ∈ map (cost_of g) trees
      → (before : List (List ℕ)) × (behind : List (List ℕ)) × (trees ≡ before ++ tree_with g trees v ∷ behind) × ((q : List ℕ) → q ∈ before → ¬ (cost_of g q ≡ v))
  witness_first v m =
      let (before, behind, stands, none_before) = first_stands (λ r. same v (cost_of g r)) trees (witness_found v m) in
      (before, behind, stands, λ q i e. none_before q i (same_of v (cost_of g q) (sym e)))

  -- they have the vectors of the front
  pub front_vectors_lem : map (cost_of g) (front_trees g trees) ≡ front_vectors g trees
  unfolding front_trees
  front_vectors_lem = map_back (cost_of g) (tree_with g trees) (front_vectors g trees) (λ v m. (witness_out v (front_out (map (cost_of g) trees) m).0).1)

  pub front_trees_length : length (front_trees g trees) ≡ length (front_vectors g trees)
  unfolding front_trees
  front_trees_length = length-map (front_vectors g trees) (tree_with g trees)

  -- each is one of the trees
  pub front_listed : (p : List ℕ) → p ∈ front_trees g trees → p ∈ trees
  unfolding front_trees
  front_listed p m =
      let (v, i, e) = map_out (tree_with g trees) (front_vectors g trees) m in
      subst (λ (q : List ℕ). q ∈ trees) e (witness_out v (front_out (map (cost_of g) trees) i).0).0

-- The first n witnesses of the front are what a pass may start from (`known_front`, `known_firsts`), and rows that are first trees are determined by
-- their vectors (`firsts_trees`).
use mathlib.Core.Path.{◌∙◌, ◌≡◌, ap, subst, sym}
use mathlib.Core.Logic.{⊎_elim}
use mathlib.Core.Option.{some}
use mathlib.Core.List.Memᴰ.{of_map as map_out}
use mathlib.Core.List.{List, map}
use Prim.Native.Nat.{ℕ}
use lib.ListN.{drop, take}
use Rattle.lists.specs.Lists.{first_with}
use Rattle.lists.proofs.Ascending.{take_ascending, take_less_drop}
use Rattle.lists.proofs.Maps.{map_back, map_take}
use Rattle.lists.proofs.Members.{◌∈◌, take_or_drop, take_out}
use Rattle.lists.proofs.Orders.{less_asym}
use Rattle.graph.specs.Paths.{path_in}
use Rattle.costs.specs.Costs.{cost_of, front_of, front_trees, front_vectors, tree_with, vector_less}
use Rattle.costs.specs.Network.{Network}
use Rattle.costs.proofs.FrontTrees.{front_vectors_lem, witness_found, witness_out}
use Rattle.costs.proofs.Fronts.{front_ascending, front_out}
use Rattle.costs.proofs.Vectors.{vector_order}
use Rattle.tables.proofs.Known.{Known}
use Rattle.tables.proofs.Witness.{Firsts}

-- a first part of the front may be known
pub known_part : (vs : List (List ℕ)) (n : ℕ) → Known vs (take n (front_of vs))
known_part vs n = record {
  ascending = take_ascending vector_less n (front_of vs) (front_ascending vs);
  final = λ w m. take_out n (front_of vs) m;
  first = λ x y i j l. ⊎_elim
      (λ (m : x ∈ take n (front_of vs)). m)
      (λ (m : x ∈ drop n (front_of vs)). absurd (less_asym vector_order x y l (take_less_drop vector_less n (front_of vs) (front_ascending vs) j m)))
      (take_or_drop n (front_of vs) i);
}

module _ (g : Network) (trees : List (List ℕ)) where
  -- first trees are those of their vectors
  pub firsts_trees : (rows : List (List ℕ)) → Firsts (cost_of g) trees rows → rows ≡ map (tree_with g trees) (map (cost_of g) rows)
  unfolding tree_with
  firsts_trees rows f = sym (map_back (tree_with g trees) (cost_of g) rows (λ r m. ap path_in (f r m)))

  module _ (n : ℕ) where
    pub known_vectors : map (cost_of g) (take n (front_trees g trees)) ≡ take n (front_vectors g trees)
    known_vectors = map_take (cost_of g) n (front_trees g trees) ∙ ap (take n) (front_vectors_lem g trees)

    pub known_front : Known (map (cost_of g) trees) (map (cost_of g) (take n (front_trees g trees)))
    known_front = rw known_vectors (known_part (map (cost_of g) trees) n)

    pub known_firsts : Firsts (cost_of g) trees (take n (front_trees g trees))
    unfolding front_trees
    known_firsts r m =
        let (v, i, e) = map_out (tree_with g trees) (front_vectors g trees) (take_out n (front_trees g trees) m) in
        let j = (front_out (map (cost_of g) trees) i).0 in
        subst (λ (q : List ℕ). first_with (cost_of g) (cost_of g q) trees ≡ some q) e (rw (witness_out g trees v j).1 (witness_found g trees v j))

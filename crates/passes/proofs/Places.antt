-- A pass walks a list of trees place by place: the first stands at place 0, the next one behind a tree at the next place, and behind the last there is none
-- (`first_in_lem`, `next_in_lem`, `last_in` of crate graph). What is left behind a tree grows less (`left_less`). So goes the pass (`stands_first`, `stands_next`, `stands_last`).
use mathlib.Core.Path.{◌∙◌, ◌≡◌, ap, subst, sym}
use mathlib.Core.Option.{none, some}
use mathlib.Core.List.{List, [], ◌++◌, ◌∷◌}
use Prim.Native.Nat.{◌<◌, suc, ℕ}
use native.Mathlib.Omega.{arith}
use lib.ListN.{drop, get_elem?, length, length-drop, take}
use lib.Seq.{split_at, take-length, take-suc}
use Rattle.lists.specs.Lists.{filter_b}
use Rattle.lists.proofs.Ascending.{after_above, get_d_at}
use Rattle.graph.specs.Graph.{Graph}
use Rattle.graph.specs.Paths.{path_less}
use Rattle.graph.proofs.Parts.{FirstIn, LastIn, NextIn, Part, first_in_lem, last_in, next_in_lem}
use Rattle.graph.proofs.Trees.{path_order}
use Rattle.costs.specs.Costs.{cost_of}
use Rattle.costs.specs.Network.{Network}
use Rattle.tables.specs.Tables.{Table}
use Rattle.passes.specs.Passes.{enter_behind, known_trees}
use Rattle.passes.proofs.Passes.{Done, pass_begins, pass_goes_on}

-- how many trees of a list stand behind a path
unfoldable pub left : Graph → List (List ℕ) → List ℕ → ℕ
left g L p = length (filter_b (path_less g p) L)

module _ {g : Graph} {L : List (List ℕ)} (part : Part g L) where
  left_is : (i : ℕ) (p : List ℕ) → get_elem? L i ≡ some p → length (drop (suc i) L) ≡ left g L p
  unfolding left
  left_is i p at = ap length (after_above (path_order g) L i p part.ascending at)

  pub left_less : (i : ℕ) (p q : List ℕ) → get_elem? L i ≡ some p → NextIn g L p q → left g L q < left g L p
  left_less i p q at h =
      let behind = next_in_lem part i p at q h in
      omega (arith, left_is i p at, left_is (suc i) q behind, length-drop (suc i) L, length-drop (suc (suc i)) L, (get_d_at L (suc i) [] behind).0)

-- The pass stands before the path p, with the table t behind the known rows.
pub record Stands (w : Network) (L : List (List ℕ)) (n more : ℕ) (p : List ℕ) (t : Table (List ℕ)) : Type 0 where
  pub place : ℕ
  pub at : get_elem? L place ≡ some p
  pub done : Done w L n more (take place L) t

-- by the order of a graph of whose list the trees are a part
module _ (w : Network) (n more : ℕ) {g : Graph} {L : List (List ℕ)} (part : Part g L) where
  pub stands_first : (p : List ℕ) → FirstIn g L p → Stands w L n more p (record { rows = []; bound = none })
  stands_first p h = record { place = 0; at = first_in_lem part p h; done = pass_begins w L n more }

  module _ (p : List ℕ) (t : Table (List ℕ)) (s : Stands w L n more p t) where
    -- with the path offered
    through : Done w L n more (take (suc s.place) L) (enter_behind (cost_of w) more (known_trees w L n) t p)
    through =
        let (within, same) = get_d_at L s.place [] s.at in
        let parts : take s.place L ++ p ∷ drop (suc s.place) L ≡ L = sym (split_at L s.place [] within ∙ ap (λ (q : List ℕ). take s.place L ++ q ∷ drop (suc s.place) L) same) in
        let one_more : take s.place L ++ (p ∷ []) ≡ take (suc s.place) L = sym (take-suc L s.place [] within ∙ ap (λ (q : List ℕ). take s.place L ++ (q ∷ [])) same) in
        subst (λ (d : List (List ℕ)). Done w L n more d (enter_behind (cost_of w) more (known_trees w L n) t p)) one_more
        (pass_goes_on w L n more (take s.place L) (drop (suc s.place) L) p t parts s.done)

    pub stands_next : (q : List ℕ) → NextIn g L p q → Stands w L n more q (enter_behind (cost_of w) more (known_trees w L n) t p)
    stands_next q h = record { place = suc s.place; at = next_in_lem part s.place p s.at q h; done = through }

    pub stands_last : LastIn g L p → Done w L n more L (enter_behind (cost_of w) more (known_trees w L n) t p)
    stands_last h =
        subst (λ (d : List (List ℕ)). Done w L n more d (enter_behind (cost_of w) more (known_trees w L n) t p))
        (ap (λ (m : ℕ). take m L) (last_in part s.place p s.at h) ∙ take-length L) through

-- A part of the list of paths, in its order (`Part`): its first path (`FirstIn`), the next of one (`NextIn`), and that one is the last (`LastIn`), with the
-- places where these stand in it: `first_in_lem`, `next_in_lem`, `last_in`.
use mathlib.Core.Path.{◌≡◌, subst, sym}
use mathlib.Core.Logic.{⊎_elim}
use mathlib.Core.Bool.{Bool}
use mathlib.Core.Option.{some}
use mathlib.Core.List.{List}
use Prim.Native.Nat.{pred, suc, ℕ}
use lib.Dec.{T}
use lib.ListN.{get_elem?, length}
use Rattle.lists.specs.Lists.{filter_b}
use Rattle.lists.proofs.Ascending.{filter_ascending, least_first, none_above_last, successor_next}
use Rattle.lists.proofs.Distinct.{Distinct}
use Rattle.lists.proofs.Members.{◌∈◌, ◌⊆◌, filter_out}
use Rattle.lists.proofs.Orders.{Ascending, ascending_distinct, less_asym}
use Rattle.graph.specs.Graph.{Graph}
use Rattle.graph.specs.Paths.{path_less, trees}
use Rattle.graph.proofs.Listing.{AtMost}
use Rattle.graph.proofs.Trees.{path_order, trees_ascending, trees_length}

pub record Part (g : Graph) (l : List (List ℕ)) : Type 0 where
  pub ascending : Ascending (path_less g) l
  pub listed : l ⊆ trees g

pub trees_part : (g : Graph) → Part g (trees g)
trees_part g = record { ascending = trees_ascending g; listed = λ p m. m }

pub filter_part : {g : Graph} {l : List (List ℕ)} (test : List ℕ → Bool) → Part g l → Part g (filter_b test l)
filter_part {g} {l} test h =
    record { ascending = filter_ascending (path_less g) test l h.ascending; listed = λ p m. h.listed p (filter_out test l m).0 }

module _ {g : Graph} {l : List (List ℕ)} (h : Part g l) where
  -- no path stands there twice
  pub part_distinct : Distinct l
  part_distinct = ascending_distinct (path_order g) l h.ascending

  -- each has a row for each node but the plant
  pub part_length : (p : List ℕ) → p ∈ l → length p ≡ pred (length g.nodes)
  part_length p m = trees_length g p (h.listed p m)

module _ (g : Graph) (l : List (List ℕ)) where
  pub record FirstIn (p : List ℕ) : Type 0 where
    pub listed : p ∈ l
    pub least : (q : List ℕ) → q ∈ l → AtMost g p q

  pub record NextIn (p q : List ℕ) : Type 0 where
    pub listed : q ∈ l
    pub above : T (path_less g p q)
    pub least : (r : List ℕ) → r ∈ l → T (path_less g p r) → AtMost g q r

  abbrev pub LastIn : List ℕ → Type 0
  LastIn p = (q : List ℕ) → q ∈ l → ¬ T (path_less g p q)

pub not_below : (g : Graph) (p q : List ℕ) → AtMost g p q → ¬ T (path_less g q p)
not_below g p q h t =
    ⊎_elim (λ (e : p ≡ q). (path_order g).irrefl p (subst (λ (x : List ℕ). T (path_less g x p)) (sym e) t)) (λ s. less_asym (path_order g) p q s t) h

-- Places

module _ {g : Graph} {l : List (List ℕ)} (part : Part g l) where
  pub first_in_lem : (p : List ℕ) → FirstIn g l p → get_elem? l 0 ≡ some p
  first_in_lem p h = least_first (path_order g) l p part.ascending h.listed (λ q m. not_below g p q (h.least q m))

  module _ (i : ℕ) (p : List ℕ) (at : get_elem? l i ≡ some p) where
    pub next_in_lem : (q : List ℕ) → NextIn g l p q → get_elem? l (suc i) ≡ some q
    next_in_lem q h = successor_next (path_order g) l i p q part.ascending at h.listed h.above (λ r m t. not_below g q r (h.least r m t))

    pub last_in : LastIn g l p → suc i ≡ length l
    last_in h = none_above_last (path_order g) l i p part.ascending at h

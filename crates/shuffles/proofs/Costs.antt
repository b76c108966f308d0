-- Rows numbered anew cost the same: a tree by its rows in either network (`cost_renamed`), so the two networks have one front (`front_renamed`).
use mathlib.Core.Path.{◌∙◌, ◌≡◌, ap, ap₂, refl, sym}
use mathlib.Core.Bool.{◌||◌, cond}
use mathlib.Core.List.Memᴰ.{cast as mem_cast}
use mathlib.Core.List.Memᴰ.{head as here}
use mathlib.Core.List.Memᴰ.{map as map_in}
use mathlib.Core.List.Memᴰ.{of_map as map_out}
use mathlib.Core.List.Memᴰ.{tail as there}
use mathlib.Core.List.{List, [], ◌∷◌, map, map-map}
use Prim.Native.Nat.{◌+◌, ◌<◌, ℕ}
use lib.Dec.{eqb}
use lib.ListN.{get_or, length}
use Rattle.lists.specs.Lists.{largest, member, sum}
use Rattle.lists.proofs.Maps.{map_filter, map_same}
use Rattle.lists.proofs.Members.{◌⊆◌, filter_out, filter_same}
use Rattle.costs.specs.Costs.{by_kinds, cost_at, cost_by, cost_of, front, in_street, street_cost, streets_of, vectors}
use Rattle.costs.specs.Layouts.{layouts}
use Rattle.costs.specs.Network.{Kind, Network, Row, added, closing, row_at, worst}
use Rattle.costs.proofs.Criteria.{kinds_same}
use Rattle.costs.proofs.Fronts.{front_same}
use Rattle.shuffles.proofs.Renames.{Known, Renaming, layout_from, layout_known, layout_renamed}

module _ {w v : Network} {ρ τ : ℕ → ℕ} (n : Renaming w v ρ τ) where
  street_renamed : (r : ℕ) → r < length v.rows → (row_at w (ρ r)).street ≡ (row_at v r).street
  street_renamed r l = ap (λ (row : Row). row.street) (n.row r l)

  costs_renamed : (c : ℕ) (p : List ℕ) → Known v p → map (cost_at w c) (map ρ p) ≡ map (cost_at v c) p
  costs_renamed c p l =
      map-map (cost_at w c) ρ p ∙ map_same (λ r. cost_at w c (ρ r)) (cost_at v c) p (λ r i. ap (λ (row : Row). get_or row.costs c 0) (n.row r (l r i)))

  streets_renamed : (p : List ℕ) → Known v p → streets_of w (map ρ p) ≡ streets_of v p
  unfolding streets_of
  streets_renamed [] l = refl
  streets_renamed (r ∷ p) l = ap₂ (λ (t : ℕ) (rest : List ℕ). cond (eqb t 0 || member t rest) rest (t ∷ rest))
      (street_renamed r (l r (here refl))) (streets_renamed p (λ q i. l q (there i)))

  in_street_renamed : (c t : ℕ) (p : List ℕ) → Known v p → map (cost_at w c) (in_street w t (map ρ p)) ≡ map (cost_at v c) (in_street v t p)
  in_street_renamed c t p l =
      ap (map (cost_at w c)) (sym (map_filter ρ (λ r. eqb (row_at w r).street t) p)
      ∙ ap (map ρ) (filter_same (λ r. eqb (row_at w (ρ r)).street t) (λ r. eqb (row_at v r).street t) p (λ r i. ap (λ (x : ℕ). eqb x t) (street_renamed r (l r i)))))
      ∙ costs_renamed c (in_street v t p) (λ r i. l r (filter_out (λ r. eqb (row_at v r).street t) p i).0)

  kind_renamed : (p : List ℕ) → Known v p → (kind : Kind) (c : ℕ) → cost_by kind w c (map ρ p) ≡ cost_by kind v c p
  kind_renamed p l added c = ap sum (costs_renamed c p l)
  kind_renamed p l worst c = ap largest (costs_renamed c p l)
  kind_renamed p l closing c = ap₂ ◌+◌
      (ap sum (map_same (street_cost w c (map ρ p)) (street_cost v c p) (streets_of w (map ρ p)) (λ t i. ap largest (in_street_renamed c t p l))
      ∙ ap (map (street_cost v c p)) (streets_renamed p l)))
      (ap sum (in_street_renamed c 0 p l))

  -- THE COST
  pub cost_renamed : (p : List ℕ) → Known v p → cost_of w (map ρ p) ≡ cost_of v p
  unfolding cost_of
  cost_renamed p l =
      kinds_same (λ kind c. cost_by kind w c (map ρ p)) (λ kind c. cost_by kind v c p) (kind_renamed p l) 0 w.kinds
      ∙ ap (by_kinds (λ kind c. cost_by kind v c p) 0) (sym n.kinds)

  -- THE FRONT
  pub front_renamed : front v ≡ front w
  front_renamed = front_same (vectors v) (vectors w) part whole
    where
      part : vectors v ⊆ vectors w
      part x i =
          let (p, j, e) = map_out (cost_of v) (layouts v) i in
          mem_cast (sym e ∙ sym (cost_renamed p (layout_known v p j))) (map_in (cost_of w) (layout_renamed n p j))

      whole : vectors w ⊆ vectors v
      whole x i =
          let (q, j, e) = map_out (cost_of w) (layouts w) i in
          let (p, k, f) = layout_from n q j in
          mem_cast (sym e ∙ ap (cost_of w) (sym f) ∙ cost_renamed p (layout_known v p k)) (map_in (cost_of v) k)

-- Entering a vector with its tree in the filled rows of a cost table and a witness table (document 01, shared readings).
use Rattle.std.specs.Prelude.{◌||◌, List, [], ◌++◌, ◌∷◌, map, ℕ, eqb, ltb, drop, length}
use Rattle.lists.specs.Lists.{pick}
use Rattle.pages.specs.Pages.{capacity, flat, pieces}
use Rattle.tables.specs.Tables as tables

-- a row of both tables: a vector and its tree
pub record Row : Type 0 where
  pub vector : List ℕ
  pub path : List ℕ

unfoldable pub beside : List (List ℕ) → List (List ℕ) → List Row
beside [] paths = []
beside (v ∷ vs) [] = []
beside (v ∷ vs) (p ∷ ps) = record { vector = v; path = p } ∷ beside vs ps

-- the first count rows, of k costs and w row numbers each
unfoldable pub filled : ℕ → ℕ → ℕ → List ℕ → List ℕ → List Row
filled k w count costs witnesses = beside (pieces k count costs) (pieces w count witnesses)

-- what entering comes to: the tables do not have so many rows; a row equals or dominates the vector; there is no room; the new count
pub data Entering : Type 0 where
  unfit : Entering
  met : Entering
  full : Entering
  entered : ℕ → Entering

-- the answer, and both tables afterwards
pub record EnterEnd : Type 0 where
  pub answer : Entering
  pub costs : List ℕ
  pub witnesses : List ℕ

-- the rows in the first places; rows past them keep their content
abbrev pub costs_over : List Row → List ℕ → List ℕ
costs_over rows costs = flat (map (λ r. r.vector) rows) ++ drop (length (flat (map (λ r. r.vector) rows))) costs

abbrev pub witnesses_over : List Row → List ℕ → List ℕ
witnesses_over rows witnesses = flat (map (λ r. r.path) rows) ++ drop (length (flat (map (λ r. r.path) rows))) witnesses

unfoldable pub enter_call : List ℕ → List ℕ → ℕ → List ℕ → List ℕ → EnterEnd
enter_call costs witnesses count vector path =
    let k = length vector in
    let w = length path in
    let e : Row = record { vector = vector; path = path } in
    let rows = filled k w count costs witnesses in
    let new = tables.replaced (λ r. r.vector) rows e in
    pick (eqb k 0 || (eqb w 0 || ltb (capacity k w costs witnesses) count))
    (record { answer = unfit; costs = costs; witnesses = witnesses })
    (pick (tables.met (λ r. r.vector) rows e)
    (record { answer = met; costs = costs; witnesses = witnesses })
    (pick (ltb (capacity k w costs witnesses) (length new))
    (record { answer = full; costs = costs; witnesses = witnesses })
    (record { answer = entered (length new); costs = costs_over new costs; witnesses = witnesses_over new witnesses })))

-- The front by a table of at most `cap` rows, over a list of entries that can be walked again and again but not stored.
-- An entry e carries the vector `key e`, and may carry more: `plan (λ v. v)` works on vectors alone, and with pairs the rows keep where they were met.
use Rattle.std.specs.Prelude.{Bool, false, not, true, List, [], ◌∷◌, suc, zero, ℕ, ltb, drop, length, take}
use Rattle.std.proofs.Math.Option.{Option, none, some}
use Rattle.lists.specs.Lists.{any, filter_b, insert, pick}
use Rattle.costs.specs.Costs.{dominates, none_larger, vector_less}

-- rows that ascend and do not dominate one another, and a bound: what is not less than it is left to a later walk
pub record Table (E : Type 0) : Type 0 where
  pub rows : List E
  pub bound : Option (List ℕ)

-- the rows that the planner ends with, and whether they are the whole front
pub record Plan (E : Type 0) : Type 0 where
  pub rows : List E
  pub whole : Bool

abbrev pub below : Option (List ℕ) → List ℕ → Bool
below none v = true
below (some b) v = vector_less v b

module _ {E : Type 0} (key : E → List ℕ) where
  -- a row equals or dominates the entry
  abbrev pub met : List E → E → Bool
  met rows e = any (λ r. none_larger (key r) (key e)) rows

  -- the rows that the entry dominates go, and it is inserted in order
  abbrev pub replaced : List E → E → List E
  replaced rows e = insert (λ a b. vector_less (key a) (key b)) e (filter_b (λ r. not (dominates (key e) (key r))) rows)

  abbrev pub enter : List E → E → List E
  enter rows e = pick (met rows e) rows (replaced rows e)

  -- all entries, one after the other
  abbrev pub enter_all : List E → List E → List E
  enter_all rows [] = rows
  enter_all rows (e ∷ es) = enter_all (enter rows e) es

  -- the first of the rows that do not fit becomes the bound
  abbrev pub bounded : List E → Option (List ℕ) → List E → Table E
  bounded rows b [] = record { rows = rows; bound = b }
  bounded rows b (e ∷ es) = record { rows = rows; bound = some (key e) }

  abbrev pub cut_at : ℕ → Option (List ℕ) → List E → Table E
  cut_at cap b rows = bounded (take cap rows) b (drop cap rows)

  abbrev pub enter_bounded : ℕ → Table E → E → Table E
  enter_bounded cap s e = pick (below s.bound (key e)) (pick (met s.rows e) s (cut_at cap s.bound (replaced s.rows e))) s

  abbrev pub walk : ℕ → Table E → List E → Table E
  walk cap s [] = s
  walk cap s (e ∷ es) = walk cap (enter_bounded cap s e) es

  -- one pass over the list, with the rows that are known to be first in the front
  abbrev pub pass : ℕ → List E → List E → Table E
  pass cap known es = walk cap (record { rows = known; bound = none }) es

  -- after a pass: no bound, all is found; a bound and a full table of known rows, there is more than fits; else again
  abbrev pub conclude : List E → Option (List ℕ) → Bool → Plan E → Plan E
  conclude rows none room again = record { rows = rows; whole = true }
  conclude rows (some b) true again = again
  conclude rows (some b) false again = record { rows = rows; whole = false }

  unfoldable pub passes : ℕ → ℕ → List E → List E → Plan E
  passes cap zero known es = record { rows = known; whole = false }
  passes cap (suc n) known es =
      let s = pass cap known es in
      let again = passes cap n s.rows es in
      conclude s.rows s.bound (ltb (length known) cap) again

  abbrev pub plan : ℕ → List E → Plan E
  plan cap es = passes cap (suc cap) [] es

-- A vector, and its place in the list that is walked.
pub record Found : Type 0 where
  pub vector : List ℕ
  pub place : ℕ

-- the vectors of a list with their places, counted from i
abbrev pub placed : ℕ → List (List ℕ) → List Found
placed i [] = []
placed i (v ∷ vs) = record { vector = v; place = i } ∷ placed (suc i) vs

-- Offering a vector with its tree to a scratch table of so many rows, as a computation; and which table of trees the places stand for (`Held`).
use Rattle.std.specs.Prelude.{◌≡◌, Bool, ◌||◌, true, List, map, ◌*◌, ◌/◌, ◌≤◌, ℕ, eqb, leb, ltb, drop, length, take}
use Rattle.std.proofs.Math.Option.{Option, none, some}
use Rattle.lists.specs.Lists.{pick}
use Rattle.tables.specs.Tables.{Table, below}
use Rattle.compare.specs.Compare.{met_in}
use Rattle.table.specs.Enter.{EnterEnd, Entering, Row, enter_call, entered, filled, full, met, unfit}
use Rattle.scratch.specs.declared.Scratch.{Scratch}

-- how the table stands, and its places, after an offer
pub record Offered : Type 0 where
  pub scratch : Scratch
  pub costs : List ℕ
  pub witnesses : List ℕ

-- the bound: the vector of the row that was dropped last, which stands behind the rows
unfoldable pub bound_in : ℕ → ℕ → Bool → List ℕ → Option (List ℕ)
bound_in rows k bounded costs = pick bounded (some (take k (drop (rows * k) costs))) none

-- what entering came to: one row too many is dropped
abbrev pub settled : ℕ → Scratch → Entering → Scratch
settled rows s unfit = s
settled rows s met = s
settled rows s full = s
settled rows s (entered n) = pick (ltb rows n) (record { count = rows; bounded = true }) (record { count = n; bounded = s.bounded })

abbrev pub offered : ℕ → Scratch → EnterEnd → Offered
offered rows s e = record { scratch = settled rows s e.answer; costs = e.costs; witnesses = e.witnesses }

-- Nothing changes where the tables have fewer rows than said, the vector is not below the bound, or a known row meets it.
unfoldable pub offer_of : List ℕ → ℕ → List ℕ → List ℕ → ℕ → Scratch → List ℕ → List ℕ → Offered
offer_of known count costs witnesses rows s vector path =
    let k = length vector in
    let still : Offered = record { scratch = s; costs = costs; witnesses = witnesses } in
    pick (eqb k 0 || (leb (length costs / k) rows || ltb (length known / k) count))
    still
    (pick (below (bound_in rows k s.bounded costs) vector)
    (pick (met_in known count vector) still (offered rows s (enter_call costs witnesses s.count vector path)))
    still)

-- a tree with its vector
abbrev pub row_with : (List ℕ → List ℕ) → List ℕ → Row
row_with key p = record { vector = key p; path = p }

-- The first places hold the rows of a table of trees, each with its vector of k parts and its w rows, and its bound stands behind them.
pub record Held (key : List ℕ → List ℕ) (k w rows : ℕ) (s : Scratch) (costs witnesses : List ℕ) (t : Table (List ℕ)) : Type 0 where
  pub few : s.count ≤ rows
  pub rows_are : filled k w s.count costs witnesses ≡ map (row_with key) t.rows
  pub bound_is : bound_in rows k s.bounded costs ≡ t.bound

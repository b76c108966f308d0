-- What the parts of entering compute: which rows stay, and where the vector stands among them.
use Rattle.std.specs.Prelude.{◌≡◌, Bool, cond, not, List, [], ◌∷◌, suc, ℕ, length}
use Rattle.lists.specs.Lists.{filter_b}
use Rattle.costs.specs.Costs.{dominates, vector_less}
use Rattle.pages.specs.Pages.{pieces}
use Rattle.table.specs.Enter.{Row, costs_over, witnesses_over}

-- how many stand before the first that fails a test
unfoldable pub before : {A : Type 0} → (A → Bool) → List A → ℕ
before p [] = 0
before p (a ∷ l) = cond (p a) (suc (before p l)) 0

-- how many of the first rows stand before the first that is not less than the vector
abbrev pub place_in : List ℕ → ℕ → List ℕ → ℕ
place_in costs count v = before (λ u. vector_less u v) (pieces (length v) count costs)

-- the rows that the vector does not dominate
unfoldable pub staying : List ℕ → List Row → List Row
staying v rows = filter_b (λ r. not (dominates v r.vector)) rows

-- so many rows stand in the first places of both tables; the places past them are as they were
pub record Closed (rows : List Row) (costs witnesses : List ℕ) (count : ℕ) (costs' witnesses' : List ℕ) : Type 0 where
  pub count_is_lem : count ≡ length rows
  pub costs_are : costs' ≡ costs_over rows costs
  pub witnesses_are : witnesses' ≡ witnesses_over rows witnesses

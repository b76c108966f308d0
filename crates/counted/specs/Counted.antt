-- What the searches of the counting code find, and what its loops keep.
use Rattle.std.specs.Prelude.{◌≡◌, List, ◌+◌, ◌<◌, ◌≤◌, suc, zero, ℕ}
use Rattle.counts.specs.Matrix.{Matrix, absent, held_total, limit}
use Rattle.weights.specs.Weights.{matrix_in}
use Rattle.weights.specs.declared.Weight.{Weight}

-- v has no link to the nodes from `from` up to `to`
abbrev pub NoLink : Matrix → ℕ → ℕ → ℕ → Type 0
NoLink w v «from» to = (i : ℕ) → «from» ≤ i → i < to → (w v i).merged ≡ 0

-- x is the first link of v from `from` on
pub record FirstLink (w : Matrix) (v «from» x : ℕ) : Type 0 where
  pub above : «from» ≤ x
  pub below : x < v
  pub before : NoLink w v «from» x
  pub found : ¬ ((w v x).merged ≡ 0)

-- the links of v before j that cannot be merged are absent
abbrev pub Clear : Matrix → ℕ → ℕ → Type 0
Clear w v j = (i : ℕ) → i < j → (w v i).merged ≡ 0 → w v i ≡ absent

-- those before j are made absent, and the count is the same
pub record Clearing (ws : List Weight) (v f : ℕ) (us : List Weight) (g j : ℕ) : Type 0 where
  pub same : (so : ℕ) → held_total limit so g (matrix_in us) (suc v) ≡ held_total limit so f (matrix_in ws) (suc v)
  pub clear : Clear (matrix_in us) v j

-- the links among the first k nodes, absent ones too: what the calls' measure counts
unfoldable pub links_left : ℕ → ℕ
links_left zero = 0
links_left (suc v) = v + links_left v

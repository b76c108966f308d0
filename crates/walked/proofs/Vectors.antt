-- The first parts of a path's cost vector, which are offered with it.
use mathlib.Core.Path.{◌≡◌, refl}
use mathlib.Core.List.{List}
use Prim.Native.Nat.{ℕ}
use lib.ListN.{length, take}
use Rattle.lists.specs.Lists.{range}
use Rattle.costs.specs.Costs.{cost_of}
use Rattle.network_file.specs.File.{network_of, sizes_of}
use Rattle.network_file.proofs.Accepted.{Accepted}
use Rattle.paths.specs.Path.{rows_in}
use Rattle.paths.specs.declared.Path.{Path}
use Rattle.vector.specs.Vector.{vector_of}
use Rattle.vector.proofs.Vectors.{rows_few, vector_costs}

pub long : (f rows : List ℕ) → length (vector_of f rows) ≡ 4
unfolding vector_of range
long f rows = refl

-- the first k parts are the costs of document 01, where the file has k criteria
pub costs_are : (p : Path) (f vector : List ℕ) (k : ℕ) → Accepted f → k ≡ (sizes_of f).k → vector ≡ vector_of f (rows_in p) → take k vector ≡ cost_of (network_of f) (rows_in p)
costs_are p f vector k a e same = rw (same, e) (vector_costs f (rows_in p) a (rows_few p))

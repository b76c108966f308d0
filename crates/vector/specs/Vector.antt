-- The cost vector of a path's rows as the code computes it: four places of 32 bits, of which those past the last criterion are 0.
use Rattle.std.proofs.Math.Option.{Option, none, some}
use Rattle.std.specs.Prelude.{List, map, ◌+◌, min, ℕ, ltb}
use Rattle.lists.specs.Lists.{pick, range}
use Rattle.costs.specs.Costs.{cost_by}
use Rattle.costs.specs.Network.{Kind}
use Rattle.network_file.specs.File.{byte_at, kind_of, network_of, sizes_of}

-- a byte that names no kind is kept out by check 5
abbrev pub cost_byte : Option Kind → List ℕ → ℕ → List ℕ → ℕ
cost_byte none f c rows = 0
cost_byte (some kind) f c rows = cost_by kind (network_of f) c rows

unfoldable pub criterion_of : List ℕ → ℕ → List ℕ → ℕ
criterion_of f c rows = pick (ltb c (sizes_of f).k) (cost_byte (kind_of (byte_at f (9 + c))) f c rows) 0

-- a cost in a place of 32 bits, held at the greatest number there is; a path of an accepted file has none above it
abbrev pub held_of : ℕ → ℕ
held_of cost = min cost 4294967295

unfoldable pub vector_of : List ℕ → List ℕ → List ℕ
vector_of f rows = map (λ c. held_of (criterion_of f c rows)) (range 0 4)

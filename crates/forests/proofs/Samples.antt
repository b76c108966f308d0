-- A sample that antt computes: a triangle with one row doubled has five spanning trees; without a row at the plant it has two, and with that row contracted
-- three. The node that goes is the other end, not the plant.
use mathlib.Core.Path.{◌≡◌, refl}
use mathlib.Core.List.{[], ◌∷◌}
use lib.ListN.{length}
use Rattle.lists.specs.Lists.{filter_b, insert, member, range, sequences, sort}
use Rattle.graph.specs.Graph.{Graph}
use Rattle.graph.specs.Paths.{ascending, is_minimal, keys_less, place_of, step_of, steps_from, trees}
use Rattle.forests.specs.Forests.{cut, merged, without}

abbrev triangle : Graph
triangle = record { plant = 1; nodes = 1 ∷ 2 ∷ 3 ∷ []; first_ends = 1 ∷ 2 ∷ 3 ∷ 1 ∷ []; second_ends = 2 ∷ 3 ∷ 1 ∷ 2 ∷ [] }

pub sample_whole : length (trees triangle) ≡ 5
unfolding filter_b insert sort range member sequences place_of step_of steps_from ascending is_minimal keys_less trees
sample_whole = refl

pub sample_without : length (trees (without triangle 2)) ≡ 2
unfolding filter_b insert sort range member sequences place_of step_of steps_from ascending is_minimal keys_less trees
sample_without = refl

pub sample_merged : length (trees (merged triangle 2)) ≡ 3
unfolding filter_b insert sort range member sequences place_of step_of steps_from ascending is_minimal keys_less trees cut
sample_merged = refl

pub sample_ends : ((merged triangle 2).nodes ≡ 1 ∷ 2 ∷ []) × ((merged triangle 2).first_ends ≡ 1 ∷ 2 ∷ 0 ∷ 1 ∷ []) × ((merged triangle 2).second_ends ≡ 2 ∷ 1 ∷ 0 ∷ 2 ∷ [])
unfolding cut filter_b
sample_ends = (refl, refl, refl)

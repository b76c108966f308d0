-- What a weight by value stands for, the matrix that links by value hold, and what a link added leaves: the 1,024 places are those of 32 × 32 pairs of nodes.
use Rattle.std.specs.Prelude.{◌&&◌, List, ◌*◌, ◌+◌, ℕ, leb, ltb, get_or, length, set}
use Rattle.lists.specs.Lists.{pick}
use Rattle.counts.specs.Counting as counting
use Rattle.counts.specs.Matrix.{Matrix, held, limit}
use Rattle.weights.specs.declared.Weight.{Weight}

abbrev pub weight_in : Weight → counting.Weight
weight_in w = counting.weigh w.dropped w.merged

-- the weight at a place
abbrev pub weight_at : List Weight → ℕ → Weight
weight_at ws at = get_or ws at (record { dropped = 0; merged = 0 })

-- the matrix that the weights of links hold
abbrev pub matrix_in : List Weight → Matrix
matrix_in ws a b = weight_in (weight_at ws (a * 32 + b))

-- the place of the link between two nodes: the higher node's row, the lower node's column
abbrev pub place_of_pair : ℕ → ℕ → ℕ
place_of_pair x y = pick (ltb x y) (y * 32 + x) (x * 32 + y)

-- a link added beside what stands at a place
abbrev pub beside_at : List Weight → ℕ → counting.Weight → List Weight
beside_at ws at p =
    let both = held limit (counting.beside (weight_in (weight_at ws at)) p) in
    set ws at (record { dropped = both.dropped; merged = both.merged })

-- a link between two of 32 nodes added; with other nodes the weights stay as they were
unfoldable pub add_to : List Weight → ℕ → ℕ → counting.Weight → List Weight
add_to ws x y p = pick (ltb x 32 && ltb y 32) (beside_at ws (place_of_pair x y) p) ws

-- the same in weights of any number: of fewer than 1,024 there is no link to add to
unfoldable pub added_to : List Weight → ℕ → ℕ → counting.Weight → List Weight
unfolding add_to
added_to ws x y p = pick (leb 1024 (length ws)) (add_to ws x y p) ws

-- The nodes that rows join to the plant, as the walk computes them over a chart: the plant and the spread from it. A word (crate words).
use Rattle.std.specs.Prelude.{false, List, [], ◌∷◌, ℕ}
use Rattle.std.specs.Int.Bits.{bit_or}
use Rattle.words.specs.Words.{bit, minus}
use Rattle.chart.specs.Chart.{limit_in, near_in, nodes_in, plant_in}
use Rattle.spread.specs.Spread.{seeds_of, spread_of}

unfoldable pub reached_word : List ℕ → ℕ
reached_word c =
    let fresh = minus (nodes_in c) (bit (plant_in c)) in
    bit_or (spread_of (near_in false c) (limit_in c) fresh (seeds_of (near_in false c) fresh (plant_in c ∷ []) 0 0)) (bit (plant_in c))

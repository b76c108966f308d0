-- What stands before the rows of the file that is written: version 2, how many bytes follow, the nodes and the kinds of a network, and a number of rows.
use Rattle.std.specs.Prelude.{List, ◌++◌, ◌∷◌, map, ◌*◌, ◌+◌, ℕ, length}
use Rattle.costs.specs.Network.{Network}
use Rattle.network_file.specs.Bytes.{kind_number, u16_bytes, u32_bytes}

-- how many bytes follow the version and the length, with k criteria and m rows
abbrev pub follow_bytes : ℕ → ℕ → ℕ
follow_bytes k m = 4 + k + m * (5 + 4 * k)

unfoldable pub head_bytes : Network → ℕ → List ℕ
head_bytes w m =
    2 ∷ (u32_bytes (follow_bytes (length w.kinds) m) ++ (w.node_count ∷ (u16_bytes m ++ (length w.kinds ∷ map kind_number w.kinds))))

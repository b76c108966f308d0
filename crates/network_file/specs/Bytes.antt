-- The bytes of a network's file, of version 1 or 2.
use Rattle.std.specs.Prelude.{List, [], ◌++◌, ◌∷◌, map, ◌%◌, ◌/◌, ℕ, eqb, length}
use Rattle.lists.specs.Lists.{concat_map, pick}
use Rattle.costs.specs.Network.{Kind, Network, Row, State, added, barred, closing, must, «open», worst}

-- numbers of two and four bytes, big-endian
abbrev pub u16_bytes : ℕ → List ℕ
u16_bytes x = x / 256 ∷ x % 256 ∷ []

abbrev pub u32_bytes : ℕ → List ℕ
u32_bytes x = u16_bytes (x / 65536) ++ u16_bytes (x % 65536)

abbrev pub kind_number : Kind → ℕ
kind_number added = 0
kind_number worst = 1
kind_number closing = 2

abbrev pub state_number : State → ℕ
state_number «open» = 0
state_number must = 1
state_number barred = 2

-- the state byte, in version 2 alone
abbrev pub state_bytes : ℕ → State → List ℕ
state_bytes version state = pick (eqb version 2) (state_number state ∷ []) []

abbrev pub bytes_of_row : ℕ → Row → List ℕ
bytes_of_row version r = r.first_end ∷ r.second_end ∷ (u16_bytes r.street ++ (state_bytes version r.state ++ concat_map u32_bytes r.costs))

-- what follows the length
abbrev pub body_bytes : ℕ → Network → List ℕ
body_bytes version w =
    w.node_count ∷ (u16_bytes (length w.rows) ++ (length w.kinds ∷ (map kind_number w.kinds ++ concat_map (bytes_of_row version) w.rows)))

unfoldable pub file_of : ℕ → Network → List ℕ
unfolding concat_map
file_of version w = version ∷ (u32_bytes (length (body_bytes version w)) ++ body_bytes version w)

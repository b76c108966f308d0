-- Decimal numbers without leading zeros, as bytes.
use Rattle.std.specs.Prelude.{Bool, ◌&&◌, false, not, true, List, [], ◌∷◌, ◌*◌, ◌+◌, ◌-◌, ℕ, eqb, leb}
use Rattle.std.proofs.Math.Option.{Option, none, some}
use Rattle.lists.specs.Lists.{all, pick}

-- a byte '0' to '9'
abbrev pub is_digit : ℕ → Bool
is_digit b = leb 48 b && leb b 57

-- there is a digit, and only '0' alone begins with '0'
unfoldable pub leads : List ℕ → Bool
leads [] = false
leads (d ∷ []) = true
leads (d ∷ e ∷ ds) = not (eqb d 48)

-- the value of the digits, where those before them have the value `high`
unfoldable pub value_from : ℕ → List ℕ → ℕ
value_from high [] = high
value_from high (d ∷ ds) = value_from (high * 10 + (d - 48)) ds

-- The number that the bytes write, if they do.
unfoldable pub number_of : List ℕ → Option ℕ
unfolding all leads value_from
number_of bytes = pick (all is_digit bytes && leads bytes) (some (value_from 0 bytes)) none

-- Text in a buffer: bytes that are put into it from a place on, as far as they fit; and numbers as text.
use Rattle.std.specs.Prelude.{cond, List, [], ◌++◌, ◌∷◌, ◌+◌, ◌-◌, ◌/◌, min, suc, zero, ℕ, ltb, length}
use Rattle.std.proofs.Math.Seq.{paste}
use Rattle.io.specs.Digits.{last_digits}

-- a buffer, and the place up to which it is filled
pub record Filled : Type 0 where
  pub bytes : List ℕ
  pub at : ℕ

abbrev pub filled : List ℕ → ℕ → Filled
filled bytes at = record { bytes = bytes; at = at }

-- how many of these bytes fit into a buffer from a place on
abbrev pub fitting : List ℕ → ℕ → List ℕ → ℕ
fitting out at bytes = min (length bytes) (length out - at)

-- the buffer with these bytes from the place on, and the place behind them
unfoldable pub put : List ℕ → ℕ → List ℕ → Filled
put out at bytes = filled (paste out at bytes (fitting out at bytes)) (at + fitting out at bytes)

-- how many decimal places a number has, of which at most `most` and one are counted
unfoldable pub places_up_to : ℕ → ℕ → ℕ
places_up_to zero n = 1
places_up_to (suc most) n = cond (ltb n 10) 1 (suc (places_up_to most (n / 10)))

-- the decimal text of a number n; it never has more than n and one places
unfoldable pub decimal_of : ℕ → List ℕ
decimal_of n = last_digits 10 (places_up_to n n) n

-- numbers, each behind a space
unfoldable pub numbers_of : List ℕ → List ℕ
numbers_of [] = []
numbers_of (n ∷ l) = (32 ∷ decimal_of n) ++ numbers_of l

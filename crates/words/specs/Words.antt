-- A set of numbers below 64 as a word: v is a member if bit v is 1 (the lowest is bit 0).
use Rattle.std.specs.Prelude.{Bool, ◌*◌, ◌/◌, ◌%◌, ◌^◌, suc, zero, ℕ, eqb, ltb}
use Rattle.std.specs.Int.Count.{count_trailing_zeros}
use Rattle.std.specs.Int.Bits.{bit_and, bit_or, bit_xor}
use Rattle.lists.specs.Lists.{pick}

unfoldable pub has : ℕ → ℕ → Bool
has w v = eqb (w / 2 ^ v % 2) 1

-- the set of v alone; empty where v is 64 or more
unfoldable pub bit : ℕ → ℕ
bit v = pick (ltb v 64) (2 ^ v) 0

-- the members of a that are none of b. The members of either are `bit_or a b`, those of both `bit_and a b`.
unfoldable pub minus : ℕ → ℕ → ℕ
minus a b = bit_xor a (bit_and a b)

-- the members above v
unfoldable pub above : ℕ → ℕ → ℕ
above w v = w / 2 ^ suc v * 2 ^ suc v

-- the least member; 64 where there is none
unfoldable pub lowest : ℕ → ℕ
lowest w = count_trailing_zeros 64 w

-- the set of the numbers from 1 to n
unfoldable pub up_to : ℕ → ℕ
unfolding bit
up_to zero = 0
up_to (suc n) = bit_or (up_to n) (bit (suc n))

-- Trees of w places in a page of len places: which of them end within it.
use Prim.Native.Nat.{◌*◌, ◌+◌, ◌/◌, ◌<◌, ◌≤◌, suc, ℕ}
use native.Mathlib.Nat.{div-lt_iff_lt-mul, le-div_iff_mul-le, suc-mul}
use native.Mathlib.Omega.{arith}

-- tree t of the len / w whole ones ends within
pub whole : (t w len : ℕ) → 0 < w → t < len / w → t * w + w ≤ len
whole t w len p h = rw suc-mul at ((le-div_iff_mul-le {k = w} {x = suc t} {y = len} p).0 h)

-- and no later one does
pub short : (t w len : ℕ) → 0 < w → len / w ≤ t → len < t * w + w
short t w len p h = rw suc-mul at ((div-lt_iff_lt-mul {k = w} {x = len} {y = suc t} p).0 (omega arith))

-- A cost is a number of four bytes (`cost_word`).
use mathlib.Core.Path.{refl}
use mathlib.Core.List.{List}
use Prim.Native.Nat.{◌+◌, ◌≤◌, ℕ}
use native.Mathlib.Decide.{dec_lt}
use native.Mathlib.Omega.{arith}
use mir.Syntax.{w8}
use mir.Val.{Fits}
use Rattle.costs.specs.Costs.{cost_at}
use Rattle.network_file.specs.File.{byte_at, network_of, sizes_of, u16_at, u32_at}
use Rattle.fields.proofs.Laws.{cost_in_lem, cost_nowhere, cost_past}

module _ (f : List ℕ) (bytes : (i : ℕ) → Fits w8 (byte_at f i)) where
  word : (at : ℕ) → u32_at f at ≤ 4294967295
  unfolding u32_at u16_at
  word at = omega (arith, bytes at, bytes (at + 1), bytes (at + 2), bytes (at + 2 + 1))

  pub cost_word : (c r : ℕ) → cost_at (network_of f) c r ≤ 4294967295
  cost_word c r = elim (dec_lt r (sizes_of f).m) [
    | yes h ↦ elim (dec_lt c (sizes_of f).k) [
      | yes l ↦ rw (cost_in_lem f r c h l) (word _)
      | no l ↦ omega (arith, cost_past f r (sizes_of f) refl c h (omega arith))
    ]
    | no h ↦ omega (arith, cost_nowhere f r (sizes_of f) refl c (omega arith))
  ]

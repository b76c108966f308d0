-- Laws of the fields: how far the rows reach, and rows and costs place by place.
use mathlib.Core.Path.{◌∙◌, ◌≡◌, ap, sym}
use mathlib.Core.List.{List}
use Prim.Native.Nat.{◌*◌, ◌+◌, ◌<◌, ◌≤◌, ℕ}
use native.Mathlib.Nat.{mul-le-mul}
use native.Mathlib.Omega.{arith}
use lib.Dec.{eqb}
use Rattle.lists.specs.Lists.{pick}
use Rattle.lists.proofs.Ranges.{get_or_map_past, get_or_map_range}
use Rattle.costs.specs.Costs.{cost_at}
use Rattle.costs.specs.Network.{«open», row_at}
use Rattle.network_file.proofs.Accepted.{past_costs, row_in_lem, row_past, state_width_lem}
use Rattle.network_file.specs.File.{Sizes, byte_at, network_of, row_bytes, row_in, row_start, sizes_of, state_byte, state_of, state_or, state_width, u16_at, u32_at, version}
use Rattle.fields.specs.Fields.{state_in}
use Rattle.fields.specs.declared.State.{State}

-- a row number has two bytes and k one, so no place of the rows is out of a word's range
pub row_reach : (f : List ℕ) (row : ℕ) → row < 65536 → (sizes_of f).k < 256 → row * row_bytes f ≤ 65536 * 1025
row_reach f row h l = mul-le-mul {n₁ = row} {m₁ = row_bytes f} {n₂ = 65536} {m₂ = 1025} (omega arith) (omega (arith, state_width_lem f))

-- Rows and costs of the file's network

pub cost_in_lem : (f : List ℕ) (r c : ℕ) → r < (sizes_of f).m → c < (sizes_of f).k → cost_at (network_of f) c r ≡ u32_at f (row_start f r + 4 + state_width f + 4 * c)
unfolding row_in
cost_in_lem f r c h l = rw (row_in_lem f r h) (get_or_map_range (λ c. u32_at f (row_start f r + 4 + state_width f + 4 * c)) (sizes_of f).k c 0 l)

-- the code has read the file's sizes s
module _ (f : List ℕ) (r : ℕ) (s : Sizes) (same : s ≡ sizes_of f) where
  -- and where row r begins
  pub row_read : (x y z b : ℕ) (state : State) (at : ℕ) → r < s.m → at ≡ row_start f r → x ≡ byte_at f at → y ≡ byte_at f (at + 1) → z ≡ u16_at f (at + 2)
      → b ≡ pick (eqb (version f) 2) (byte_at f (at + 4)) 0 → state_in state ≡ state_or (state_of b)
      → record { first_end = x; second_end = y; street = z; state = state_in state; costs = (row_at (network_of f) r).costs } ≡ row_at (network_of f) r
  unfolding row_in state_byte
  row_read x y z b state at h start first second street byte named = rw (row_in_lem f r (rw same at h), first, second, street, named, byte, start)

  pub row_none : s.m ≤ r
      → record { first_end = 0; second_end = 0; street = 0; state = «open»; costs = (row_at (network_of f) r).costs } ≡ row_at (network_of f) r
  row_none h = rw (row_past f r (rw same at h))

  pub street_read : (z at : ℕ) → r < s.m → at ≡ row_start f r → z ≡ u16_at f (at + 2) → z ≡ (row_at (network_of f) r).street
  unfolding row_in
  street_read z at h start e = rw (row_in_lem f r (rw same at h), e, start)

  pub street_none : s.m ≤ r → 0 ≡ (row_at (network_of f) r).street
  street_none h = rw (row_past f r (rw same at h))

  pub cost_read : (c x at : ℕ) → r < s.m → c < s.k → at ≡ row_start f r + 4 + state_width f → x ≡ u32_at f (at + 4 * c) → x ≡ cost_at (network_of f) c r
  cost_read c x at h l start e = e ∙ ap (λ (a : ℕ). u32_at f (a + 4 * c)) start ∙ sym (cost_in_lem f r c (rw same at h) (rw same at l))

  pub cost_past : (c : ℕ) → r < s.m → s.k ≤ c → 0 ≡ cost_at (network_of f) c r
  unfolding row_in
  cost_past c h l =
      rw (row_in_lem f r (rw same at h)) (sym (get_or_map_past (λ c. u32_at f (row_start f r + 4 + state_width f + 4 * c)) (sizes_of f).k c 0 (rw same at l)))

  pub cost_nowhere : (c : ℕ) → s.m ≤ r → 0 ≡ cost_at (network_of f) c r
  cost_nowhere c h = sym (past_costs f c r (rw same at h))

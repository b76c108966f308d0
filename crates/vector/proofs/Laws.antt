-- The rule of cost that a criterion's byte names.
use mathlib.Core.Path.{◌≡◌}
use mathlib.Core.List.{List}
use mathlib.Core.Option.{Option}
use Rattle.costs.specs.Network.{Kind}
use Prim.Native.Nat.{◌+◌, ◌<◌, ◌≤◌, ℕ}
use borrow.Author.Tests.{le-ltb, lt-ltb}
use Rattle.network_file.specs.File.{Sizes, byte_at, kind_of, sizes_of}
use Rattle.vector.specs.Vector.{cost_byte, criterion_of}

-- A criterion's cost, where the code has read the file's sizes s

module _ (f : List ℕ) (c : ℕ) (rows : List ℕ) {s : Sizes} (same : s ≡ sizes_of f) where
  -- and what the criterion's byte b names
  pub criterion_named : c < s.k → {b : ℕ} {o : Option Kind} → b ≡ byte_at f (9 + c) → kind_of b ≡ o → cost_byte o f c rows ≡ criterion_of f c rows
  unfolding criterion_of
  criterion_named h read names = rw (lt-ltb _ _ (rw same at h), ← read, names)

  pub criterion_none : s.k ≤ c → 0 ≡ criterion_of f c rows
  unfolding criterion_of
  criterion_none h = rw (le-ltb _ _ (rw same at h))

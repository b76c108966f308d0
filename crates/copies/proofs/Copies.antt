-- What the loop copies fits both tables (`room_least`, `copied_is`); where all fits, all is copied (`copied_all`); at the first places stands as much as fits
-- (`copied_first`), or all of it (`copied_whole`).
use mathlib.Core.Path.{◌∙◌, ◌≡◌, ap}
use mathlib.Core.List.{List, ◌++◌}
use Prim.Native.Nat.{◌+◌, ◌-◌, ◌≤◌, min, ℕ}
use native.Mathlib.Nat.{zero-add}
use native.Mathlib.Omega.{arith}
use lib.ListN.{drop, length, length-take, take}
use lib.Seq.{paste, take_all}
use Rattle.lists.proofs.Ascending.{take_min}
use Rattle.copies.specs.Copies.{copied, room}

pub room_least : (table at places n least m : ℕ) → least ≡ min n places → m ≡ min least (table - at) → (m ≡ room table at places n) × (m ≤ places) × (m ≤ table - at)
unfolding room
room_least table at places n least m e e' = (omega arith, omega arith, omega arith)

module _ {A : Type 0} where
  pub copied_is : (table : List A) (at : ℕ) (places : List A) (n m : ℕ) → m ≡ room (length table) at (length places) n → paste table at places m ≡ copied table at places n
  unfolding copied
  copied_is table at places n m e = ap (paste table at places) e

  pub copied_all : (table : List A) (at : ℕ) (places : List A) (n : ℕ) → at + n ≤ length table → n ≤ length places → copied table at places n ≡ paste table at places n
  unfolding copied room
  copied_all table at places n fits there =
      let all : min n (min (length places) (length table - at)) ≡ n = omega arith in
      ap (paste table at places) all

  pub copied_first : (table places : List A) → copied table 0 places (length places) ≡ take (length table) places ++ drop (length (take (length table) places)) table
  unfolding copied room
  copied_first table places =
      let many : min (length places) (min (length places) (length table - 0)) ≡ min (length table) (length places) = omega arith in
      ap (paste table 0 places) many ∙ (rw (zero-add (min (length table) (length places)), take_min (length table) places, length-take (length table) places))

  pub copied_whole : (table places : List A) → length places ≤ length table → copied table 0 places (length places) ≡ places ++ drop (length places) table
  copied_whole table places fits = copied_first table places ∙ ap (λ (l : List A). l ++ drop (length l) table) (take_all (length table) places fits)

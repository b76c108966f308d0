-- Pick's part of a page: the places of tree t, where it ends within the page (`picked`).
use mathlib.Core.Path.{◌≡◌}
use mathlib.Core.List.{List}
use Prim.Native.Nat.{◌*◌, ◌+◌, ◌-◌, ◌≤◌, ℕ}
use lib.ListN.{drop, length, take}
use borrow.Author.Tests.{le-leb}
use Rattle.operations.specs.Operations.{pick_call}

pub picked : (n t : ℕ) (page : List ℕ) → 2 ≤ n → n ≤ 32 → t * (n - 1) + (n - 1) ≤ length page → pick_call n page t ≡ take (n - 1) (drop (t * (n - 1)) page)
unfolding pick_call
picked n t page low high h = simp (le-leb _ _ low, le-leb _ _ high, le-leb _ _ h)

-- Shuffled rows are rows numbered anew (`renaming`); and what is computed of numbers that shuffle rows (`shuffled_by`).
use mathlib.Core.Path.{◌∙◌, ◌≡◌, ap, sym}
use mathlib.Core.List.{List, map}
use Prim.Native.Nat.{◌<◌, ℕ}
use native.Mathlib.Decide.{ℕ_discrete}
use native.Mathlib.Omega.{arith}
use lib.Dec.{T, ltb, ltb→lt}
use lib.ListN.{get_or, length, length-map}
use Rattle.lists.specs.Lists.{all, distinct, range}
use Rattle.lists.proofs.Ascending.{get_or_mem}
use Rattle.lists.proofs.Distinct.{distinct_out, filled, pigeonhole, range_distinct}
use Rattle.lists.proofs.Maps.{map_at}
use Rattle.lists.proofs.Members.{◌∈◌, all_out, range_in, range_out}
use Rattle.lists.proofs.Ranges.{range_length}
use Rattle.graph.specs.Paths.{place_of}
use Rattle.graph.proofs.Places.{node_at, place_at, place_below}
use Rattle.costs.specs.Network.{Network, Row, no_row, row_at}
use Rattle.shuffles.specs.Shuffles.{Shuffled, renamed}
use Rattle.shuffles.proofs.Renames.{Renaming}

module _ {w v : Network} {numbers : List ℕ} (s : Shuffled w v numbers) where
  abbrev m : ℕ
  m = length w.rows

  -- a row of v is the row of w whose number stands in its place
  row_told : (r : ℕ) → r < length numbers → row_at w (get_or numbers r 0) ≡ row_at v r
  row_told r l = rw s.rows (sym (map_at (row_at w) numbers r 0 no_row l))

  -- there are as many numbers as rows
  long : length numbers ≡ m
  long =
      let few = pigeonhole numbers {m = range 0 m} s.once (λ r i. let b = (s.each r).0 i in range_in 0 m r (omega arith) (omega arith)) in
      let many = pigeonhole (range 0 m) {m = numbers} (range_distinct 0 m) (λ r i. let b = range_out 0 m i in (s.each r).1 (omega arith)) in
      omega (arith, range_length 0 m)

  same_length : length v.rows ≡ m
  same_length = ap (length {A = Row}) s.rows ∙ length-map numbers (row_at w) ∙ long

  -- the way back is a row number's place among them
  pub renaming : Renaming w v (renamed numbers) (place_of numbers)
  renaming = record {
    node_count = s.node_count;
    kinds = s.kinds;
    to = λ r l. (s.each (get_or numbers r 0)).0 (get_or_mem numbers r 0 (omega (arith, long, same_length)));
    from = λ r l. omega (arith, long, same_length, place_below numbers ((s.each r).1 l));
    back = λ r l. place_at numbers r s.once (omega (arith, long, same_length));
    forth = λ r l. node_at numbers ((s.each r).1 l);
    row = λ r l. row_told r (omega (arith, long, same_length));
  }

-- as many numbers as there are rows, all different, and each a row's
pub shuffled_by : (w v : Network) (numbers : List ℕ) → v.node_count ≡ w.node_count → v.kinds ≡ w.kinds
    → length numbers ≡ length w.rows → T (distinct numbers) → T (all (λ r. ltb r (length w.rows)) numbers) → v.rows ≡ map (row_at w) numbers → Shuffled w v numbers
shuffled_by w v numbers nodes kinds long once low rows = record {
  node_count = nodes;
  kinds = kinds;
  once = distinct_out numbers once;
  each = λ r. (
    below r,
    λ l. filled ℕ_discrete numbers (range 0 m) (distinct_out numbers once) (λ q i. let b = below q i in range_in 0 m q (omega arith) (omega arith))
        (omega (arith, range_length 0 m)) r (range_in 0 m r (omega arith) (omega arith)),
  );
  rows = rows;
}
  where
    m : ℕ
    m = length w.rows

    below : (r : ℕ) → r ∈ numbers → r < length w.rows
    below r i = ltb→lt r (length w.rows) (all_out (λ r. ltb r (length w.rows)) low i)

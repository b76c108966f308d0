-- The index, entry by entry: the list's first tree is its first (`entry_first`), and the one s moves further the next (`entry_next`). The entries are counted (`Counted`): there are
-- no more where it is missing (`counted_over`), and where as many as fit are counted, it tells whether there are (`counted_last`). They are written one after the other (`Written`): where all have room, none is
-- left out (`written_room`), and at the end all stand there (`written_over`).
use mathlib.Core.Path.{◌∙◌, ◌≡◌, ap, refl, subst, sym}
use mathlib.Core.Bool.{Bool, false, not, true}
use mathlib.Core.Option.{some}
use Rattle.std.specs.Prelude.{None, Option, Some, is_some}
use mathlib.Core.List.{List, [], ◌++◌}
use Prim.Native.Nat.{◌*◌, ◌+◌, ◌-◌, ◌<◌, ◌≤◌, suc, ℕ}
use native.Mathlib.Nat.{add-mul, mul-le-mul_right, one-mul, suc-mul}
use native.Mathlib.Omega.{arith}
use lib.Dec.{leb}
use lib.ListN.{drop, get_elem?, length, length-take, take}
use lib.Seq.{paste, take_all, take-take}
use borrow.Author.Tests.{le-leb, lt-leb}
use Rattle.lists.proofs.Ascending.{at_mem, get_d_at, none_past}
use Rattle.lists.proofs.Members.{◌∈◌}
use Rattle.copies.proofs.Copies.{copied_all}
use Rattle.copies.specs.Copies.{copied}
use Rattle.fill.proofs.Filling.{Fills, Placed, filled_next, filled_start}
use Rattle.indexes.proofs.Every.{every_part, index_at}
use Rattle.indexes.specs.Index.{indexed}
use Rattle.moves.specs.Tree.{tree_of}
use Rattle.operations.specs.Operations.{over}
use Rattle.pages.proofs.Pages.{length_flat}
use Rattle.pages.specs.Pages.{flat}

-- a tree that is missing, and one that is there
none_is : (t : Option (List ℕ)) → is_some t ≡ false → t ≡ None
none_is None e = refl
none_is (Some rows) e = cc

pub some_is : (t : Option (List ℕ)) → is_some t ≡ true → (rows : List ℕ) × (t ≡ Some rows)
some_is None e = cc
some_is (Some rows) e = (rows, refl)

-- trees of w rows, of which every s-th is an entry
module _ (w s : ℕ) (L : List (List ℕ)) where
  -- s moves from one tree to another
  abbrev pub Moved : Option (List ℕ) → Option (List ℕ) → Type 0
  Moved t next = (i : ℕ) → tree_of w t ≡ get_elem? L i → tree_of w next ≡ get_elem? L (i + s)

  module _ (h : 1 ≤ s) where
    entry_first : (t : Option (List ℕ)) → tree_of w t ≡ get_elem? L 0 → tree_of w t ≡ get_elem? (indexed s L) 0
    entry_first t e = let z : 0 ≡ 0 * s = omega arith in e ∙ ap (get_elem? L) z ∙ sym (index_at s h L 0)

    entry_next : (t next : Option (List ℕ)) (count : ℕ) → Moved t next → tree_of w t ≡ get_elem? (indexed s L) count → tree_of w next ≡ get_elem? (indexed s L) (count + 1)
    entry_next t next count moved e =
        let further : count * s + s ≡ (count + 1) * s = omega (arith, add-mul count 1 s, one-mul s) in
        moved (count * s) (e ∙ index_at s h L count) ∙ ap (get_elem? L) further ∙ sym (index_at s h L (count + 1))

  -- so many entries are counted, and the tree is the next of them
  pub record Counted (t : Option (List ℕ)) (count : ℕ) : Type 0 where
    pub shows : tree_of w t ≡ get_elem? (indexed s L) count
    pub left : count ≤ length (indexed s L)

  pub counted_start : 1 ≤ s → (t : Option (List ℕ)) → tree_of w t ≡ get_elem? L 0 → Counted t 0
  counted_start h t e = record { shows = entry_first h t e; left = omega arith }

  module _ {t : Option (List ℕ)} {count : ℕ} (k : Counted t count) where
    -- the tree is the next entry, or there is none
    there : {rows : List ℕ} → t ≡ Some rows → get_elem? (indexed s L) count ≡ some (take w rows)
    there e = sym (rw e at k.shows)

    past : t ≡ None → length (indexed s L) ≤ count
    past e = none_past (indexed s L) count (sym (rw e at k.shows))

    -- there are more than those counted
    below : {rows : List ℕ} → t ≡ Some rows → count < length (indexed s L)
    below e = (get_d_at (indexed s L) count [] (there e)).0

    pub counted_next : {rows : List ℕ} → 1 ≤ s → t ≡ Some rows → (next : Option (List ℕ)) → Moved t next → Counted next (count + 1)
    counted_next h e next moved = record { shows = entry_next h t next count moved k.shows; left = omega (arith, below e) }

    -- all that fit are counted
    pub counted_last : (most : ℕ) → count ≡ most → (missing : Bool) → not missing ≡ is_some t → missing ≡ leb (length (indexed s L)) most
    counted_last most all missing e = by t missing refl e
      where
        by : (u : Option (List ℕ)) (missing : Bool) → t ≡ u → not missing ≡ is_some u → missing ≡ leb (length (indexed s L)) most
        by None true h e = let end : length (indexed s L) ≤ most = omega (arith, past h) in sym (le-leb _ _ end)
        by None false h e = cc
        by (Some rows) true h e = cc
        by (Some rows) false h e = let more : most < length (indexed s L) = omega (arith, below h) in sym (lt-leb _ _ more)

    -- they are fewer
    pub counted_over : (most : ℕ) → count ≤ most → is_some t ≡ false → true ≡ leb (length (indexed s L)) most
    counted_over most few e = let end : length (indexed s L) ≤ most = omega (arith, past (none_is t e)) in sym (le-leb _ _ end)

  -- so many entries are written over the first places of a buffer, and the tree is the next of them
  pub record Written (index₀ index : List ℕ) (t : Option (List ℕ)) (at count : ℕ) : Type 0 where
    pub counted : Counted t count
    pub filled : Fills w index₀ (indexed s L) index at count

  pub written_start : 1 ≤ s → (index : List ℕ) (t : Option (List ℕ)) → tree_of w t ≡ get_elem? L 0 → Written index index t 0 0
  written_start h index t e = record { counted = counted_start h t e; filled = filled_start w index (indexed s L) }

  module _ (long : (p : List ℕ) → p ∈ L → length p ≡ w) where
    entry_long : (p : List ℕ) → p ∈ indexed s L → length p ≡ w
    entry_long p m = long p (every_part s L 0 p m)

    module _ {index₀ index : List ℕ} {t : Option (List ℕ)} {at count : ℕ} (wide : 0 < w) (places : Placed w index₀ index at count) (k : Written index₀ index t at count) where
      -- the tree is copied behind them
      pub written_next : {rows : List ℕ} → 1 ≤ s → t ≡ Some rows → (index' : List ℕ) → at + w ≤ length index → index' ≡ copied index at rows w → (next : Option (List ℕ)) → Moved (Some rows) next
          → Written index₀ index' next (at + w) (count + 1)
      written_next {rows} h e index' room copy next moved =
          let p = take w rows in
          let stands : get_elem? (indexed s L) count ≡ some p = there k.counted e in
          let size : length p ≡ w = entry_long p (at_mem (indexed s L) count stands) in
          let many : w ≤ length rows = omega (arith, length-take w rows) in
          let whole : take w rows ≡ take w p = sym (take-take w w rows (omega arith)) in
          let new : index' ≡ paste index at p (length p) =
          copy ∙ copied_all index at rows w room many ∙ ap (λ (l : List ℕ). take at index ++ l ++ drop (at + w) index) whole ∙ ap (paste index at p) (sym size) in
          record {
            counted = counted_next k.counted h e next (subst (λ (u : Option (List ℕ)). Moved u next) (sym e) moved);
            filled = filled_next w index₀ (indexed s L) wide entry_long places k.filled p index' stands new;
          }

      -- there is room for it, if all of them have room
      pub written_room : {rows : List ℕ} (v : ℕ) → w ≡ v → length (indexed s L) * v ≤ length index₀ → t ≡ Some rows → ¬ (length index - at < w)
      written_room v same room e full =
          let next : suc count * v ≤ length (indexed s L) * v = mul-le-mul_right v (below k.counted e) in
          omega (arith, suc-mul count v, ap (λ (n : ℕ). count * n) same, places.here, places.same)

      -- it is missing: all of them are written
      pub written_over : t ≡ None → (count ≡ length (indexed s L)) × (index ≡ over (flat (indexed s L)) index₀)
      written_over e =
          let entries = indexed s L in
          let end : length entries ≤ count = past k.counted e in
          let all : count ≡ length entries = omega (arith, k.counted.left) in
          let places_are : at ≡ length (flat entries) = places.here ∙ ap (λ (n : ℕ). n * w) all ∙ sym (length_flat w entries entry_long) in (
            all,
            k.filled.holds ∙ ap (λ (l : List (List ℕ)). flat l ++ drop at index₀) (take_all count entries end) ∙ ap (λ (n : ℕ). flat entries ++ drop n index₀) places_are,
          )

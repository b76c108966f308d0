-- The loop that moves on by parts: before its first turn (`kept_start`), where a part gets fewer trees than it has places for (`kept_short`), after a turn, which
-- keeps the part's last tree (`kept_next`), and at its end (`kept_all`).
use mathlib.Core.Path.{◌∙◌, ◌≡◌, ap, subst, sym}
use mathlib.Core.Option.{none, some}
use mathlib.Core.List.{List, ◌++◌}
use Prim.Native.Nat.{◌*◌, ◌+◌, ◌-◌, ◌<◌, ◌≤◌, min, pred, suc, ℕ}
use native.Mathlib.Nat.{suc-mul}
use native.Mathlib.Omega.{arith}
use lib.ListN.{drop, get_elem?, length, length-drop, take}
use lib.Seq.{length_front, length-take-le, paste, take_all, take-paste}
use Rattle.lists.proofs.Ascending.{at_mem, at_past, none_past}
use Rattle.lists.proofs.Members.{◌∈◌}
use Rattle.checks.specs.Checks.{Ended, Outcome, answered, refused}
use Rattle.chart.specs.Chart.{list_in, width_in}
use Rattle.copies.proofs.Copies.{copied_all}
use Rattle.copies.specs.Copies.{copied}
use Rattle.fill.proofs.Steps.{list_part, listed_long}
use Rattle.fill.specs.Walkable.{Walkable, filled_by, filled_of}
use Rattle.fill.specs.declared.Filled.{Filled}
use Rattle.graph.proofs.Parts.{part_distinct}
use Rattle.operations.specs.Operations.{Paged}
use Rattle.pages.proofs.TreePages.{Starts}
use Rattle.pages.specs.Pages.{page_after, page_count, rest_after}
use Rattle.moves.proofs.Parts.{part_full, part_short}

-- where there is no tree at a place of a list, there is none behind it
pub none_behind : (L : List (List ℕ)) (i n : ℕ) → none ≡ get_elem? L i → none ≡ get_elem? L (i + n)
none_behind L i n e = let past = none_past L i (sym e) in sym (at_past L (i + n) (omega arith))

-- what holds at each turn: of a chart whose trees can be listed, the rows are those of the tree so many moves behind the first as are made
module _ (c : List ℕ) (moves w : ℕ) (rows₀ : List ℕ) where
  pub record Kept (rows part : List ℕ) (left : ℕ) : Type 0 where
    pub few : left ≤ moves
    pub rows_long : length rows ≡ 31
    pub part_long : length part ≡ 1984
    pub reached : (i : ℕ) → Walkable c → get_elem? (list_in c) i ≡ some (take w rows₀) → get_elem? (list_in c) (i + (moves - left)) ≡ some (take w rows)

  pub kept_start : (part : List ℕ) → length rows₀ ≡ 31 → length part ≡ 1984 → Kept rows₀ part moves
  kept_start part rows_long part_long = record {
    few = omega arith;
    rows_long = rows_long;
    part_long = part_long;
    reached = λ i ok e. let none_made : i + (moves - moves) ≡ i = omega arith in rw none_made e;
  }

-- some trees take at least the places of one
pub one_of_some : (k w : ℕ) → 0 < k → w ≤ k * w
one_of_some k w h = let again : suc (pred k) ≡ k = omega arith in omega (arith, suc-mul (pred k) w, ap (λ (n : ℕ). n * w) again)

-- how many trees an answer tells
abbrev count_of : Outcome Paged → ℕ
count_of (refused e) = 0
count_of (answered p) = p.count

module _ {c : List ℕ} {moves w : ℕ} {rows₀ rows part : List ℕ} {left : ℕ} (t : Kept c moves w rows₀ rows part left) (same : w ≡ width_in c) where
  -- no move is left
  pub kept_all : left ≤ 0 → (i : ℕ) → Walkable c → get_elem? (list_in c) i ≡ some (take w rows₀) → some (take (width_in c) rows) ≡ get_elem? (list_in c) (i + moves)
  kept_all over i ok e =
      let made : i + (moves - left) ≡ i + moves = omega arith in
      rw (← same) (sym (t.reached i ok e) ∙ ap (get_elem? (list_in c)) made)

  -- the first places of the part are filled
  module _ (k : ℕ) (least : k ≡ min left 64) (some_left : 0 < left) (room : k * w ≤ length part) (r : Filled) (page : List ℕ)
      (fills : Walkable c → Starts (list_in c) (take w rows)
      → record { outcome = answered (filled_of r); buffers = page } ≡ filled_by (width_in c) (take (k * w) part) (rest_after (list_in c) (take w rows))) where
    fits : length (take (k * w) part) ≡ k * w
    fits = length-take-le (k * w) part room

    -- from a place of the list on
    module _ (i : ℕ) (ok : Walkable c) (e : get_elem? (list_in c) i ≡ some (take w rows₀)) where
      abbrev here : ℕ
      here = i + (moves - left)

      abbrev rest : List (List ℕ)
      rest = rest_after (list_in c) (take w rows)

      at : get_elem? (list_in c) here ≡ some (take w rows)
      at = t.reached i ok e

      wide : 0 < w
      wide = omega (arith, ok.several)

      long : (p : List ℕ) → p ∈ list_in c → length p ≡ w
      long p m = listed_long ok p m ∙ sym same

      filled : record { outcome = answered (filled_of r); buffers = page } ≡ filled_by w (take (k * w) part) rest
      filled = fills ok (λ h. at_mem (list_in c) here at) ∙ ap (λ (n : ℕ). filled_by n (take (k * w) part) rest) (sym same)

      count_is_lem : r.count ≡ page_count w (take (k * w) part) rest
      count_is_lem = ap (λ (e : Ended Paged (List ℕ)). count_of e.outcome) filled

      page_is : page ≡ page_after w (take (k * w) part) rest
      page_is = ap (λ (e : Ended Paged (List ℕ)). e.buffers) filled

      over : r.count < k → none ≡ get_elem? (list_in c) (i + moves)
      over few =
          let place : here + left ≡ i + moves = omega (arith, t.few) in
          sym (part_short w (list_in c) wide (part_distinct (list_part c)) long here (take w rows) at (take (k * w) part) k fits (omega (arith, count_is_lem)) left (omega arith))
          ∙ ap (get_elem? (list_in c)) place

      last : k ≤ r.count → get_elem? (list_in c) (i + (moves - (left - k))) ≡ some (take w (drop (k * w - w) (page ++ drop (k * w) part)))
      last all =
          let place : i + (moves - (left - k)) ≡ here + k = omega (arith, t.few) in
          ap (get_elem? (list_in c)) place
          ∙ part_full w (list_in c) wide (part_distinct (list_part c)) long here (take w rows) at (take (k * w) part) k fits (omega arith) (omega (arith, count_is_lem)) (drop (k * w) part)
          ∙ ap (λ (l : List ℕ). some (take w (drop (k * w - w) (l ++ drop (k * w) part)))) (sym page_is)

    -- it gets fewer trees than it has places for: the list is over
    pub kept_short : r.count < k → (i : ℕ) → Walkable c → get_elem? (list_in c) i ≡ some (take w rows₀) → none ≡ get_elem? (list_in c) (i + moves)
    kept_short few i ok e = over i ok e few

    -- the tree in its last places is kept
    module _ (narrow : w ≤ 31) (all : k ≤ r.count) (kept : length page ≡ length (take (k * w) part)) {rows' : List ℕ}
        (copies : rows' ≡ copied rows 0 (take (k * w - (k * w - w)) (drop (k * w - w) (page ++ drop (k * w) part))) w) (rows_kept : length rows' ≡ length rows) where
      abbrev after : List ℕ
      after = page ++ drop (k * w) part

      abbrev tree : List ℕ
      tree = take w (drop (k * w - w) after)

      after_long : length after ≡ length part
      after_long = length_front part page (k * w) kept

      one : w ≤ k * w
      one = one_of_some k w (omega arith)

      tree_long : length tree ≡ w
      tree_long = length-take-le w (drop (k * w - w) after) (omega (arith, length-drop (k * w - w) after, after_long, one, room))

      rows_are : take w rows' ≡ tree
      rows_are =
          let size : k * w - (k * w - w) ≡ w = omega (arith, one) in
          let start : 0 + w ≡ w = omega arith in
          ap (take w) (copies ∙ ap (λ (n : ℕ). copied rows 0 (take n (drop (k * w - w) after)) w) size ∙ copied_all rows 0 tree w (omega (arith, t.rows_long)) (omega (arith, tree_long)))
          ∙ subst (λ (n : ℕ). take n (paste rows 0 tree w) ≡ take w tree) start (take-paste rows 0 tree w (omega arith) (omega (arith, tree_long)))
          ∙ take_all w tree (omega (arith, tree_long))

      pub kept_next : Kept c moves w rows₀ rows' (page ++ drop (k * w) part) (left - k)
      kept_next = record {
        few = omega (arith, t.few);
        rows_long = rows_kept ∙ t.rows_long;
        part_long = after_long ∙ t.part_long;
        reached = λ i ok e. last i ok e all ∙ ap some (sym rows_are);
      }

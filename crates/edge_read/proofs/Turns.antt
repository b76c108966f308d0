-- The two loops over the lines of a text, the scan (`ScanTo`) and the rows that are put into a buffer (`RowsTo`), by the lines that are left: where each starts, a turn,
-- and its end.
use Rattle.std.proofs.Common.{◌∙◌, ◌≡◌, ap, arith, refl, sym, List, [], ◌∷◌, ◌++◌, append_assoc, ◌+◌, ◌<◌, ◌≤◌, ℕ, length}
use mathlib.Core.List.{append-nil}
use Rattle.lists.specs.Lists.{concat_map}
use Rattle.edge_file.specs.Text.{Line}
use Rattle.printout.specs.Text.{filled, put}
use Rattle.printout.proofs.Laws.{behind, put_none}
use Rattle.edge_read.specs.Scan.{Scan, line_bytes, scan_line, scan_lines, scan_start}

-- THE SCAN

-- the loop has this scan, with so many edge lines, where these lines are left
pub record ScanTo (all left : List Line) (edges : ℕ) (sum : Scan) : Type 0 where
  pub few : edges + length left ≤ length all
  pub comes : scan_lines scan_start all ≡ scan_lines sum left

module _ {all left : List Line} {edges : ℕ} {sum : Scan} (inv : ScanTo all left edges sum) where
  pub scan_end : left ≡ [] → sum ≡ scan_lines scan_start all
  unfolding scan_lines
  scan_end none = sym (inv.comes ∙ ap (scan_lines sum) none)

  module _ {l : Line} {rest : List Line} (next : left ≡ l ∷ rest) where
    -- there are fewer edge lines than lines
    pub scan_room : edges < length all
    scan_room = omega (arith, ap length next, inv.few)

    pub scan_turn : {after : Scan} {more : ℕ} → after ≡ scan_line sum l → more ≤ edges + 1 → ScanTo all rest more after
    unfolding scan_lines
    scan_turn {after} {more} with_line few = record {
      few = omega (arith, ap length next, inv.few);
      comes = inv.comes ∙ ap (scan_lines sum) next ∙ ap (λ (x : Scan). scan_lines x rest) (sym with_line);
    }

-- THE ROWS

-- the loop has put these bytes into the buffer, where these lines are left
pub record RowsTo (all left : List Line) (old : List ℕ) (from : ℕ) (new : List ℕ) (place : ℕ) : Type 0 where
  pub bytes : List ℕ
  pub stand : filled new place ≡ put old from bytes
  pub same : length new ≡ length old
  pub comes : concat_map line_bytes all ≡ bytes ++ concat_map line_bytes left

pub rows_start : {all left : List Line} (buffer : List ℕ) (from : ℕ) → left ≡ all → RowsTo all left buffer from buffer from
rows_start buffer from is = record { bytes = []; stand = put_none buffer from; same = refl; comes = ap (concat_map line_bytes) (sym is) }

module _ {all left : List Line} {old : List ℕ} {from : ℕ} {new : List ℕ} {place : ℕ} (inv : RowsTo all left old from new place) where
  pub rows_end : left ≡ [] → filled new place ≡ put old from (concat_map line_bytes all)
  unfolding concat_map
  rows_end none =
      let whole : concat_map line_bytes all ≡ inv.bytes = inv.comes ∙ ap (λ (ls : List Line). inv.bytes ++ concat_map line_bytes ls) none ∙ append-nil inv.bytes in
      inv.stand ∙ ap (put old from) (sym whole)

  pub rows_turn : {l : Line} {rest : List Line} → left ≡ l ∷ rest → {after : List ℕ} {end : ℕ} → filled after end ≡ put new place (line_bytes l) → length after ≡ length new
      → RowsTo all rest old from after end
  unfolding concat_map
  rows_turn {l} {rest} next {after} {end} row long = record {
    bytes = inv.bytes ++ line_bytes l;
    stand = behind old from inv.bytes (line_bytes l) inv.stand row;
    same = long ∙ inv.same;
    comes =
        inv.comes ∙ ap (λ (ls : List Line). inv.bytes ++ concat_map line_bytes ls) next
        ∙ sym (append_assoc inv.bytes (line_bytes l) (concat_map line_bytes rest));
  }

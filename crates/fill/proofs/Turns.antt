-- The loop that fills a page: before its first turn (`kept_start`), after a turn, which writes the tree in the arrays and reads it back to find the one behind it (`kept_turn`),
-- and at its ends, where the page is full (`kept_full`) or the tree was the last (`kept_last`).
use mathlib.Core.Path.{◌∙◌, ◌≡◌, ap, subst, sym}
use mathlib.Core.Bool.{false, true}
use mathlib.Core.Option.{Option, some}
use Rattle.std.specs.declared.option.Option as code
use Rattle.std.specs.Prelude.{None, Some}
use mathlib.Core.List.{List, ◌++◌}
use Prim.Native.Nat.{◌+◌, ◌-◌, ◌<◌, ◌≤◌, suc, ℕ}
use native.Mathlib.Omega.{arith}
use lib.ListN.{drop, get_elem?, length, length-append, length-drop, length-take, take}
use lib.Seq.{length-take-le, paste, take_at}
use Rattle.lists.proofs.Members.{◌∈◌}
use Rattle.bounds.proofs.Missing.{rows_map}
use Rattle.checks.specs.Checks.{answered}
use Rattle.chart.proofs.Charts.{Charts}
use Rattle.chart.specs.Chart.{graph_in, list_in, musts_in, plant_in, width_in}
use Rattle.copies.proofs.Copies.{copied_all}
use Rattle.copies.specs.Copies.{copied}
use Rattle.graph.proofs.Growth.{rows_of, rows_of_length, start}
use Rattle.graph.specs.Paths.{Key}
use Rattle.pages.proofs.TreePages.{Starts, rest_long, rest_next}
use Rattle.pages.specs.Pages.{rest_after}
use Rattle.paths.proofs.Laws.{entered_is, keys_length, pivots_are, rows_are}
use Rattle.paths.specs.Path.{entered_by, keys_of, length_of, plant_of}
use Rattle.paths.specs.declared.Path.{Path}
use Rattle.states.proofs.Full.{Full}
use Rattle.trail.specs.Trail.{Holds, Names, TurnsTo, sets_by}
use Rattle.trail.specs.declared.Turn.{Turn}
use Rattle.fill.specs.Walkable.{Begins, Comes, Walkable, filled_by}
use Rattle.fill.proofs.Filling.{Fills, Placed, filled_full, filled_next, filled_over, filled_start, placed_next, placed_start, read_back_lem}
use Rattle.fill.proofs.Steps.{comes_turned, full_long, list_part, turned, turned_or}

-- the arrays hold a path, with its rows in the first places
pub record Held (plant : ℕ) (entered pivots rows sets : List ℕ) (keys : List Key) : Type 0 where
  pub holds : Holds entered pivots sets plant keys
  pub first_rows : take (length keys) rows ≡ rows_of keys

-- a path by value does, once the sets of its nodes are gathered
module _ (p : Path) (nodes : length p.nodes ≡ 32) (rows : length p.rows ≡ 31) (pivots : length p.pivots ≡ 31) where
  path_held : (sets : List ℕ) (n : ℕ) → n ≡ length_of p + 1 → take (length (take n p.nodes)) sets ≡ sets_by (take n p.nodes) → length sets ≡ 32
      → Held (plant_of p) p.nodes p.pivots p.rows sets (keys_of p)
  path_held sets n e gathered sets_long = record {
    holds = record {
      few = omega (arith, long);
      nodes_long = nodes;
      pivots_long = pivots;
      sets_long = sets_long;
      nodes_are = rw end entered;
      pivots_are = rw long (sym (pivots_are p nodes rows pivots));
      sets_are = ap (λ (k : ℕ). take k sets) (end ∙ sym e ∙ sym all) ∙ gathered ∙ ap (λ (k : ℕ). sets_by (take k p.nodes)) e ∙ ap sets_by entered;
    };
    first_rows = rw long (sym (rows_are p nodes rows pivots) ∙ sym (rows_map (keys_of p)));
  }
    where
      long : length (keys_of p) ≡ length_of p
      long = keys_length p nodes rows pivots

      end : suc (length (keys_of p)) ≡ length_of p + 1
      end = omega (arith, long)

      all : length (take n p.nodes) ≡ n
      all = length-take-le n p.nodes (omega arith)

      entered : take (length_of p + 1) p.nodes ≡ entered_by (plant_of p) (keys_of p)
      entered = entered_is p nodes rows pivots

-- the first places written anew, the others stay
rows_stay : (w : ℕ) (rows part : List ℕ) → length rows ≡ 31 → length part ≡ length (take w rows) → length (part ++ drop w rows) ≡ 31
rows_stay w rows part long kept = omega (arith, length-append part (drop w rows), length-drop w rows, length-take w rows)

-- the arrays hold the path of a tree, and these are its rows
pub record Shown (c entered pivots rows sets : List ℕ) (tree : Option (List ℕ)) : Type 0 where
  pub keys : List Key
  pub path : Held (plant_in c) entered pivots rows sets keys
  pub stands : tree ≡ some (rows_of keys)
  pub full : Full (graph_in c) (start (graph_in c)) (musts_in c) keys

-- the path that comes first behind a start does, w being the chart's width
module _ {c : List ℕ} (ok : Walkable c) (w : ℕ) (same : w ≡ width_in c) (first : Path) (nodes : length first.nodes ≡ 32) (rows : length first.rows ≡ 31)
    (pivots : length first.pivots ≡ 31) where
  pub begins_shown : (begin sets : List ℕ) → Begins c begin (Some first) → take (length (take (w + 1) first.nodes)) sets ≡ sets_by (take (w + 1) first.nodes) → length sets ≡ 32
      → Shown c first.nodes first.pivots first.rows sets (get_elem? (rest_after (list_in c) begin) 0)
  begins_shown begin sets begins gathered sets_long =
      let (stands, full) = begins.comes in
      record {
        keys = keys_of first;
        path =
            let end : w + 1 ≡ length_of first + 1 = omega (arith, same, full_long ok (keys_of first) full, keys_length first nodes rows pivots) in
            subst (λ (v : ℕ). Held v first.nodes first.pivots first.rows sets (keys_of first)) begins.plant (path_held first nodes rows pivots sets (w + 1) end gathered sets_long);
        stands = stands;
        full = full;
      }

-- where none comes first behind a start, nothing is written
pub begins_over : {c : List ℕ} → Walkable c → (page begin : List ℕ) → Starts (list_in c) begin → Begins c begin None
    → record { outcome = answered (record { count = 0; more = false }); buffers = page } ≡ filled_by (width_in c) page (rest_after (list_in c) begin)
begins_over {c} ok page begin starts begins =
    let w = width_in c in
    let rest = rest_after (list_in c) begin in
    let long : (p : List ℕ) → p ∈ rest → length p ≡ w = λ p m. omega (arith, rest_long (list_part c) begin p starts m, ok.right.wide) in
    filled_over w page rest ok.several long (placed_start w page) (filled_start w page rest) begins.comes

-- `count` trees of the list are written, and the arrays show the one behind them
pub record Written (c : List ℕ) (w : ℕ) (page₀ : List ℕ) (rest : List (List ℕ)) (page entered pivots rows sets : List ℕ) (at count : ℕ) : Type 0 where
  pub filled : Fills w page₀ rest page at count
  pub shown : Shown c entered pivots rows sets (get_elem? rest count)

-- what holds at each turn: the places of any chart, and the trees of one whose trees can be listed, where the arrays showed the first of those that are left
module _ (c : List ℕ) (w : ℕ) (page₀ entered₀ pivots₀ rows₀ sets₀ : List ℕ) where
  pub record Kept (page entered pivots rows sets : List ℕ) (at count : ℕ) : Type 0 where
    pub placed : Placed w page₀ page at count
    pub nodes_long : length entered ≡ 32
    pub rows_long : length rows ≡ 31
    pub written : (begin : List ℕ) → Walkable c → Starts (list_in c) begin → Shown c entered₀ pivots₀ rows₀ sets₀ (get_elem? (rest_after (list_in c) begin) 0)
        → Written c w page₀ (rest_after (list_in c) begin) page entered pivots rows sets at count

  pub kept_start : length entered₀ ≡ 32 → length rows₀ ≡ 31 → Kept page₀ entered₀ pivots₀ rows₀ sets₀ 0 0
  kept_start nodes_long rows_long = record {
    placed = placed_start w page₀;
    nodes_long = nodes_long;
    rows_long = rows_long;
    written = λ begin ok starts shown. record { filled = filled_start w page₀ (rest_after (list_in c) begin); shown = shown };
  }

module _ {c : List ℕ} {w : ℕ} (same : w ≡ width_in c) (wide : 0 < w) {page₀ entered₀ pivots₀ rows₀ sets₀ page entered pivots rows sets : List ℕ} {at count : ℕ}
    (t : Kept c w page₀ entered₀ pivots₀ rows₀ sets₀ page entered pivots rows sets at count) where
  -- from a start on
  module _ (begin : List ℕ) (ok : Walkable c) (starts : Starts (list_in c) begin) (shown₀ : Shown c entered₀ pivots₀ rows₀ sets₀ (get_elem? (rest_after (list_in c) begin) 0)) where
    abbrev rest : List (List ℕ)
    rest = rest_after (list_in c) begin

    -- the tree in the arrays is the next one, with all must rows
    abbrev now : Written c w page₀ rest page entered pivots rows sets at count
    now = t.written begin ok starts shown₀

    long : (p : List ℕ) → p ∈ rest → length p ≡ w
    long p m = omega (arith, rest_long (list_part c) begin p starts m, ok.right.wide)

    -- the page is full
    pub kept_full : length page - at < w
        → record { outcome = answered (record { count = count; more = true }); buffers = page } ≡ filled_by (width_in c) page₀ (rest_after (list_in c) begin)
    kept_full full = rw (← same) (filled_full w page₀ rest wide long t.placed now.filled (rows_of now.shown.keys) now.shown.stands full)

  -- what is found behind the path in the arrays, with its rows in these places
  abbrev pub Finds : List ℕ → code.Option Turn → Type 0
  Finds places turn =
      (keys : List Key) → Charts c → Full (graph_in c) (start (graph_in c)) (musts_in c) keys → Holds entered pivots sets (plant_in c) keys → places ≡ rows_of keys
      → TurnsTo c (plant_in c) keys turn

  -- what taking a turn makes
  abbrev pub Taken : Turn → List ℕ → List ℕ → List ℕ → List ℕ → Type 0
  Taken turn entered' pivots' sets' part =
      (keys : List Key) → Holds entered pivots sets (plant_in c) keys → Names keys turn → take turn.at (take w rows) ≡ take turn.at (rows_of keys)
      → length (take w rows) ≡ width_in c → length (turned c keys turn) ≡ width_in c → Holds entered' pivots' sets' (plant_in c) (turned c keys turn) × (part ≡ rows_of (turned c keys turn))

  -- the tree in the arrays is written, and read back
  module _ (few : w ≤ 31) (room : at + w ≤ length page) {page' : List ℕ} (copy : page' ≡ copied page at (take w rows) w) (kept : length page' ≡ length page) where
    placed : Placed w page₀ page' (at + w) (count + 1)
    placed = placed_next w page₀ t.placed wide room kept

    module _ (begin : List ℕ) (ok : Walkable c) (starts : Starts (list_in c) begin) (shown₀ : Shown c entered₀ pivots₀ rows₀ sets₀ (get_elem? (rest_after (list_in c) begin) 0)) where
      abbrev shown : Shown c entered pivots rows sets (get_elem? (rest_after (list_in c) begin) count)
      shown = (now begin ok starts shown₀).shown

      abbrev tree : List Key
      tree = shown.keys

      size : length tree ≡ w
      size = omega (arith, same, full_long ok tree shown.full)

      row_count : length (rows_of tree) ≡ w
      row_count = rows_of_length tree ∙ size

      first_rows : take w rows ≡ rows_of tree
      first_rows = subst (λ (n : ℕ). take n rows ≡ rows_of tree) size shown.path.first_rows

      new : page' ≡ paste page at (rows_of tree) (length (rows_of tree))
      new = copy ∙ (rw (first_rows, row_count) (copied_all page at (rows_of tree) w room (omega (arith, row_count))))

      next_filled : Fills w page₀ (rest_after (list_in c) begin) page' (at + w) (count + 1)
      next_filled =
          filled_next w page₀ (rest_after (list_in c) begin) wide (long begin ok starts shown₀) t.placed (now begin ok starts shown₀).filled (rows_of tree) page' shown.stands new

      module _ (turn : code.Option Turn) (finds : Finds (take (at + w - at) (drop at page')) turn) where
        turns : TurnsTo c (plant_in c) tree turn
        turns = finds tree ok.right shown.full shown.path.holds (rw new (read_back_lem w at page (rows_of tree) row_count room))

        next_comes : Comes c (turned_or c tree turn) (get_elem? (rest_after (list_in c) begin) (count + 1))
        next_comes = rw (rest_next (list_part c) begin starts count (rows_of tree) shown.stands).1 (comes_turned ok tree shown.full turn turns)

      -- it is the last
      pub kept_last : (turn : code.Option Turn) → Finds (take (at + w - at) (drop at page')) turn → turn ≡ None
          → record { outcome = answered (record { count = count + 1; more = false }); buffers = page' } ≡ filled_by (width_in c) page₀ (rest_after (list_in c) begin)
      kept_last turn finds e =
          let over = rw e at (next_comes turn finds) in
          rw (← same) (filled_over w page₀ (rest_after (list_in c) begin) wide (long begin ok starts shown₀) placed next_filled over)

    -- a turn makes the next of it
    pub kept_turn : (found : code.Option Turn) → Finds (take (at + w - at) (drop at page')) found → (turn : Turn) → found ≡ Some turn → {entered' pivots' part sets' : List ℕ}
        → Taken turn entered' pivots' sets' part → length entered' ≡ length entered → length part ≡ length (take w rows)
        → Kept c w page₀ entered₀ pivots₀ rows₀ sets₀ page' entered' pivots' (part ++ drop w rows) sets' (at + w) (count + 1)
    kept_turn found finds turn e {entered'} {pivots'} {part} {sets'} taken nodes_kept part_kept = record {
      placed = placed;
      nodes_long = nodes_kept ∙ t.nodes_long;
      rows_long = rows_stay w rows part t.rows_long part_kept;
      written = λ begin ok starts shown₀.
          let keys = tree begin ok starts shown₀ in
          let next = turned c keys turn in
          let (stands, full) = rw e at (next_comes begin ok starts shown₀ found finds) in
          let to = rw e at (turns begin ok starts shown₀ found finds) in
          let next_size : length next ≡ width_in c = full_long ok next full in
          let (holds, rows_same) = taken keys (shown begin ok starts shown₀).path.holds to.1 (ap (take turn.at) (first_rows begin ok starts shown₀))
          (length-take-le w rows (omega (arith, t.rows_long)) ∙ same) next_size in
          let row_size : length (rows_of next) ≡ w = omega (arith, rows_of_length next, same) in
          let first : take w (part ++ drop w rows) ≡ rows_of next = take_at part (drop w rows) w (ap length rows_same ∙ row_size) ∙ rows_same in
          let end : w ≡ length next = omega (arith, same) in
          record {
            filled = next_filled begin ok starts shown₀;
            shown = record {
              keys = next;
              path = record { holds = holds; first_rows = subst (λ (n : ℕ). take n (part ++ drop w rows) ≡ rows_of next) end first };
              stands = stands;
              full = full;
            };
          };
    }

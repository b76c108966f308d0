-- What the chart of a file tells a build: its first path is the list's first tree (`first_given`), which is there exactly if the network has a tree (`tree_given`). As
-- many entries as the quotient says have room, and more do not (`fits_room`, `fits_short`): an index without room is refused (`short_given`),
-- and any other, once it is written, answers the call (`met_given`).
use mathlib.Core.Path.{◌∙◌, ◌≡◌, ap, ap₂, refl, sym}
use mathlib.Core.Bool.{false, true}
use mathlib.Core.Option.{none-ne-some, some-ne-none, none, some}
use Rattle.std.specs.Prelude.{None, Option, Some, is_some}
use mathlib.Core.List.{List, [], ◌∷◌}
use Prim.Native.Nat.{◌*◌, ◌/◌, ◌<◌, ◌≤◌, ℕ}
use native.Mathlib.Nat.{div-lt_iff_lt-mul}
use lib.Dec.{leb}
use lib.ListN.{get_elem?, length, take}
use borrow.Author.Tests.{leb-false, leb-true}
use Rattle.lists.proofs.Ascending.{at_mem}
use Rattle.bounds.proofs.Missing.{rows_map}
use Rattle.chart.specs.Chart.{list_in, width_in}
use Rattle.checks.specs.Checks.{answered, refused}
use Rattle.fill.proofs.Steps.{comes_first, full_long}
use Rattle.fill.specs.Walkable.{Comes}
use Rattle.graph.proofs.Growth.{rows_of}
use Rattle.graph.specs.Graph.{width}
use Rattle.indexes.proofs.Checks.{index_met, index_short}
use Rattle.indexes.specs.Index.{index_call, indexed}
use Rattle.moves.specs.Tree.{tree_of}
use Rattle.network_file.specs.File.{within}
use Rattle.operations.specs.Operations.{graph_in, layouts_in, over, some_tree}
use Rattle.pages.proofs.Pages.{rows_end}
use Rattle.pages.specs.Pages.{flat}
use Rattle.paths.proofs.Laws.{keys_length, path_rows}
use Rattle.paths.specs.Path.{keys_of}
use Rattle.paths.specs.declared.Path.{Path}
use Rattle.start.proofs.Given.{leads_given, list_read, listed_tree, right_given, walk_given, width_read}
use Rattle.start.specs.Start.{ChartOf}
use Rattle.walk.specs.Walk.{first_in, next_of}

-- n entries of w places each, against a buffer's length: they have room, or they do not
module _ (n w v len : ℕ) (same : w ≡ v) where
  pub fits_room : leb n (len / w) ≡ true → n * v ≤ len
  fits_room e = rw (← same) (rows_end n w len (leb-true _ _ e))

  pub fits_short : 0 < w → leb n (len / w) ≡ false → len < n * v
  fits_short wide e = rw (← same) ((div-lt_iff_lt-mul {k = w} {x = len} {y = n} wide).0 (leb-false _ _ e))

module _ {f c : List ℕ} (o : ChartOf f c) where
  first_comes : (next : Option Path) → next_of next ≡ first_in c → Comes c (next_of next) (get_elem? (list_in c) 0)
  first_comes next answer = rw answer (comes_first (right_given o) (leads_given o))

  -- the rows of the path that comes first, or there is none
  pub first_given : (path : Path) → next_of (Some path) ≡ first_in c → length path.nodes ≡ 32 → length path.rows ≡ 31 → length path.pivots ≡ 31
      → some (take (width_in c) path.rows) ≡ get_elem? (list_in c) 0
  first_given path answer nodes rows pivots =
      let (there, full) = first_comes (Some path) answer in
      let ok = walk_given o (listed_tree o (rows_of (keys_of path)) (at_mem (list_in c) 0 there)) in
      let size = sym (full_long ok (keys_of path) full) ∙ keys_length path nodes rows pivots in
      ap some (path_rows path (width_in c) size nodes rows pivots ∙ sym (rows_map (keys_of path))) ∙ sym there

  pub none_given : next_of None ≡ first_in c → none ≡ get_elem? (list_in c) 0
  none_given answer = sym (first_comes None answer)

  pub tree_given : (t : Option (List ℕ)) → tree_of (width_in c) t ≡ get_elem? (list_in c) 0 → some_tree (layouts_in f) ≡ is_some t
  tree_given t e = ap some_tree (sym (list_read o)) ∙ by (list_in c) t e
    where
      by : (l : List (List ℕ)) (t : Option (List ℕ)) → tree_of (width_in c) t ≡ get_elem? l 0 → some_tree l ≡ is_some t
      by [] None h = refl
      by [] (Some rows) h = absurd (some-ne-none _ h)
      by (p ∷ l) None h = absurd (none-ne-some _ h)
      by (p ∷ l) (Some rows) h = refl

  -- the index of the chart's trees is the file's
  entries_read : (s : ℕ) → length (indexed s (list_in c)) * width_in c ≡ length (indexed s (layouts_in f)) * width (graph_in f)
  entries_read s = rw (list_read o, width_read o)

  module _ (s : ℕ) (right : within 1 1000 s ≡ true) (index : List ℕ) (tree : some_tree (layouts_in f) ≡ true) where
    pub short_given : length index < length (indexed s (list_in c)) * width_in c → record { outcome = refused 11; buffers = index } ≡ index_call f s index
    short_given short = index_short f s index o.met right tree (rw (← entries_read s) short)

    pub met_given : length (indexed s (list_in c)) * width_in c ≤ length index → (n : ℕ) (index' : List ℕ)
        → (n ≡ length (indexed s (list_in c))) × (index' ≡ over (flat (indexed s (list_in c))) index)
        → record { outcome = answered n; buffers = index' } ≡ index_call f s index
    met_given room n index' ends =
        let entries = ap (indexed s) (list_read o) in
        let all = ends.0 ∙ ap length entries in
        let held = ends.1 ∙ ap (λ (l : List (List ℕ)). over (flat l) index) entries in
        ap₂ (λ (n : ℕ) (l : List ℕ). record { outcome = answered n; buffers = l }) all held ∙ index_met f s index o.met right tree (rw (← entries_read s) room)

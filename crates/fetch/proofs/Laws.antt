-- Laws of a fetch over the chart of a file: each way in which it ends (`fetched_short` to `fetched_met`). The code's rows are the entry for t (`entry_read`), which is a tree of the
-- list where it meets its checks, so that the tree reached by t % s moves stands as many places behind it (`at_place`).
use mathlib.Core.Path.{◌∙◌, ◌≡◌, ap, subst, sym}
use mathlib.Core.Bool.{true}
use mathlib.Core.Option.{none, some}
use Rattle.std.specs.declared.option.Option as code
use Rattle.std.specs.Prelude.{None, Some}
use mathlib.Core.List.{List, [], ◌++◌}
use Prim.Native.Nat.{◌%◌, ◌*◌, ◌+◌, ◌-◌, ◌/◌, ◌<◌, ◌≤◌, pred, suc, ℕ}
use native.Mathlib.Nat.{div-lt_iff_lt-mul, le-div_iff_mul-le, suc-mul}
use native.Mathlib.Omega.{arith}
use lib.ListN.{drop, get_or, get_elem?, length, length-drop, length-take, take}
use lib.Seq.{length-take-le, take-append_seam}
use Rattle.lists.proofs.Ascending.{at_mem, get_d_at, mem_at, none_past}
use Rattle.lists.proofs.Members.{◌∈◌}
use Rattle.checks.specs.Checks.{answered, first_unmet, refused}
use Rattle.graph.proofs.Parts.{part_length}
use Rattle.graph.specs.Graph.{width}
use Rattle.chart.specs.Chart.{list_in, width_in}
use Rattle.copies.specs.Copies.{copied}
use Rattle.copies.proofs.Copies.{copied_all, copied_whole}
use Rattle.fill.specs.Walkable.{Walkable}
use Rattle.indexes.specs.Index.{entry_at, entry_checks, fetch_call}
use Rattle.indexes.proofs.Checks.{entry_start, fetch_entry, fetch_none, fetch_short}
use Rattle.indexes.proofs.Fetch.{entry_listed, fetch_found, fetch_over}
use Rattle.moves.specs.Tree.{tree_of}
use Rattle.network_file.proofs.Accepted.{Accepted, accepted}
use Rattle.network_file.specs.File.{network_of, within}
use Rattle.operations.proofs.Files.{layouts_in_lem, node_count_lem, wide}
use Rattle.operations.specs.Operations.{graph_in, layouts_in, over, start_checks}
use Rattle.start.specs.Start.{ChartOf}
use Rattle.start.proofs.Given.{list_read, listed_tree, walk_given, width_read}

-- rows copied to the first of 31 places
pub rows_kept : (places rows : List ℕ) → length rows ≤ length places → take (length rows) (copied places 0 rows (length rows)) ≡ rows
rows_kept places rows fits = ap (take (length rows)) (copied_whole places rows fits) ∙ take-append_seam rows (drop (length rows) places)

-- entry e of the len / w whole ones ends within
pub entry_ends : (e w len : ℕ) → ¬ (w ≡ 0) → e < len / w → e * w + w ≤ len
entry_ends e w len p h = rw suc-mul at ((le-div_iff_mul-le {k = w} {x = suc e} {y = len} (omega arith)).0 h)

module _ {f c : List ℕ} (o : ChartOf f c) (w : ℕ) (read : w ≡ width_in c) where
  file : Accepted f
  file = accepted f o.met

  width_is : w ≡ width (graph_in f)
  width_is = read ∙ width_read o

  some_rows : 0 < w
  some_rows = rw width_is (wide f file)

  pub width_some : ¬ (w ≡ 0)
  width_some e = omega (arith, some_rows)

  -- a tree has at most 31 rows
  width_few : w ≤ 31
  width_few = let few : pred (length (graph_in f).nodes) ≤ 31 = omega (arith, node_count_lem f, file.nodes_high) in rw width_is few

  module _ (s : ℕ) (right : within 1 1000 s ≡ true) (index : List ℕ) (t : ℕ) (buffer : List ℕ) where
    pub fetched_short : length buffer < w → record { outcome = refused 11; buffers = buffer } ≡ fetch_call f s index t buffer
    fetched_short h = fetch_short f s index t buffer o.met right (rw width_is at h)

    module _ (room : w ≤ length buffer) where
      room_is : width (graph_in f) ≤ length buffer
      room_is = rw width_is at room

      pub fetched_none : length index / w ≤ t / s → record { outcome = refused 26; buffers = buffer } ≡ fetch_call f s index t buffer
      fetched_none h =
          let past = (div-lt_iff_lt-mul {k = w} {x = length index} {y = suc (t / s)} some_rows).0 (omega (arith, h)) in
          fetch_none f s index t buffer o.met right room_is (rw (suc-mul, width_is) at past)

      module _ (held : t / s * w + w ≤ length index) where
        held_is : t / s * width (graph_in f) + width (graph_in f) ≤ length index
        held_is = rw width_is at held

        abbrev entry : List ℕ
        entry = entry_at (width (graph_in f)) index (t / s)

        long : length entry ≡ width (graph_in f)
        long = length-take-le (width (graph_in f)) (drop (t / s * width (graph_in f)) index) (omega (arith, length-drop (t / s * width (graph_in f)) index, held_is))

        -- the rows that the code takes
        abbrev rows : List ℕ
        rows = take (t / s * w + w - t / s * w) (drop (t / s * w) index)

        entry_read : rows ≡ entry
        entry_read =
            let one : t / s * w + w - t / s * w ≡ w = omega arith in
            ap (λ (n : ℕ). take n (drop (t / s * w) index)) one ∙ ap (λ (n : ℕ). entry_at n index (t / s)) width_is

        rows_long : length rows ≡ w
        rows_long = ap length entry_read ∙ long ∙ sym width_is

        checks_are : first_unmet (start_checks (network_of f) rows) ≡ first_unmet (entry_checks (network_of f) entry)
        checks_are = ap (λ (p : List ℕ). first_unmet (start_checks (network_of f) p)) entry_read ∙ entry_start (network_of f) entry (rw long (wide f file)) long

        pub fetched_entry : (e : ℕ) → first_unmet (start_checks (network_of f) rows) ≡ some e → record { outcome = refused e; buffers = buffer } ≡ fetch_call f s index t buffer
        fetched_entry e h = fetch_entry f s index t buffer o.met right room_is held_is e (sym checks_are ∙ h)

        module _ (ok : first_unmet (start_checks (network_of f) rows) ≡ none) where
          listed : entry ∈ layouts_in f
          listed = entry_listed f o.met entry long (sym checks_are ∙ ok)

          -- the tree of these rows, and the one that is reached by so many moves
          module _ (places : List ℕ) (reached : code.Option (List ℕ)) (made : length rows ≤ 31 → take (length rows) places ≡ rows)
              (moved : (i : ℕ) → Walkable c → some (take (width_in c) places) ≡ get_elem? (list_in c) i → tree_of (width_in c) reached ≡ get_elem? (list_in c) (i + t % s)) where
            place : (i : ℕ) × (get_elem? (layouts_in f) i ≡ some entry)
            place = mem_at listed

            made_is : take (width_in c) places ≡ entry
            made_is = ap (λ (n : ℕ). take n places) (sym (rows_long ∙ read)) ∙ made (rw rows_long width_few) ∙ entry_read

            place_is : get_elem? (list_in c) place.0 ≡ some entry
            place_is = ap (λ (L : List (List ℕ)). get_elem? L place.0) (list_read o) ∙ place.1

            at_place : tree_of w reached ≡ get_elem? (layouts_in f) (place.0 + t % s)
            at_place =
                ap (λ (n : ℕ). tree_of n reached) read
                ∙ moved place.0 (walk_given o (listed_tree o entry (at_mem (list_in c) place.0 place_is))) (ap some made_is ∙ sym place_is)
                ∙ ap (λ (L : List (List ℕ)). get_elem? L (place.0 + t % s)) (list_read o)

            reached_is : {o : code.Option (List ℕ)} → reached ≡ o → tree_of w o ≡ get_elem? (layouts_in f) (place.0 + t % s)
            reached_is e = subst (λ (o : code.Option (List ℕ)). tree_of w o ≡ get_elem? (layouts_in f) (place.0 + t % s)) e at_place

            pub fetched_ends : reached ≡ None → record { outcome = refused 26; buffers = buffer } ≡ fetch_call f s index t buffer
            fetched_ends e = sym (fetch_over f o.met s right t buffer room_is index held_is place.0 place.1 past)
              where
                past : length (layouts_in f) ≤ place.0 + t % s
                past = none_past (layouts_in f) (place.0 + t % s) (sym (reached_is e))

            pub fetched_met : (after : List ℕ) {tree : List ℕ} → reached ≡ Some tree → after ≡ copied buffer 0 tree w
                → record { outcome = answered (t % s); buffers = after } ≡ fetch_call f s index t buffer
            fetched_met after {tree} e copies =
                ap (λ (l : List ℕ). record { outcome = answered (t % s); buffers = l }) (written ∙ ap (λ (l : List ℕ). over l buffer) (sym found.1))
                ∙ sym (fetch_found f o.met s right t buffer room_is index held_is place.0 place.1 found.0)
              where
                there : get_elem? (layouts_in f) (place.0 + t % s) ≡ some (take w tree)
                there = sym (reached_is e)

                found : (place.0 + t % s < length (layouts_in f)) × (get_or (layouts_in f) (place.0 + t % s) [] ≡ take w tree)
                found = get_d_at (layouts_in f) (place.0 + t % s) [] there

                size : length (take w tree) ≡ w
                size = part_length (layouts_in_lem f file) (take w tree) (at_mem (layouts_in f) (place.0 + t % s) there) ∙ sym width_is

                written : after ≡ over (take w tree) buffer
                written =
                    let all : w ≤ length tree = omega (arith, size, length-take w tree) in
                    let end : 0 + w ≡ length (take w tree) = omega (arith, size) in
                    copies ∙ copied_all buffer 0 tree w (omega (arith, room)) all ∙ ap (λ (n : ℕ). take w tree ++ drop n buffer) end

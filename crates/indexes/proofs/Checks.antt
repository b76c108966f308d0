-- Both calls, check by check: what a build comes to where its first unmet check is the file's, 26, 12 or 11, and where all are met (`index_open` to `index_met`); and a fetch
-- where it is the file's, 26, 11, 26, the entry's own, 26, and where all are met (`fetch_open` to `fetch_met`). An entry's checks are those of a start of its length (`entry_start`).
use mathlib.Core.Path.{◌∙◌, ◌≡◌, sym}
use mathlib.Core.Bool.{false, true}
use mathlib.Core.Option.{none, some}
use mathlib.Core.List.{List, [], ◌++◌, ◌∷◌}
use Prim.Native.Nat.{◌%◌, ◌*◌, ◌+◌, ◌/◌, ◌<◌, ◌≤◌, ℕ}
use native.Mathlib.Omega.{arith}
use lib.Dec.{leb, leb→le, ltb}
use lib.ListN.{get_or, length}
use borrow.Author.Tests.{eq-eqb, le-leb, le-ltb, lt-leb, lt-ltb}
use Rattle.lists.proofs.Tests.{T-both, T_true}
use Rattle.graph.specs.Graph.{width}
use Rattle.checks.specs.Checks.{Check, answered, first_unmet, refused}
use Rattle.checks.proofs.Checks.{first_unmet_append, first_unmet_met, first_unmet_unmet}
use Rattle.checks.proofs.Ended.{ended_met, ended_unmet, first_unmet_stops}
use Rattle.costs.specs.Network.{Network, graph_of}
use Rattle.network_file.specs.File.{file_checks, network_of, within}
use Rattle.operations.specs.Operations.{check, drawn_checks, graph_in, layouts_in, over, some_tree, start_checks, tree_checks}
use Rattle.pages.specs.Pages.{flat}
use Rattle.indexes.specs.Index.{entry_at, entry_checks, fetch_call, fetch_checks, index_call, index_checks, indexed, onward, spaced}

-- a spacing in range is at least 1
pub spacing_least : (s : ℕ) → within 1 1000 s ≡ true → 1 ≤ s
spacing_least s right = leb→le 1 s ((T-both (leb 1 s) (leb s 1000)).0 ((T_true _).1 right)).0

-- An index is built

module _ (f : List ℕ) (s : ℕ) (index : List ℕ) where
  abbrev entries : List (List ℕ)
  entries = indexed s (layouts_in f)

  abbrev roomy : Check
  roomy = check 11 (leb (length entries * width (graph_in f)) (length index))

  abbrev behind26 : List Check
  behind26 = check 12 (some_tree (layouts_in f)) ∷ roomy ∷ []

  stops : (e : ℕ) → first_unmet (index_checks f s index) ≡ some e → record { outcome = refused e; buffers = index } ≡ index_call f s index
  unfolding index_call
  stops e h = sym (ended_unmet (index_checks f s index) _ index _ e h)

  pub index_open : (e : ℕ) → first_unmet (file_checks f) ≡ some e → record { outcome = refused e; buffers = index } ≡ index_call f s index
  unfolding index_checks
  index_open e h = stops e (first_unmet_stops (file_checks f) (spaced s ∷ behind26) e h)

  module _ (met : first_unmet (file_checks f) ≡ none) where
    open_met : first_unmet (index_checks f s index) ≡ first_unmet (spaced s ∷ behind26)
    unfolding index_checks
    open_met = first_unmet_append (file_checks f) (spaced s ∷ behind26) met

    pub index_spacing : within 1 1000 s ≡ false → record { outcome = refused 26; buffers = index } ≡ index_call f s index
    index_spacing e = stops 26 (open_met ∙ first_unmet_unmet (spaced s) behind26 e)

    module _ (right : within 1 1000 s ≡ true) where
      spacing_met : first_unmet (index_checks f s index) ≡ first_unmet behind26
      spacing_met = open_met ∙ first_unmet_met (spaced s) behind26 right

      pub index_none : some_tree (layouts_in f) ≡ false → record { outcome = refused 12; buffers = index } ≡ index_call f s index
      index_none e = stops 12 (spacing_met ∙ first_unmet_unmet (check 12 (some_tree (layouts_in f))) (roomy ∷ []) e)

      module _ (tree : some_tree (layouts_in f) ≡ true) where
        tree_met : first_unmet (index_checks f s index) ≡ first_unmet (roomy ∷ [])
        tree_met = spacing_met ∙ first_unmet_met (check 12 (some_tree (layouts_in f))) (roomy ∷ []) tree

        pub index_short : length index < length entries * width (graph_in f) → record { outcome = refused 11; buffers = index } ≡ index_call f s index
        index_short short = stops 11 (tree_met ∙ first_unmet_unmet roomy [] (lt-leb _ _ short))

        pub index_met : length entries * width (graph_in f) ≤ length index
            → record { outcome = answered (length entries); buffers = over (flat entries) index } ≡ index_call f s index
        unfolding index_call first_unmet
        index_met room = sym (ended_met (index_checks f s index) _ index _ (tree_met ∙ first_unmet_met roomy [] (le-leb _ _ room)))

-- A tree is fetched

-- the checks of an entry are those of a start that is as long as a tree
pub entry_start : (w : Network) (p : List ℕ) → 0 < length p → length p ≡ width (graph_of w) → first_unmet (start_checks w p) ≡ first_unmet (entry_checks w p)
unfolding start_checks drawn_checks tree_checks entry_checks
entry_start w [] some_rows long = absurd (omega arith)
entry_start w (r ∷ rs) some_rows long = first_unmet_met (check 8 _) _ (eq-eqb _ _ long)

module _ (f : List ℕ) (s : ℕ) (index : List ℕ) (t : ℕ) (buffer : List ℕ) where
  abbrev w : ℕ
  w = width (graph_in f)

  -- the entry, and the trees from it on
  abbrev pub entry : List ℕ
  entry = entry_at w index (t / s)

  abbrev pub trees : List (List ℕ)
  trees = onward (layouts_in f) entry

  abbrev whole : Check
  whole = check 26 (leb (t / s * w + w) (length index))

  abbrev reaches : Check
  reaches = check 26 (ltb (t % s) (length trees))

  abbrev own : List Check
  own = entry_checks (network_of f) entry ++ (reaches ∷ [])

  abbrev after_spacing : List Check
  after_spacing = check 11 (leb w (length buffer)) ∷ whole ∷ own

  stops_fetch : (e : ℕ) → first_unmet (fetch_checks f s index t buffer) ≡ some e → record { outcome = refused e; buffers = buffer } ≡ fetch_call f s index t buffer
  unfolding fetch_call
  stops_fetch e h = sym (ended_unmet (fetch_checks f s index t buffer) _ buffer _ e h)

  pub fetch_open : (e : ℕ) → first_unmet (file_checks f) ≡ some e → record { outcome = refused e; buffers = buffer } ≡ fetch_call f s index t buffer
  unfolding fetch_checks
  fetch_open e h = stops_fetch e (first_unmet_stops (file_checks f) (spaced s ∷ after_spacing) e h)

  module _ (met : first_unmet (file_checks f) ≡ none) where
    file_met : first_unmet (fetch_checks f s index t buffer) ≡ first_unmet (spaced s ∷ after_spacing)
    unfolding fetch_checks
    file_met = first_unmet_append (file_checks f) (spaced s ∷ after_spacing) met

    pub fetch_spacing : within 1 1000 s ≡ false → record { outcome = refused 26; buffers = buffer } ≡ fetch_call f s index t buffer
    fetch_spacing e = stops_fetch 26 (file_met ∙ first_unmet_unmet (spaced s) after_spacing e)

    module _ (right : within 1 1000 s ≡ true) where
      right_met : first_unmet (fetch_checks f s index t buffer) ≡ first_unmet after_spacing
      right_met = file_met ∙ first_unmet_met (spaced s) after_spacing right

      pub fetch_short : length buffer < w → record { outcome = refused 11; buffers = buffer } ≡ fetch_call f s index t buffer
      fetch_short short = stops_fetch 11 (right_met ∙ first_unmet_unmet _ (whole ∷ own) (lt-leb _ _ short))

      module _ (room : w ≤ length buffer) where
        room_met : first_unmet (fetch_checks f s index t buffer) ≡ first_unmet (whole ∷ own)
        room_met = right_met ∙ first_unmet_met _ (whole ∷ own) (le-leb _ _ room)

        pub fetch_none : length index < t / s * w + w → record { outcome = refused 26; buffers = buffer } ≡ fetch_call f s index t buffer
        fetch_none short = stops_fetch 26 (room_met ∙ first_unmet_unmet whole own (lt-leb _ _ short))

        module _ (held : t / s * w + w ≤ length index) where
          held_met : first_unmet (fetch_checks f s index t buffer) ≡ first_unmet own
          held_met = room_met ∙ first_unmet_met whole own (le-leb _ _ held)

          pub fetch_entry : (e : ℕ) → first_unmet (entry_checks (network_of f) entry) ≡ some e → record { outcome = refused e; buffers = buffer } ≡ fetch_call f s index t buffer
          fetch_entry e h = stops_fetch e (held_met ∙ first_unmet_stops (entry_checks (network_of f) entry) (reaches ∷ []) e h)

          module _ (listed : first_unmet (entry_checks (network_of f) entry) ≡ none) where
            listed_met : first_unmet (fetch_checks f s index t buffer) ≡ first_unmet (reaches ∷ [])
            listed_met = held_met ∙ first_unmet_append (entry_checks (network_of f) entry) (reaches ∷ []) listed

            pub fetch_ends : length trees ≤ t % s → record { outcome = refused 26; buffers = buffer } ≡ fetch_call f s index t buffer
            fetch_ends past = stops_fetch 26 (listed_met ∙ first_unmet_unmet reaches [] (le-ltb _ _ past))

            pub fetch_met : t % s < length trees → record { outcome = answered (t % s); buffers = over (get_or trees (t % s) []) buffer } ≡ fetch_call f s index t buffer
            unfolding fetch_call first_unmet
            fetch_met reached = sym (ended_met (fetch_checks f s index t buffer) _ buffer _ (listed_met ∙ first_unmet_met reaches [] (lt-ltb _ _ reached)))

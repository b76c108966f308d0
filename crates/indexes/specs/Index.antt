-- Tree by number (document 02, #114): an index beside the list with trees 0, s, 2 × s and so on, which is built, and from which tree t is fetched.
-- Each call has its whole table of checks, for every input; what stands behind a check may answer anything where that check is not met.
use Rattle.std.specs.Prelude.{List, [], ◌++◌, ◌∷◌, ◌%◌, ◌*◌, ◌+◌, ◌/◌, pred, suc, zero, ℕ, leb, ltb, drop, get_or, length, take}
use Rattle.lists.specs.Lists.{all}
use Rattle.graph.specs.Graph.{is_tree, width}
use Rattle.graph.specs.Paths.{is_minimal}
use Rattle.checks.specs.Checks.{Check, Ended, ended}
use Rattle.costs.specs.Layouts.{keeps_states}
use Rattle.costs.specs.Network.{Network, graph_of}
use Rattle.network_file.specs.File.{file_checks, network_of, within}
use Rattle.operations.specs.Operations.{check, graph_in, layouts_in, over, some_tree}
use Rattle.pages.specs.Pages.{behind, flat}

-- every s-th tree of a list, after the first c are passed over
unfoldable pub every_from : ℕ → ℕ → List (List ℕ) → List (List ℕ)
every_from s c [] = []
every_from s zero (p ∷ l) = p ∷ every_from s (pred s) l
every_from s (suc c) (p ∷ l) = every_from s c l

-- The index: trees 0, s, 2 × s and so on, n - 1 places each.
abbrev pub indexed : ℕ → List (List ℕ) → List (List ℕ)
indexed s L = every_from s 0 L

-- the spacings that there are
abbrev pub spaced : ℕ → Check
spaced s = check 26 (within 1 1000 s)

-- Building an index: it answers how many trees the index holds, and is refused by 11 exactly if it does not fit.

unfoldable pub index_checks : List ℕ → ℕ → List ℕ → List Check
index_checks f s index =
    file_checks f
    ++ (spaced s
    ∷ check 12 (some_tree (layouts_in f))
    ∷ check 11 (leb (length (indexed s (layouts_in f)) * width (graph_in f)) (length index))
    ∷ [])

unfoldable pub index_call : List ℕ → ℕ → List ℕ → Ended ℕ (List ℕ)
index_call f s index =
    let entries = indexed s (layouts_in f) in
    ended (index_checks f s index) (length entries) index (over (flat entries) index)

-- Fetching tree t: it answers the moves, and the tree reached by them from the entry for t stands in the buffer.

-- entry e of an index of trees of w rows
abbrev pub entry_at : ℕ → List ℕ → ℕ → List ℕ
entry_at w index e = take w (drop (e * w) index)

-- a tree and those behind it
abbrev pub onward : List (List ℕ) → List ℕ → List (List ℕ)
onward L p = p ∷ behind p L

-- what an entry is asked, of a tree's length as it is
unfoldable pub entry_checks : Network → List ℕ → List Check
entry_checks w p =
    check 9 (all (λ r. ltb r (length (graph_of w).first_ends)) p)
    ∷ check 10 (is_tree (graph_of w) p)
    ∷ check 15 (keeps_states w p)
    ∷ check 13 (is_minimal (graph_of w) p)
    ∷ []

-- the part that is handed over has entry t / s whole; that entry is a tree of the list; the list does not end before the last of t % s moves
unfoldable pub fetch_checks : List ℕ → ℕ → List ℕ → ℕ → List ℕ → List Check
fetch_checks f s index t buffer =
    let w = width (graph_in f) in
    let p = entry_at w index (t / s) in
    file_checks f
    ++ (spaced s
    ∷ check 11 (leb w (length buffer))
    ∷ check 26 (leb (t / s * w + w) (length index))
    ∷ entry_checks (network_of f) p
    ++ (check 26 (ltb (t % s) (length (onward (layouts_in f) p))) ∷ []))

unfoldable pub fetch_call : List ℕ → ℕ → List ℕ → ℕ → List ℕ → Ended ℕ (List ℕ)
fetch_call f s index t buffer =
    let p = entry_at (width (graph_in f)) index (t / s) in
    ended (fetch_checks f s index t buffer) (t % s) buffer (over (get_or (onward (layouts_in f) p) (t % s) []) buffer)

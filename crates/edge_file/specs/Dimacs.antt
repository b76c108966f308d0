-- Reading a DIMACS edge file into a network file of version 1, and writing a network's ends as such text (document 02, #104). Both answer a length in
-- bytes; bytes past it keep their content.
use Rattle.std.specs.Prelude.{Bool, ◌&&◌, false, true, List, [], ◌++◌, ◌∷◌, map, ℕ, eqb, leb, length}
use Rattle.std.proofs.Math.Option.{Option, none, some}
use Rattle.lists.specs.Lists.{all}
use Rattle.checks.specs.Checks.{Check, Ended, ended}
use Rattle.costs.specs.Network.{Network, Row, added, «open»}
use Rattle.network_file.specs.Bytes.{file_of}
use Rattle.network_file.specs.File.{ends_sound, file_checks, network_of, within}
use Rattle.operations.specs.Operations.{check, over}
use Rattle.edge_file.specs.Text.{Edges, Ends, edges_of, text_of}

-- Reading

abbrev pub is_text : Option Edges → Bool
is_text none = false
is_text (some t) = true

-- asked only after check 16
abbrev pub edges_or : Option Edges → Edges
edges_or none = record { nodes = 0; count = 0; edges = [] }
edges_or (some t) = t

-- the row of an edge: cost 1 in the one criterion, street 0
abbrev pub row_of : Ends → Row
row_of e = record { first_end = e.one; second_end = e.two; street = 0; state = «open»; costs = 1 ∷ [] }

-- the network with one added criterion, its rows in file order
abbrev pub edge_network : Edges → Network
edge_network t = record { node_count = t.nodes; kinds = added ∷ []; rows = map row_of t.edges }

-- the file of that network
unfoldable pub edge_file : Edges → List ℕ
unfolding file_of
edge_file t = file_of 1 (edge_network t)

-- a number outside the network file's limits meets that file's own check, 3 or 6; the others are met in any case
unfoldable pub edges_checks : Option Edges → List ℕ → List Check
unfolding all edge_file
edges_checks o buffer =
    let t = edges_or o in
    check 16 (is_text o)
    ∷ check 17 (eqb (length t.edges) t.count)
    ∷ check 3 (within 2 32 t.nodes && within 0 256 t.count)
    ∷ check 6 (all (ends_sound t.nodes) (edge_network t).rows)
    ∷ check 11 (leb (length (edge_file t)) (length buffer))
    ∷ []

unfoldable pub edges_call : Option Edges → List ℕ → Ended ℕ (List ℕ)
unfolding edges_checks
edges_call o buffer =
    let file = edge_file (edges_or o) in
    ended (edges_checks o buffer) (length file) buffer (over file buffer)

-- Reading a text.
unfoldable pub dimacs_call : List ℕ → List ℕ → Ended ℕ (List ℕ)
unfolding edges_of edges_call
dimacs_call text buffer = edges_call (edges_of text) buffer

-- Writing

-- a row's ends as written
abbrev pub ends_in : Row → Ends
ends_in r = record { one = r.first_end; two = r.second_end }

abbrev pub ends_of : Network → List Ends
ends_of w = map ends_in w.rows

-- the text of a file's network: all rows, barred ones too
unfoldable pub text_in : List ℕ → List ℕ
unfolding text_of
text_in f = text_of (network_of f).node_count (ends_of (network_of f))

unfoldable pub text_checks : List ℕ → List ℕ → List Check
unfolding text_in
text_checks f buffer = file_checks f ++ (check 11 (leb (length (text_in f)) (length buffer)) ∷ [])

-- Writing the text of a file.
unfoldable pub text_call : List ℕ → List ℕ → Ended ℕ (List ℕ)
unfolding text_checks
text_call f buffer = ended (text_checks f buffer) (length (text_in f)) buffer (over (text_in f) buffer)

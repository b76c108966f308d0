-- The bytes of the file that reading writes: the first ten, and eight for each edge (`file_bytes`).
use mathlib.Core.Path.{◌≡◌, ap, refl}
use mathlib.Core.List.{List, [], ◌++◌, ◌∷◌, map}
use Prim.Native.Nat.{◌*◌, ◌+◌, ℕ}
use native.Mathlib.Omega.{arith}
use lib.ListN.{length, length-map}
use Rattle.lists.specs.Lists.{concat_map}
use Rattle.network_file.specs.Bytes.{body_bytes, bytes_of_row, file_of}
use Rattle.edge_file.specs.Dimacs.{edge_file, edge_network, row_of}
use Rattle.edge_file.specs.Text.{Edges, Ends}
use Rattle.edge_file.proofs.Dimacs.{read_long}
use Rattle.edge_read.specs.Scan.{head_bytes}

abbrev pub edge_bytes : Ends → List ℕ
edge_bytes e = e.one ∷ e.two ∷ 0 ∷ 0 ∷ 0 ∷ 0 ∷ 0 ∷ 1 ∷ []

rows_bytes_lem : (es : List Ends) → concat_map (bytes_of_row 1) (map row_of es) ≡ concat_map edge_bytes es
unfolding concat_map
rows_bytes_lem [] = refl
rows_bytes_lem (e ∷ es) = ap (λ (l : List ℕ). edge_bytes e ++ l) (rows_bytes_lem es)

pub file_bytes : (t : Edges) → edge_file t ≡ head_bytes t.nodes (length t.edges) ++ concat_map edge_bytes t.edges
unfolding edge_file file_of
file_bytes t =
    let body : length (body_bytes 1 (edge_network t)) ≡ 5 + length t.edges * 8 = omega (arith, read_long t) in
    rw (body, length-map t.edges row_of, rows_bytes_lem t.edges)

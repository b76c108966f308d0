-- The rows of an accepted file lie between nodes of its graph (`rows_lie`).
use mathlib.Core.Path.{◌∙◌, ◌≡◌, ap, refl}
use mathlib.Core.List.{List}
use Prim.Native.Nat.{◌<◌, ℕ}
use native.Mathlib.Omega.{arith}
use lib.ListN.{length}
use Rattle.lists.proofs.Members.{range_in}
use Rattle.graph.specs.Graph.{first_end, second_end}
use Rattle.costs.specs.Network.{Row}
use Rattle.costs.proofs.Layouts.{end_at, row_count}
use Rattle.forests.proofs.Joined.{Lies}
use Rattle.network_file.specs.File.{network_of, row_in, sizes_of}
use Rattle.network_file.proofs.Accepted.{Accepted, row_in_lem}
use Rattle.operations.specs.Operations.{graph_in}

module _ (f : List ℕ) (a : Accepted f) where
  -- a row's ends as the file has them
  first : (r : ℕ) → r < (sizes_of f).m → first_end (graph_in f) r ≡ (row_in f r).first_end
  first r l = end_at (network_of f) (λ x. x.first_end) refl r ∙ ap (λ (x : Row). x.first_end) (row_in_lem f r l)

  second : (r : ℕ) → r < (sizes_of f).m → second_end (graph_in f) r ≡ (row_in f r).second_end
  second r l = end_at (network_of f) (λ x. x.second_end) refl r ∙ ap (λ (x : Row). x.second_end) (row_in_lem f r l)

  pub rows_lie : (r : ℕ) → r < length (graph_in f).first_ends → Lies (graph_in f) r
  unfolding network_of
  rows_lie r l =
      let k : r < (sizes_of f).m = omega (arith, row_count (network_of f), a.rows) in
      let e = a.ends r k in
      record {
        first = range_in 1 (sizes_of f).n (first_end (graph_in f) r) (omega (arith, first r k, e.first_low)) (omega (arith, first r k, e.first_high));
        second = range_in 1 (sizes_of f).n (second_end (graph_in f) r) (omega (arith, second r k, e.second_low)) (omega (arith, second r k, e.second_high));
      }

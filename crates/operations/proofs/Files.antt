-- The graph of an accepted file: it is well formed (`formed`), and has as many nodes as the file says (`node_count_lem`).
use mathlib.Core.Path.{◌≡◌}
use mathlib.Core.List.{List}
use Prim.Native.Nat.{◌<◌, pred, ℕ}
use native.Mathlib.Omega.{arith}
use lib.ListN.{length}
use Rattle.lists.proofs.Ranges.{range_length}
use Rattle.graph.proofs.Minimal.{WellFormed}
use Rattle.graph.proofs.Parts.{Part}
use Rattle.costs.proofs.Layouts.{layouts_part, open_formed}
use Rattle.costs.proofs.Networks.{network_formed}
use Rattle.network_file.specs.File.{network_of, sizes_of}
use Rattle.network_file.proofs.Accepted.{Accepted}
use Rattle.operations.specs.Operations.{graph_in, layouts_in, open_in}

pub node_count_lem : (f : List ℕ) → length (graph_in f).nodes ≡ (sizes_of f).n
unfolding network_of
node_count_lem f = range_length 1 (sizes_of f).n

module _ (f : List ℕ) (a : Accepted f) where
  pub formed : WellFormed (graph_in f)
  unfolding network_of
  formed = network_formed (network_of f) (omega (arith, a.nodes_low))

  -- and so is the graph without the barred rows
  pub open_formed_in : WellFormed (open_in f)
  open_formed_in = open_formed (network_of f) formed

  -- the network's trees are a part of the list of either graph, in its order
  pub layouts_in_lem : Part (graph_in f) (layouts_in f)
  layouts_in_lem = layouts_part (network_of f)

  -- there is a node besides the plant, so a tree has a row
  pub wide : 0 < pred (length (graph_in f).nodes)
  wide = omega (arith, node_count_lem f, a.nodes_low)

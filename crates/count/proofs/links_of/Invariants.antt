-- The loop's invariant: the links of the first r rows are added.
use mathlib.Core.Path.{◌≡◌}
use Rattle.network_file.specs.File.{sizes_of}
use Rattle.network_file.proofs.Accepted.{Accepted}
use Rattle.weights.specs.Weights.{matrix_in}
use Rattle.count.proofs.Laws.{Filling}
use Rattle.count.proofs.links_of.Given as goal

abbrev pub invariant-loop-r : goal.invariant-loop-r
invariant-loop-r l = record { accepted : Accepted l.file; rows : l.m ≡ (sizes_of l.file).m; filling : Filling l.file (matrix_in l.links.weights) l.r }

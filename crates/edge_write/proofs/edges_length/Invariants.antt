-- The lines of the first r rows are counted, at most ten bytes each (`Counted`).
use Rattle.network_file.specs.File.{network_of}
use Rattle.edge_write.proofs.Lengths.{Counted}
use Rattle.edge_write.proofs.edges_length.Given as goal

abbrev pub invariant-loop-r : goal.invariant-loop-r
invariant-loop-r l = Counted (network_of l.file) l.m l.total l.r

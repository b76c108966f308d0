-- The lines of the first r rows stand in the buffer (`Rowed`).
use Rattle.network_file.specs.File.{network_of}
use Rattle.edge_write.proofs.Putting.{Rowed}
use Rattle.edge_write.proofs.put_edges.Given as goal

abbrev pub invariant-loop-r : goal.invariant-loop-r
invariant-loop-r l = Rowed (network_of l.file) l.m l.initial.buffer l.from l.buffer l.at l.r

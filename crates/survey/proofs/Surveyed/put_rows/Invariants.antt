-- The first r rows stand in the buffer (`Laid`).
use Rattle.std.proofs.Common.{take}
use Rattle.network_file.specs.Bytes.{bytes_of_row}
use Rattle.network_file.specs.File.{network_of}
use Rattle.survey.proofs.Parts.{Laid}
use Rattle.survey.proofs.Surveyed.put_rows.Given as goal

abbrev pub invariant-loop-r : goal.invariant-loop-r
invariant-loop-r l = Laid (bytes_of_row 2) (λ i. take i (network_of l.self.file.now).rows) l.self.header.m l.initial.buffer l.from l.buffer l.at l.r

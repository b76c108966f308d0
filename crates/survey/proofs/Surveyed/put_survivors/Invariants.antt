-- Of the first r rows those that stand are in the buffer (`Laid`).
use Rattle.std.proofs.Common.{take}
use Rattle.network_file.specs.Bytes.{bytes_of_row}
use Rattle.network_file.specs.File.{network_of}
use Rattle.surveys.specs.Surveys.{survivors}
use Rattle.survey.proofs.Parts.{Laid}
use Rattle.survey.proofs.Surveyed.put_survivors.Given as goal

abbrev pub invariant-loop-r : goal.invariant-loop-r
invariant-loop-r l =
    let newer = (network_of l.newer.file.now).rows in
    Laid (bytes_of_row 2) (λ i. survivors (take i (network_of l.self.file.now).rows) newer) l.self.header.m l.initial.buffer l.from l.buffer l.at l.r

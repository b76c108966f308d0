-- Those of the first r rows that stand are counted (`Counting`).
use Rattle.network_file.specs.File.{network_of}
use Rattle.survey.proofs.Counting.{Counting}
use Rattle.survey.proofs.Surveyed.survivor_count.Given as goal

abbrev pub invariant-loop-r : goal.invariant-loop-r
invariant-loop-r l = Counting (network_of l.self.file.now).rows (network_of l.newer.file.now).rows l.count l.r

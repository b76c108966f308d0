-- The first c costs stand in the buffer (`Laid`).
use Rattle.std.proofs.Common.{take}
use Rattle.costs.specs.Network.{row_at}
use Rattle.network_file.specs.Bytes.{u32_bytes}
use Rattle.network_file.specs.File.{network_of}
use Rattle.survey.proofs.Parts.{Laid}
use Rattle.survey.proofs.Surveyed.put_costs.Given as goal

abbrev pub invariant-loop-c : goal.invariant-loop-c
invariant-loop-c l = Laid u32_bytes (λ r. take r (row_at (network_of l.self.file.now) l.row).costs) l.self.header.k l.initial.buffer l.from l.buffer l.at l.c

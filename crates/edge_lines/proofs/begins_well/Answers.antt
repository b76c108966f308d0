-- A number's first digit, by how many there are.
use Rattle.std.proofs.Common.{arith, sym}
use Rattle.edge_lines.proofs.Numbers.{leads_more, leads_none, leads_one}
use Rattle.edge_lines.proofs.begins_well.Goals as goal

pub returns-in-empty : goal.returns-in-empty
returns-in-empty c = sym (leads_none _ (omega arith))

pub returns-in-len1 : goal.returns-in-len1
returns-in-len1 c = sym (leads_one _ (omega arith))

pub returns-in-len1-up : goal.returns-in-len1-up
returns-in-len1-up c = sym (leads_more _ (omega arith))

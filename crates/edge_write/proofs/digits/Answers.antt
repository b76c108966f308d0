-- The digits of a number by its range.
use Rattle.std.proofs.Common.{arith, sym}
use Rattle.edge_file.proofs.Decimal.{decimal_one, decimal_three, decimal_two}
use Rattle.edge_write.proofs.digits.Goals as goal

pub returns-in-0-to-9-clause-count : goal.returns-in-0-to-9-clause-count
returns-in-0-to-9-clause-count c = sym (decimal_one _ (omega arith))

pub returns-in-10-to-99-clause-count : goal.returns-in-10-to-99-clause-count
returns-in-10-to-99-clause-count c = sym (decimal_two _ (omega arith) (omega arith))

pub returns-in_default-clause-count : goal.returns-in_default-clause-count
returns-in_default-clause-count c = sym (decimal_three _ (omega arith) c.requires)

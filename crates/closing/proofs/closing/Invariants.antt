-- The loop's invariant: the sum so far, and what the rows from row i on add, are the closing cost of all rows.
use mathlib.Core.Path.{◌≡◌}
use Prim.Native.Nat.{◌+◌}
use lib.ListN.{drop}
use Rattle.costs.specs.Costs.{closing_cost}
use Rattle.network_file.specs.File.{network_of}
use Rattle.closing.proofs.Streets.{closing_from}
use Rattle.closing.proofs.closing.Given as goal

abbrev pub invariant-loop-i : goal.invariant-loop-i
invariant-loop-i l =
    let g = network_of l.file in
    l.sum + closing_from g l.criterion l.rows (drop l.i l.rows) ≡ closing_cost g l.criterion l.rows

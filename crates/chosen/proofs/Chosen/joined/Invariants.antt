-- The loop's invariant: the rows so far are the first ones with those of the others that have come behind them, cut at 31.
use mathlib.Core.Path.{◌≡◌}
use mathlib.Core.List.{◌++◌}
use lib.ListN.{take}
use Rattle.chosen.specs.Chosen.{rows_of}
use Rattle.chosen.proofs.Chosen.joined.Given as goal

abbrev pub invariant-loop-row : goal.invariant-loop-row
invariant-loop-row l = rows_of l.all ≡ take 31 (rows_of l.initial.all ++ take l.row-index l.row-items)

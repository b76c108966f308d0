-- The loop's invariant: what is chosen at last is what is chosen so far and what is chosen from the next place on.
use mathlib.Core.Path.{◌≡◌}
use lib.ListN.{take}
use Rattle.lists.specs.Lists.{filter_b}
use Rattle.chosen.specs.Chosen.{is_on, rows_of}
use Rattle.completions.specs.Labels.{choose_few}
use Rattle.labels.proofs.Laws.{chosen_from}
use Rattle.labels.proofs.Ends.choose.Given as goal

abbrev pub invariant-loop-row : goal.invariant-loop-row
invariant-loop-row l =
    take 31 (choose_few l.self.firsts.now l.self.seconds.now l.need l.initial.labels (filter_b (is_on l.flags) l.order))
    ≡ chosen_from l.self.firsts.now l.self.seconds.now l.flags l.order l.left l.labels (rows_of l.chosen) l.row-index

-- The loop's invariant: the rows before the place have gained, the others have not.
use mathlib.Core.List.{List}
use Prim.Native.Nat.{◌*◌, ◌-◌, ℕ}
use lib.ListN.{get_or, take}
use Rattle.tally.specs.Tally.{cost_in, lead_in}
use Rattle.weighing.specs.Weighing.{share_in}
use Rattle.weighing.proofs.Turns.{Raised}
use Rattle.weighing.proofs.weigh.Given as goal

-- what row q gains
abbrev pub gain : List ℕ → List ℕ → ℕ → ℕ → List ℕ → List ℕ → ℕ → ℕ
gain costs leads c factor days sharers q = share_in (cost_in costs c q - get_or days (lead_in leads q) 0) (get_or sharers (lead_in leads q) 0) * factor

abbrev pub invariant-loop-row : goal.invariant-loop-row
invariant-loop-row l =
    let w = l.criteria in
    Raised (gain w.costs.now w.leads.now l.c l.factor l.streets.days l.streets.sharers) 288230376151711744 l.initial.weights l.weights (take l.row-index l.usable)

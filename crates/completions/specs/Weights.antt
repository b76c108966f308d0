-- The criteria added up, each times a factor. An added criterion goes by its costs, closing by what is paid and by shares of the rest, the worst by what
-- it is already; all in parts of which `parts` make one. The greedy choice by the mixed weight is the least that the missing rows can have.
use Rattle.std.proofs.Math.Option.{Option, none, some}
use Rattle.std.specs.Prelude.{List, ◌*◌, ◌-◌, ◌/◌, ℕ, eqb, ltb, length}
use Rattle.std.proofs.Math.ListN.{get_elem?}
use Rattle.lists.specs.Lists.{filter_b, pick}
use Rattle.costs.specs.Costs.{cost_at, cost_by, in_street, street_cost}
use Rattle.costs.specs.Network.{Kind, Network, added, closing, row_at, worst}

-- the usable rows of street s that cost more than inc has paid there
abbrev pub above_in : Network → List ℕ → List ℕ → ℕ → ℕ → List ℕ
above_in w inc usable c s = filter_b (λ r. ltb (street_cost w c inc s) (cost_at w c r)) (in_street w s usable)

module _ (w : Network) (parts : ℕ) (inc : List ℕ) where
  -- row r's share of the days that its street costs beyond inc, where as many rows as `sharers` gives share them (0 if none does); in street 0 its days
  abbrev pub share_by : (ℕ → ℕ) → ℕ → ℕ → ℕ
  share_by sharers c r = pick (eqb (row_at w r).street 0) (cost_at w c r * parts)
      (((cost_at w c r - street_cost w c inc (row_at w r).street) * parts) / sharers (row_at w r).street)

  -- even among the usable rows of the street that cost more than inc has paid there
  abbrev pub above_share : List ℕ → ℕ → ℕ → ℕ
  above_share usable c r = share_by (λ s. length (above_in w inc usable c s)) c r

  -- what inc has, by each kind
  abbrev pub paid_by : Option Kind → ℕ → ℕ
  paid_by none c = 0
  paid_by (some kind) c = cost_by kind w c inc * parts

  abbrev pub paid : ℕ → ℕ
  paid c = paid_by (get_elem? w.kinds c) c

module _ (w : Network) (parts : ℕ) (share : ℕ → ℕ → ℕ) where
  -- what row r adds at least, by each kind
  abbrev pub rate_by : Option Kind → ℕ → ℕ → ℕ
  rate_by none c r = 0
  rate_by (some added) c r = cost_at w c r * parts
  rate_by (some worst) c r = 0
  rate_by (some closing) c r = share c r

  abbrev pub rate : ℕ → ℕ → ℕ
  rate c r = rate_by (get_elem? w.kinds c) c r

-- Weights of rows by tables. Each criterion that adds up has a rate for a row: an added one its cost, closing a share of what its street costs beyond what is paid. The rates, in
-- parts of which 840 make one, are mixed by factors (`weight_in`).
use Rattle.std.specs.Prelude.{List, map, ◌*◌, ◌-◌, ◌/◌, ℕ, eqb, ltb, get_or, length}
use Rattle.lists.specs.Lists.{both, filter_b, pick, range}
use Rattle.completions.specs.Boxes.{mix}
use Rattle.chosen.specs.Chosen.{is_on, rows_on}
use Rattle.tally.specs.Tally.{cost_in, day_in, lead_in}

-- how many usable rows of a street, told by its first row, cost more than the rows that are in have paid there
abbrev pub sharers_in : List ℕ → List ℕ → ℕ → List ℕ → List ℕ → ℕ → ℕ
sharers_in costs leads c inc us lead = length (filter_b (λ r. both (eqb (lead_in leads r) lead) (ltb (day_in costs leads c inc lead) (cost_in costs c r))) us)

-- one of the even shares of a cost, in parts; 0 if none shares it
abbrev pub share_in : ℕ → ℕ → ℕ
share_in cost sharers = (cost * 840) / sharers

-- what a row adds at least, by the kind
abbrev pub rate_in : ℕ → List ℕ → List ℕ → ℕ → List ℕ → List ℕ → ℕ → ℕ
rate_in kind costs leads c inc us r = pick (eqb kind 0) (cost_in costs c r * 840) (pick (eqb kind 1) 0
    (share_in (cost_in costs c r - day_in costs leads c inc (lead_in leads r)) (sharers_in costs leads c inc us (lead_in leads r))))

-- the factor of a criterion; 0 where its limit is too large to be mixed
abbrev pub factor_in : List ℕ → List ℕ → ℕ → ℕ
factor_in limits factors c = pick (ltb (get_or limits c 0) 4294967296) (get_or factors c 0) 0

-- those of the criteria, at most four
abbrev pub factors_in : ℕ → List ℕ → List ℕ → List ℕ
factors_in k limits factors = map (factor_in limits factors) (range 0 (pick (ltb k 4) k 4))

abbrev pub weight_in : List ℕ → ℕ → List ℕ → List ℕ → List ℕ → List ℕ → List ℕ → List ℕ → ℕ → ℕ
weight_in kinds k costs leads limits inc us factors r = mix (λ c q. rate_in (get_or kinds c 0) costs leads c inc us q) (factors_in k limits factors) 0 r

-- the weights of all rows; 0 for one that is not usable
unfoldable pub weights_in : List ℕ → ℕ → List ℕ → List ℕ → List ℕ → List ℕ → List ℕ → List ℕ → List ℕ
weights_in kinds k costs leads limits inc flags factors = map (λ r. pick (is_on flags r) (weight_in kinds k costs leads limits inc (rows_on flags) factors r) 0) (range 0 256)

-- What the limits leave, criterion by criterion and mixed by factors (`room_in`), in the parts of the rows' weights.
use Rattle.std.specs.Prelude.{List, ◌*◌, ◌-◌, pred, ℕ, get_or}
use Rattle.completions.specs.Boxes.{total}
use Rattle.tally.specs.Tally.{kind_cost}
use Rattle.weighing.specs.Weighing.{factors_in}

-- what the limits leave of a criterion once its rows are in, in parts
abbrev pub left_in : List ℕ → List ℕ → List ℕ → List ℕ → List ℕ → ℕ → ℕ
left_in kinds costs leads limits inc c = (pred (get_or limits c 0) - kind_cost (get_or kinds c 0) costs leads c inc) * 840

unfoldable pub room_in : List ℕ → ℕ → List ℕ → List ℕ → List ℕ → List ℕ → List ℕ → ℕ
room_in kinds k costs leads limits inc factors = total (left_in kinds costs leads limits inc) (factors_in k limits factors) 0

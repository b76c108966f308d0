-- The count over links. A link joins two nodes and stands for any part of a network between them: `dropped` is how many ways leave its ends apart, `merged`
-- how many join them. An open row is the link (1, 1), a must row (0, 1), a barred row (1, 0).
use Rattle.std.specs.Prelude.{List, [], ◌∷◌, ◌*◌, ◌+◌, ℕ, eqb}
use Rattle.lists.specs.Lists.{pick}
use Rattle.counts.specs.Trees.{unite, whole}

-- how many ways leave two nodes apart, and how many join them
pub record Weight : Type 0 where
  pub dropped : ℕ
  pub merged : ℕ

pub record Link : Type 0 where
  pub one : ℕ
  pub other : ℕ
  pub weight : Weight

abbrev pub link : ℕ → ℕ → Weight → Link
link a b w = record { one = a; other = b; weight = w }

abbrev pub weigh : ℕ → ℕ → Weight
weigh d m = record { dropped = d; merged = m }

-- two links between the same nodes, as one
abbrev pub beside : Weight → Weight → Weight
beside p q = weigh (p.dropped * q.dropped) (p.dropped * q.merged + p.merged * q.dropped)

-- two links one after the other, as one between their outer ends; the node between them must be joined by one of them
abbrev pub behind : Weight → Weight → Weight
behind p q = weigh (p.merged * q.dropped + p.dropped * q.merged) (p.merged * q.merged)

-- The count: the ways of the link dropped, and those of its ends merged; a loop is only dropped.
unfoldable pub count : List ℕ → (ℕ → ℕ) → List Link → ℕ
unfolding whole
count ns lab [] = whole ns lab
count ns lab (e ∷ es) =
    e.weight.dropped * count ns lab es
    + e.weight.merged * pick (eqb (lab e.one) (lab e.other)) 0 (count ns (unite lab e.one e.other) es)

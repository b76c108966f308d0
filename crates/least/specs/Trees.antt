-- What is said of the vectors of the trees of a space with all must rows (`OnTrees`), of as many criteria as there are (`count_of`, `first_of`).
use Rattle.std.specs.Prelude.{List, ℕ, take}
use Rattle.chosen.specs.Chosen.{rows_of}
use Rattle.tally.specs.Kinds.{numbers_of}
use Rattle.least.specs.Least.{OnGround}
use Rattle.least.specs.declared.Trees.{Trees}

abbrev pub count_of : Trees → ℕ
count_of t = t.space.criteria.k

-- the components of a vector, or of limits, that belong to criteria
abbrev pub first_of : Trees → List ℕ → List ℕ
first_of t v = take (count_of t) v

abbrev pub OnTrees : Trees → List ℕ → ((List ℕ → Type 0) → Type 0) → Type 0
OnTrees t limits Holds =
    let s = t.space in
    OnGround s.ends.firsts.now s.ends.seconds.now s.limit (numbers_of s.criteria.kinds) s.criteria.k s.criteria.costs.now s.criteria.leads.now (rows_of t.musts) t.free
    limits Holds

-- The count over a matrix of weights: nodes 0 to k - 1, and a weight for each pair a > b, (1, 0) where nothing joins them. The last node is taken away by
-- dropping its links one after the other, or merging it along one.
use Rattle.std.specs.Prelude.{◌≡◌, ◌&&◌, List, [], ◌++◌, ◌∷◌, ◌*◌, ◌+◌, ◌<◌, min, suc, zero, ℕ, eqb, ltb}
use Rattle.lists.specs.Lists.{pick, range}
use Rattle.counts.specs.Counting.{Link, Weight, beside, count, link, weigh}

abbrev pub Matrix : Type 0
Matrix = ℕ → ℕ → Weight

-- nothing joins the two nodes
abbrev pub absent : Weight
absent = weigh 1 0

-- one weight replaced
abbrev pub put : Matrix → ℕ → ℕ → Weight → Matrix
put w a b p i j = pick (eqb i a && eqb j b) p (w i j)

-- the links of node v to n nodes from j on
unfoldable pub star : Matrix → ℕ → ℕ → ℕ → List Link
star w v j zero = []
star w v j (suc n) = link v j (w v j) ∷ star w v (suc j) n

-- all links among the first k nodes
unfoldable pub links : Matrix → ℕ → List Link
unfolding star
links w zero = []
links w (suc v) = star w v 0 v ++ links w v

-- the count of the first k nodes
unfoldable pub total : Matrix → ℕ → ℕ
unfolding range links count
total w k = count (range 0 k) (λ v. v) (links w k)

-- a link between x and y added
abbrev pub add : Matrix → ℕ → ℕ → Weight → Matrix
add w x y p = pick (ltb x y) (put w y x (beside (w y x) p)) (put w x y (beside (w x y) p))

-- the links of node v to n nodes from j on, moved to x
unfoldable pub move_from : Matrix → ℕ → ℕ → ℕ → ℕ → Matrix
move_from w v x j zero = w
move_from w v x j (suc n) = move_from (pick (eqb j x) w (add w x j (w v j))) v x (suc j) n

-- the last node v merged into x
abbrev pub merge_into : Matrix → ℕ → ℕ → Matrix
merge_into w v x = move_from w v x 0 v

-- the same weights among the first k nodes
abbrev pub Agree : Matrix → Matrix → ℕ → Type 0
Agree w z k = (a b : ℕ) → b < a → a < k → w a b ≡ z a b

-- The same with weights held at a limit, as the code keeps them

-- the code's: one more than the largest count that is answered
abbrev pub limit : ℕ
limit = 4000000001

abbrev pub held : ℕ → Weight → Weight
held L p = weigh (min L p.dropped) (min L p.merged)

abbrev pub add_held : ℕ → Matrix → ℕ → ℕ → Weight → Matrix
add_held L w x y p = pick (ltb x y) (put w y x (held L (beside (w y x) p))) (put w x y (held L (beside (w x y) p)))

unfoldable pub move_held : ℕ → Matrix → ℕ → ℕ → ℕ → ℕ → Matrix
move_held L w v x j zero = w
move_held L w v x j (suc n) = move_held L (pick (eqb j x) w (add_held L w x j (w v j))) v x (suc j) n

-- what a call answers: the count so far and a factor times the count of the first k nodes, held at the limit
unfoldable pub held_total : ℕ → ℕ → ℕ → Matrix → ℕ → ℕ
unfolding total
held_total L so f w k = min L (so + f * total w k)

-- Costs known only as a range (document 02, #110): each row's cost is any whole number from its low to its high.
use Rattle.std.specs.Prelude.{Bool, not, List, [], ◌∷◌, map, ◌-◌, suc, ℕ, ltb, get_or}
use Rattle.lists.specs.Lists.{all, any, concat_map, filter_b, largest, member, pick, range, sum}
use Rattle.bounds.specs.Bounds.{smallest}

-- every choice of costs, one for each row; asked only after check 23, where no low is above its high
unfoldable pub choices : List ℕ → List ℕ → List (List ℕ)
unfolding concat_map range
choices [] highs = [] ∷ []
choices (l ∷ lows) [] = []
choices (l ∷ lows) (h ∷ highs) = concat_map (λ c. map (λ cs. c ∷ cs) (choices lows highs)) (range l (suc h - l))

-- what rows cost together by a choice
abbrev pub sum_by : List ℕ → List ℕ → ℕ
sum_by choice rows = sum (map (λ r. get_or choice r 0) rows)

-- S beats T: it is strictly less for every choice, and a row that both have costs the same in both
unfoldable pub beats : List ℕ → List ℕ → List ℕ → List ℕ → Bool
unfolding all sum choices
beats lows highs ss ts = all (λ choice. ltb (sum_by choice ss) (sum_by choice ts)) (choices lows highs)

-- the trees of a list that none of it beats
unfoldable pub unbeaten : List ℕ → List ℕ → List (List ℕ) → List (List ℕ)
unfolding any filter_b beats
unbeaten lows highs trees = filter_b (λ t. not (any (λ s. beats lows highs s t) trees)) trees

-- 1 if the row is possible, in some of the trees, 2 if also necessary, in all of them, else 0
unfoldable pub row_mark : List (List ℕ) → ℕ → ℕ
unfolding all any member
row_mark trees r = pick (any (member r) trees) (pick (all (member r) trees) 2 1) 0

-- a tree's least and greatest sum over the choices
unfoldable pub least_sum : List ℕ → List ℕ → List ℕ → ℕ
unfolding sum choices smallest
least_sum lows highs rows = smallest (map (λ choice. sum_by choice rows) (choices lows highs))

unfoldable pub greatest_sum : List ℕ → List ℕ → List ℕ → ℕ
unfolding sum choices largest
greatest_sum lows highs rows = largest (map (λ choice. sum_by choice rows) (choices lows highs))

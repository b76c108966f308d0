-- The greedy choice as a computation over LABELS: nodes that are joined have the same label, and a row that is chosen gives one label to both parts.
-- The rows are given by two lists of ends, first and second, by row number.
use Rattle.std.specs.Prelude.{Bool, List, [], ◌∷◌, map, suc, zero, ℕ, eqb, get_or}
use Rattle.lists.specs.Lists.{pick}

-- the label of node v, by its number
abbrev pub label_at : List ℕ → ℕ → ℕ
label_at labels v = get_or labels v 0

-- label a becomes b
abbrev pub relabel : ℕ → ℕ → List ℕ → List ℕ
relabel a b labels = map (λ x. pick (eqb x a) b x) labels

-- row r joins the parts of its ends
abbrev pub joined_by : List ℕ → List ℕ → List ℕ → ℕ → List ℕ
joined_by fs ss labels r = relabel (label_at labels (get_or fs r 0)) (label_at labels (get_or ss r 0)) labels

-- the ends of row r have one label
abbrev pub same_label : List ℕ → List ℕ → List ℕ → ℕ → Bool
same_label fs ss labels r = eqb (label_at labels (get_or fs r 0)) (label_at labels (get_or ss r 0))

-- CHOOSE: of rows in a sequence, each whose ends have different labels, until n are chosen; its parts are joined
unfoldable pub choose_few : List ℕ → List ℕ → ℕ → List ℕ → List ℕ → List ℕ
choose_few fs ss n labels [] = []
choose_few fs ss zero labels (r ∷ rs) = []
choose_few fs ss (suc n) labels (r ∷ rs) = pick (same_label fs ss labels r) (choose_few fs ss (suc n) labels rs) (r ∷ choose_few fs ss n (joined_by fs ss labels r) rs)

-- the labels once the rows ps have joined their ends, the last of them first; before, each node has its own
unfoldable pub labels_of : List ℕ → List ℕ → List ℕ → List ℕ → List ℕ
labels_of fs ss own [] = own
labels_of fs ss own (r ∷ ps) = joined_by fs ss (labels_of fs ss own ps) r

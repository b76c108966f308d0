-- Two vectors compared component by component, by cases (document 02, #105): v is the one that may dominate, w the other. `by_cases` of
-- proofs/Cases.antt shows what `ByCases` says, and `dominates_exactly` that v dominates w exactly if the last case is 'so far better'.
use Rattle.std.specs.Prelude.{◌≡◌, ◌↔◌, Bool, false, true, List, ◌<◌, suc, zero, ℕ, ltb, get_or, length}
use Rattle.lists.specs.Lists.{pick}

-- 'worse somewhere', 'so far equal', 'so far better'
pub data Case : Type 0 where
  worse_somewhere : Case
  so_far_equal : Case
  so_far_better : Case

-- the case with one component more, x of v and y of w
abbrev pub next_case : Case → ℕ → ℕ → Case
next_case worse_somewhere x y = worse_somewhere
next_case so_far_equal x y = pick (ltb x y) so_far_better (pick (ltb y x) worse_somewhere so_far_equal)
next_case so_far_better x y = pick (ltb y x) worse_somewhere so_far_better

-- the case after the first i components
unfoldable pub case_after : ℕ → List ℕ → List ℕ → Case
case_after zero v w = so_far_equal
case_after (suc i) v w = next_case (case_after i v w) (get_or v i 0) (get_or w i 0)

-- the last case, of vectors of one length
abbrev pub last_case : List ℕ → List ℕ → Case
last_case v w = case_after (length v) v w

-- what the last case answers: whether v dominates w
abbrev pub is_better : Case → Bool
is_better worse_somewhere = false
is_better so_far_equal = false
is_better so_far_better = true

-- one of the first i components is larger
abbrev pub SomeLarger : ℕ → List ℕ → List ℕ → Type 0
SomeLarger i v w = (j : ℕ) × (j < i) × (get_or w j 0 < get_or v j 0)

-- all of them are equal
abbrev pub AllEqual : ℕ → List ℕ → List ℕ → Type 0
AllEqual i v w = (j : ℕ) → j < i → get_or v j 0 ≡ get_or w j 0

-- After the first i components the case is 'worse somewhere' exactly if one of them is larger, 'so far equal' exactly if all are equal, else
-- 'so far better'.
pub record ByCases (i : ℕ) (v w : List ℕ) : Type 0 where
  pub worse : (case_after i v w ≡ worse_somewhere) ↔ SomeLarger i v w
  pub equal : (case_after i v w ≡ so_far_equal) ↔ AllEqual i v w
  pub better : (case_after i v w ≡ so_far_better) ↔ ((¬ SomeLarger i v w) × (¬ AllEqual i v w))

-- `Lighter w rs ls`: the rows rs are matched with those of ls, each with one that weighs no less. So they are as many (`lighter_length`) and weigh no
-- more together (`lighter_weight`).
use mathlib.Core.Path.{◌≡◌, refl}
use mathlib.Core.List.{List, [], ◌∷◌}
use Prim.Native.Nat.{◌≤◌, ℕ}
use native.Mathlib.Omega.{arith}
use lib.ListN.{length}
use Rattle.lists.specs.Lists.{sum}
use Rattle.lists.proofs.Distinct.{Distinct}
use Rattle.lists.proofs.Members.{◌∈◌}
use Rattle.forests.specs.Forests.{cut, weight}
use Rattle.forests.proofs.Cuts.{cut_distinct, cut_length}
use Rattle.forests.proofs.Minimum.{weight_cut}

abbrev pub Lighter : (ℕ → ℕ) → List ℕ → List ℕ → Type 0
Lighter w [] ls = ls ≡ []
Lighter w (r ∷ rs) ls = (f : ℕ) × (f ∈ ls) × (w r ≤ w f) × Lighter w rs (cut f ls)

module _ (w : ℕ → ℕ) where
  pub lighter_length : (rs ls : List ℕ) → Distinct ls → Lighter w rs ls → length rs ≡ length ls
  lighter_length [] ls d h = rw h refl
  lighter_length (r ∷ rs) ls d (f, i, l, h) = omega (arith, cut_length f ls d i, lighter_length rs (cut f ls) (cut_distinct f ls d) h)

  pub lighter_weight : (rs ls : List ℕ) → Distinct ls → Lighter w rs ls → weight w rs ≤ weight w ls
  unfolding sum
  lighter_weight [] ls d h = omega arith
  lighter_weight (r ∷ rs) ls d (f, i, l, h) = omega (arith, weight_cut w f ls d i, lighter_weight rs (cut f ls) (cut_distinct f ls d) h)

-- BOXES of vectors: all whose every component is less than its limit. Components and weights of rows, mixed by factors.
use Rattle.std.specs.Prelude.{Bool, false, true, List, [], ◌∷◌, ◌*◌, ◌+◌, suc, ℕ, ltb}
use Rattle.lists.specs.Lists.{both}

unfoldable pub inside : List ℕ → List ℕ → Bool
inside [] [] = true
inside [] (y ∷ v) = false
inside (x ∷ limits) [] = false
inside (x ∷ limits) (y ∷ v) = both (ltb y x) (inside limits v)

-- the components, each times a factor
unfoldable pub dot : List ℕ → List ℕ → ℕ
dot [] v = 0
dot (a ∷ factors) [] = 0
dot (a ∷ factors) (y ∷ v) = y * a + dot factors v

-- the sum of f at the places from c on, each times a factor
unfoldable pub total : (ℕ → ℕ) → List ℕ → ℕ → ℕ
total f [] c = 0
total f (a ∷ factors) c = f c * a + total f factors (suc c)

-- a weight of rows for each criterion, mixed by factors
unfoldable pub mix : (ℕ → ℕ → ℕ) → List ℕ → ℕ → ℕ → ℕ
mix v [] c r = 0
mix v (a ∷ factors) c r = v c r * a + mix v factors (suc c) r

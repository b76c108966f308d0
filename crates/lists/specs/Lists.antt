-- Plain functions on lists, and the connectives of Boolean tests. Each computes; the laws are in `proofs`.
use Rattle.std.specs.Prelude.{Bool, ◌&&◌, ◌||◌, cond, false, not, true, List, [], ◌++◌, ◌∷◌, map, ◌+◌, max, suc, zero, ℕ, eqb}
use Rattle.std.proofs.Math.Option.{Option, none, some}

abbrev pub both : Bool → Bool → Bool
both a b = a && b

abbrev pub either : Bool → Bool → Bool
either a b = a || b

abbrev pub pick {ℓ} : {A : Type ℓ} → Bool → A → A → A
pick t a b = cond t a b

module _ {A : Type 0} where
  abbrev pub keep_if : Bool → A → List A → List A
  keep_if true a l = a ∷ l
  keep_if false a l = l

  -- those of a list that pass a test, in their order
  unfoldable pub filter_b : (A → Bool) → List A → List A
  filter_b p [] = []
  filter_b p (a ∷ l) = keep_if (p a) a (filter_b p l)

  unfoldable pub any : (A → Bool) → List A → Bool
  any p [] = false
  any p (a ∷ l) = p a || any p l

  unfoldable pub all : (A → Bool) → List A → Bool
  all p [] = true
  all p (a ∷ l) = p a && all p l

  abbrev pub some_if : Bool → A → Option A → Option A
  some_if true a o = some a
  some_if false a o = o

  unfoldable pub first : (A → Bool) → List A → Option A
  first p [] = none
  first p (a ∷ l) = some_if (p a) a (first p l)

  -- insertion into a list sorted by `less`, before the first that is not less
  unfoldable pub insert : (A → A → Bool) → A → List A → List A
  insert less a [] = a ∷ []
  insert less a (b ∷ l) = cond (less b a) (b ∷ insert less a l) (a ∷ b ∷ l)

  unfoldable pub sort : (A → A → Bool) → List A → List A
  sort less [] = []
  sort less (a ∷ l) = insert less a (sort less l)

  unfoldable pub concat_map : {B : Type 0} → (A → List B) → List A → List B
  concat_map f [] = []
  concat_map f (a ∷ l) = f a ++ concat_map f l

-- k numbers: from, from + 1, ..
unfoldable pub range : ℕ → ℕ → List ℕ
range from zero = []
range from (suc k) = from ∷ range (suc from) k

unfoldable pub member : ℕ → List ℕ → Bool
unfolding any
member x l = any (λ y. eqb x y) l

-- l has all of these
abbrev pub has_all : List ℕ → List ℕ → Bool
has_all these l = all (λ x. member x l) these

unfoldable pub sum : List ℕ → ℕ
sum [] = 0
sum (x ∷ l) = x + sum l

unfoldable pub largest : List ℕ → ℕ
largest [] = 0
largest (x ∷ l) = max x (largest l)

-- all lists of k members of l
unfoldable pub sequences : ℕ → List ℕ → List (List ℕ)
unfolding concat_map
sequences zero l = [] ∷ []
sequences (suc k) l = concat_map (λ x. map (λ s. x ∷ s) (sequences k l)) l

-- no member twice
unfoldable pub distinct : List ℕ → Bool
distinct [] = true
distinct (x ∷ l) = not (member x l) && distinct l

-- two lists of numbers are the same
unfoldable pub same : List ℕ → List ℕ → Bool
same [] [] = true
same [] (y ∷ q) = false
same (x ∷ p) [] = false
same (x ∷ p) (y ∷ q) = eqb x y && same p q

-- the first whose key is v
abbrev pub first_with : {A : Type 0} (key : A → List ℕ) → List ℕ → List A → Option A
first_with key v l = first (λ a. same v (key a)) l

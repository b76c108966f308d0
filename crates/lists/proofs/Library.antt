-- This repository's words on lists as those that the library's iterators promise by: any, all, those that pass, the sum and the largest.
use mathlib.Core.Path.{◌≡◌, refl}
use mathlib.Core.Bool.{Bool, cond, false, true}
use mathlib.Core.List.{List, [], ◌∷◌, map}
use Prim.Native.Nat.{max, ℕ}
use native.Mathlib.Omega.{arith}
use Rattle.std.specs.List.{filter, fold, list_all, list_any, sum_by}
use Rattle.std.proofs.lemmas.List.Sums.{sum_by-cons}
use Rattle.lists.specs.Lists.{all, any, filter_b, keep_if, largest, sum}

module _ {A : Type 0} where
  pub any_is : (p : A → Bool) (l : List A) → any p l ≡ list_any p l
  unfolding any
  any_is p [] = refl
  any_is p (a ∷ l) = rw (any_is p l)

  pub all_is : (p : A → Bool) (l : List A) → all p l ≡ list_all p l
  unfolding all
  all_is p [] = refl
  all_is p (a ∷ l) = rw (all_is p l)

  kept : (b : Bool) (a : A) (l : List A) → keep_if b a l ≡ cond b (a ∷ l) l
  kept true a l = refl
  kept false a l = refl

  pub filter_is : (p : A → Bool) (l : List A) → filter_b p l ≡ filter p l
  unfolding filter_b
  filter_is p [] = refl
  filter_is p (a ∷ l) = rw (filter_is p l) (kept (p a) a (filter p l))

  pub sum_is : (f : A → ℕ) (l : List A) → sum (map f l) ≡ sum_by f l
  unfolding sum
  sum_is f [] = refl
  sum_is f (a ∷ l) = omega (arith, sum_by-cons f a l, sum_is f l)

  largest_from : (f : A → ℕ) (m : ℕ) (l : List A) → fold (λ b x. max b (f x)) m l ≡ max m (largest (map f l))
  unfolding largest
  largest_from f m [] = omega arith
  largest_from f m (a ∷ l) = omega (arith, largest_from f (max m (f a)) l)

  pub largest_is : (f : A → ℕ) (l : List A) → largest (map f l) ≡ fold (λ b x. max b (f x)) 0 l
  largest_is f l = omega (arith, largest_from f 0 l)

-- what a proof of a chain of iterators lists beside the library's own
pub ruleset of_lists = (any_is, all_is, filter_is, sum_is, largest_is)

-- `map` goes through the functions of lists: what is done by a key of the entries is done on the keys. Two maps that agree on the members (`map_same`), and
-- maps there and back (`map_back`).
use mathlib.Core.Path.{◌∙◌, ◌≡◌, ap, ap₂, refl}
use mathlib.Core.Bool.{Bool, false, true}
use mathlib.Core.List.Memᴰ.{head as here}
use mathlib.Core.List.Memᴰ.{tail as there}
use mathlib.Core.List.{List, [], ◌∷◌, map}
use Prim.Native.Nat.{◌<◌, suc, zero, ℕ}
use native.Mathlib.Omega.{arith}
use lib.ListN.{drop, get_or, length, take}
use Rattle.lists.specs.Lists.{all, any, both, either, filter_b, insert, keep_if, pick}
use Rattle.lists.proofs.Members.{◌∈◌}

module _ {A B : Type 0} (f : A → B) where
  pub map_take : (n : ℕ) (l : List A) → map f (take n l) ≡ take n (map f l)
  map_take zero l = refl
  map_take (suc n) [] = refl
  map_take (suc n) (a ∷ l) = ap (λ (k : List B). f a ∷ k) (map_take n l)

  pub map_drop : (n : ℕ) (l : List A) → map f (drop n l) ≡ drop n (map f l)
  map_drop zero l = refl
  map_drop (suc n) [] = refl
  map_drop (suc n) (a ∷ l) = map_drop n l

  pub map_at : (l : List A) (i : ℕ) (d : A) (e : B) → i < length l → get_or (map f l) i e ≡ f (get_or l i d)
  map_at [] i d e h = absurd (omega arith)
  map_at (a ∷ l) zero d e h = refl
  map_at (a ∷ l) (suc i) d e h = map_at l i d e (omega arith)

  pub map_any : (p : B → Bool) (l : List A) → any (λ a. p (f a)) l ≡ any p (map f l)
  unfolding any
  map_any p [] = refl
  map_any p (a ∷ l) = ap (either (p (f a))) (map_any p l)

  pub map_all : (p : B → Bool) (l : List A) → all (λ a. p (f a)) l ≡ all p (map f l)
  unfolding all
  map_all p [] = refl
  map_all p (a ∷ l) = ap (both (p (f a))) (map_all p l)

  pub map_filter : (p : B → Bool) (l : List A) → map f (filter_b (λ a. p (f a)) l) ≡ filter_b p (map f l)
  unfolding filter_b
  map_filter p [] = refl
  map_filter p (a ∷ l) = keep (p (f a)) ∙ ap (keep_if (p (f a)) (f a)) (map_filter p l)
    where
      keep : (b : Bool) → map f (keep_if b a (filter_b (λ x. p (f x)) l)) ≡ keep_if b (f a) (map f (filter_b (λ x. p (f x)) l))
      keep true = refl
      keep false = refl

  map_pick : (b : Bool) (l r : List A) → map f (pick b l r) ≡ pick b (map f l) (map f r)
  map_pick true l r = refl
  map_pick false l r = refl

  pub map_insert : (less : B → B → Bool) (a : A) (l : List A) → map f (insert (λ x y. less (f x) (f y)) a l) ≡ insert less (f a) (map f l)
  unfolding insert
  map_insert less a [] = refl
  map_insert less a (b ∷ l) =
      map_pick (less (f b) (f a)) (b ∷ insert (λ x y. less (f x) (f y)) a l) (a ∷ b ∷ l)
      ∙ ap (λ (k : List B). pick (less (f b) (f a)) (f b ∷ k) (f a ∷ f b ∷ map f l)) (map_insert less a l)

  -- two maps that agree on the members
  pub map_same : (h : A → B) (l : List A) → ((a : A) → a ∈ l → f a ≡ h a) → map f l ≡ map h l
  map_same h [] e = refl
  map_same h (a ∷ l) e = ap₂ (λ (x : B) (m : List B). x ∷ m) (e a (here refl)) (map_same h l (λ b m. e b (there m)))

  pub map_back : (h : B → A) (l : List B) → ((b : B) → b ∈ l → f (h b) ≡ b) → map f (map h l) ≡ l
  map_back h [] e = refl
  map_back h (b ∷ l) e = ap₂ (λ (x : B) (m : List B). x ∷ m) (e b (here refl)) (map_back h l (λ c m. e c (there m)))

-- What an array of 31 rows and a length say of the list of the first rows, and lists that are cut at 31. Assumes nothing.
use mathlib.Core.Path.{◌∙◌, ◌≡◌, ap, sym}
use mathlib.Core.List.{List, [], ◌++◌, ◌∷◌, append_assoc}
use Prim.Native.Nat.{◌+◌, ◌<◌, ◌≤◌, ℕ}
use native.Mathlib.Decide.{dec_lt}
use native.Mathlib.Numerals.{add-one}
use native.Mathlib.Omega.{arith}
use lib.ListN.{get_or, length, length-append, length-take, set, take}
use lib.Seq.{take_all, take-append-le, take-suc, take-suc-set, take-take}

-- what was cut before is cut no further by what stands behind it
pub cut_twice : (n : ℕ) (l m : List ℕ) → take n (take n l ++ m) ≡ take n (l ++ m)
cut_twice n l m = elim (dec_lt (length l) n) [
  | yes h ↦ ap (λ (k : List ℕ). take n (k ++ m)) (take_all n l (omega arith))
  | no h ↦ take-append-le n (take n l) m (simp length-take (omega arith)) ∙ take-take n n l (omega arith) ∙ sym (take-append-le n l m (omega arith))
]

-- one row more, behind the first n of 31
module _ (rows : List ℕ) (n row : ℕ) (full : length rows ≡ 31) where
  pub extended_is : n < 31 → take (n + 1) (set rows n row) ≡ take 31 (take n rows ++ (row ∷ []))
  extended_is h =
      rw (add-one n) (take-suc-set rows n row (omega arith))
      ∙ sym (take_all 31 (take n rows ++ (row ∷ [])) (omega (arith, length-append (take n rows) (row ∷ []), length-take n rows)))

  pub full_is : 31 ≤ n → take n rows ≡ take 31 (take n rows ++ (row ∷ []))
  full_is h =
      sym (take-append-le 31 (take n rows) (row ∷ []) (simp length-take (omega arith)) ∙ take_all 31 (take n rows) (simp length-take (omega arith)))

-- one row more of those that are to follow, at the code's i + 1
pub joined_next : (l m : List ℕ) (i : ℕ) → i < length m → take 31 (take 31 (l ++ take i m) ++ (get_or m i 0 ∷ [])) ≡ take 31 (l ++ take (i + 1) m)
joined_next l m i h =
    cut_twice 31 (l ++ take i m) (get_or m i 0 ∷ [])
    ∙ ap (take 31) (append_assoc l (take i m) (get_or m i 0 ∷ []) ∙ ap (λ (k : List ℕ). l ++ k) (rw (add-one i) (sym (take-suc m i 0 h))))

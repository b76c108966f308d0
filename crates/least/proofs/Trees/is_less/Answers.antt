-- The library compares slices as vectors are compared, by the first components that differ.
use mathlib.Core.Bool.{Bool}
use mathlib.Core.List.{List}
use mathlib.Core.Path.{◌∙◌, ◌≡◌, ap, ap₂, refl, sym}
use Prim.Native.Nat.{min, ℕ}
use native.Mathlib.Decide.{dec_lt}
use native.Mathlib.Omega.{arith}
use lib.ListN.{length, take}
use lib.Seq.{take_all}
use Rattle.std.specs.Cmp.Lexicographic.{slice_partial_cmp}
use Rattle.std.specs.Ordering.{is_lt, is_some_and, nat_cmp}
use Rattle.std.specs.Prelude.{Some}
use Rattle.std.proofs.lemmas.Bool.Decides.{nat_tests}
use Rattle.std.proofs.lemmas.Cmp.{same_from_slice_cmp_tested}
use Rattle.costs.specs.Costs.{vector_less}
use Rattle.least.proofs.Vectors.{count_is}
use Rattle.least.proofs.Trees.is_less.Goals as goal

is_before : (xs ys : List ℕ) (r : Bool) → r ≡ is_some_and is_lt (slice_partial_cmp (λ x y. Some (nat_cmp x y)) xs ys) → r ≡ vector_less xs ys
unfolding vector_less
is_before = same_from_slice_cmp_tested nat_cmp is_lt vector_less refl (λ _ _. refl) (λ _ _. refl) (λ x y xs ys o h. grind (arith, nat_tests))

-- the first places of four
first_places : (k : ℕ) (l : List ℕ) {n : ℕ} → length l ≡ 4 → n ≡ min k 4 → take n l ≡ take k l
first_places k l {n} four e = elim (dec_lt k 4) [
  | yes h ↦ let same : n ≡ k = omega arith in ap (λ (m : ℕ). take m l) same
  | no h ↦ take_all n l (omega arith) ∙ sym (take_all k l (omega arith))
]

pub returns : goal.returns
returns c =
    let n = count_is _ _ c.count-n.ensures.0 in
    is_before _ _ _ c.lt.ensures ∙ ap₂ vector_less (first_places _ c.args.a (omega arith) n) (first_places _ c.args.b (omega arith) n)

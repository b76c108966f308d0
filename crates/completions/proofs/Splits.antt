-- Rows that are known, and vectors that none of them meets. In component 0 such a vector is not below a known row (`unmet_above`), so in the components
-- from 1 on no known row meets it (`unmet_rest`); and a row that meets a vector meets it there (`rest_larger`). So boxes of these components suffice.
use mathlib.Core.Path.{◌∙◌, ◌≡◌, subst, sym}
use mathlib.Core.Logic.{⊎_elim}
use mathlib.Core.List.{List, [], ◌∷◌}
use Prim.Native.Nat.{◌≤◌, ℕ}
use native.Mathlib.Omega.{arith}
use lib.Dec.{T, eqb, eqb→eq, ltb, ltb→lt}
use lib.ListN.{length}
use Rattle.lists.specs.Lists.{both}
use Rattle.lists.proofs.Members.{◌∈◌, any_in}
use Rattle.lists.proofs.Orders.{compared, is_equal, is_greater, is_less}
use Rattle.lists.proofs.Tests.{T-both, T-either}
use Rattle.costs.specs.Costs.{none_larger, vector_less}
use Rattle.costs.proofs.Fronts.{Sized, front_meets, front_out, meets_none_larger}
use Rattle.costs.proofs.Vectors.{none_larger_refl, vector_order}
use Rattle.tables.proofs.Known.{Known}
use Rattle.completions.specs.Rows.{head_of, met_by, rest_of}
use Rattle.completions.proofs.Boxes.{larger_cons, larger_out}

-- Component 0

head_below : (u v : List ℕ) → length u ≡ length v → T (vector_less u v) → head_of u ≤ head_of v
unfolding vector_less
head_below [] v e t = omega arith
head_below (x ∷ u) [] e t = absurd t
head_below (x ∷ u) (y ∷ v) e t = ⊎_elim
    (λ s. omega (arith, ltb→lt x y s))
    (λ s. omega (arith, eqb→eq x y ((T-both (eqb x y) (vector_less u v)).0 s).0))
    ((T-either (ltb x y) (both (eqb x y) (vector_less u v))).0 t)

head_larger : (u v : List ℕ) → length u ≡ length v → T (none_larger u v) → head_of u ≤ head_of v
head_larger [] v e t = omega arith
head_larger (x ∷ u) [] e t = absurd (omega (arith, e))
head_larger (x ∷ u) (y ∷ v) e t = (larger_out x y u v t).0

whole_larger : (u v : List ℕ) → length u ≡ length v → head_of u ≤ head_of v → T (none_larger (rest_of u) (rest_of v)) → T (none_larger u v)
whole_larger [] [] e h t = none_larger_refl []
whole_larger [] (y ∷ v) e h t = absurd (omega (arith, e))
whole_larger (x ∷ u) [] e h t = absurd (omega (arith, e))
whole_larger (x ∷ u) (y ∷ v) e h t = larger_cons x y u v h t

-- a row that meets a vector meets it in the components from 1 on
pub rest_larger : (u v : List ℕ) → length u ≡ length v → T (none_larger u v) → T (none_larger (rest_of u) (rest_of v))
rest_larger [] [] e t = t
rest_larger [] (y ∷ v) e t = absurd (omega (arith, e))
rest_larger (x ∷ u) [] e t = absurd (omega (arith, e))
rest_larger (x ∷ u) (y ∷ v) e t = (larger_out x y u v t).1

module _ (k : ℕ) (vs known : List (List ℕ)) (sized : Sized k vs) (h : Known vs known) (u : List ℕ) (i : u ∈ vs) (n : ¬ T (met_by known u)) (r : List ℕ) (j : r ∈ known) where
  known_sized : length r ≡ k
  known_sized = sized r (front_out vs (h.final r j)).0

  -- ABOVE: what meets it comes later in the front than all known rows
  pub unmet_above : head_of r ≤ head_of u
  unmet_above =
      let (f, m, meets) = front_meets k vs sized u i in
      let at = sized f (front_out vs m).0 in
      let new : ¬ (f ∈ known) = λ z. n (any_in (λ r. none_larger r u) z (meets_none_larger f u meets)) in
      let second = head_larger f u (at ∙ sym (sized u i)) (meets_none_larger f u meets) in
      elim (compared vector_order r f tt tt) [
        | is_less l ↦ omega (arith, second, head_below r f (known_sized ∙ sym at) l)
        | is_equal e ↦ absurd (new (subst (λ (x : List ℕ). x ∈ known) e j))
        | is_greater l ↦ absurd (new (h.first f r m j l))
      ]

  -- REST
  pub unmet_rest : ¬ T (none_larger (rest_of r) (rest_of u))
  unmet_rest t = n (any_in (λ r. none_larger r u) j (whole_larger r u (known_sized ∙ sym (sized u i)) unmet_above t))

-- Vectors with a component for each criterion, by its kind (`by_kinds`): their length, each component, what holds of all, and two of them compared.
use mathlib.Core.Path.{◌∙◌, ◌≡◌, ap, ap₂, refl, subst, sym}
use mathlib.Core.Logic.{⊎_elim}
use mathlib.Core.Option.{none-ne-some, some-injective, some}
use mathlib.Core.List.Memᴰ.{cases_cons as mem_cases}
use mathlib.Core.List.Memᴰ.{not-nil as mem_nil}
use mathlib.Core.List.{List, [], ◌∷◌}
use Prim.Native.Nat.{◌+◌, ◌≤◌, suc, zero, ℕ}
use native.Mathlib.Omega.{arith}
use lib.Dec.{T, le→leb}
use lib.ListN.{get_or, get_elem?, length}
use Rattle.lists.proofs.Members.{◌∈◌}
use Rattle.lists.proofs.Tests.{T-both}
use Rattle.costs.specs.Costs.{by_kinds, none_larger}
use Rattle.costs.specs.Network.{Kind}

module _ (f : Kind → ℕ → ℕ) where
  pub kinds_length : (c : ℕ) (kinds : List Kind) → length (by_kinds f c kinds) ≡ length kinds
  unfolding by_kinds
  kinds_length c [] = refl
  kinds_length c (kind ∷ kinds) = ap suc (kinds_length (suc c) kinds)

  pub kinds_at : (c : ℕ) (kinds : List Kind) (i : ℕ) (kind : Kind) → get_elem? kinds i ≡ some kind → get_or (by_kinds f c kinds) i 0 ≡ f kind (c + i)
  unfolding by_kinds
  kinds_at c [] i kind e = absurd (none-ne-some _ e)
  kinds_at c (other ∷ kinds) zero kind e = ap₂ f (some-injective _ _ e) (omega arith)
  kinds_at c (other ∷ kinds) (suc i) kind e = kinds_at (suc c) kinds i kind e ∙ ap (f kind) (omega arith)

  pub kinds_each : (P : ℕ → Type 0) → ((kind : Kind) (c : ℕ) → P (f kind c)) → (c : ℕ) (kinds : List Kind) (x : ℕ) → x ∈ by_kinds f c kinds → P x
  unfolding by_kinds
  kinds_each P h c [] x m = absurd (mem_nil m)
  kinds_each P h c (kind ∷ kinds) x m = ⊎_elim (λ (e : x ≡ f kind c). subst P (sym e) (h kind c)) (kinds_each P h (suc c) kinds x) (mem_cases m)

module _ (f h : Kind → ℕ → ℕ) where
  pub kinds_same : ((kind : Kind) (c : ℕ) → f kind c ≡ h kind c) → (c : ℕ) (kinds : List Kind) → by_kinds f c kinds ≡ by_kinds h c kinds
  unfolding by_kinds
  kinds_same e c [] = refl
  kinds_same e c (kind ∷ kinds) = ap₂ ◌∷◌ (e kind c) (kinds_same e (suc c) kinds)

  pub kinds_below : ((kind : Kind) (c : ℕ) → f kind c ≤ h kind c) → (c : ℕ) (kinds : List Kind) → T (none_larger (by_kinds f c kinds) (by_kinds h c kinds))
  unfolding by_kinds none_larger
  kinds_below e c [] = tt
  kinds_below e c (kind ∷ kinds) = simp T-both (le→leb _ _ (e kind c), kinds_below e (suc c) kinds)

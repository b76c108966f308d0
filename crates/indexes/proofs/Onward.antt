-- A tree of a list and those behind it are the list from its place on (`onward_is`), so the tree some moves behind it stands so many places further (`onward_at`).
use mathlib.Core.Path.{◌∙◌, ◌≡◌, ap, sym}
use mathlib.Core.Option.{none-ne-some, some-injective, some}
use mathlib.Core.List.{List, [], ◌∷◌}
use Prim.Native.Nat.{◌+◌, ◌-◌, suc, zero, ℕ}
use lib.ListN.{drop, get_elem?, length, length-drop}
use Rattle.lists.proofs.Distinct.{Distinct}
use Rattle.pages.proofs.Pages.{behind_drop}
use Rattle.pages.proofs.TreePages.{drop_elem}
use Rattle.indexes.specs.Index.{onward}

module _ (L : List (List ℕ)) (i : ℕ) (p : List ℕ) (once : Distinct L) (e : get_elem? L i ≡ some p) where
  pub onward_is : onward L p ≡ drop i L
  onward_is = ap (λ (l : List (List ℕ)). p ∷ l) (behind_drop L i p once e) ∙ from L i e
    where
      from : (l : List (List ℕ)) (i : ℕ) → get_elem? l i ≡ some p → p ∷ drop (suc i) l ≡ drop i l
      from [] i e = absurd (none-ne-some _ e)
      from (q ∷ l) zero e = ap (λ (x : List ℕ). x ∷ l) (sym (some-injective _ _ e))
      from (q ∷ l) (suc i) e = from l i e

  pub onward_at : (j : ℕ) → get_elem? (onward L p) j ≡ get_elem? L (i + j)
  onward_at j = ap (λ (l : List (List ℕ)). get_elem? l j) onward_is ∙ drop_elem i j L

  pub onward_long : length (onward L p) ≡ length L - i
  onward_long = ap length onward_is ∙ length-drop i L

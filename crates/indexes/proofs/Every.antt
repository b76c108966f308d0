-- The index of a list: place i holds tree i × s (`every_at`), so it has an entry for every tree of the list (`index_entry`, `index_is`), and it fits exactly where
-- the list has at most s trees for each entry (`index_fits`). What stands at its places in a buffer: `flat_at`.
use mathlib.Core.Path.{◌∙◌, ◌≡◌, ap, refl, sym}
use mathlib.Core.Logic.{◌↔◌}
use mathlib.Core.List.Memᴰ.{head as here}
use mathlib.Core.List.Memᴰ.{tail as there}
use mathlib.Core.List.{List, [], ◌∷◌, append-nil}
use Prim.Native.Nat.{◌*◌, ◌+◌, ◌<◌, ◌≤◌, pred, suc, zero, ℕ}
use native.Mathlib.Decide.{dec_lt}
use native.Mathlib.Omega.{arith}
use lib.ListN.{drop, get_or, get_elem?, length, take}
use Rattle.lists.proofs.Ascending.{at_get_or, get_d_at}
use Rattle.lists.proofs.Members.{◌∈◌, ◌⊆◌, mem_elim}
use Rattle.pages.specs.Pages.{flat, pieces}
use Rattle.pages.proofs.Pages.{pieces_at, pieces_flat}
use Rattle.indexes.specs.Index.{every_from, indexed}

-- Places

pub every_at : (s : ℕ) → 1 ≤ s → (l : List (List ℕ)) (c i : ℕ) → get_elem? (every_from s c l) i ≡ get_elem? l (c + i * s)
unfolding every_from
every_at s h [] c i = refl
every_at s h (p ∷ l) zero zero = let e : 0 ≡ 0 + 0 * s = omega arith in ap (get_elem? (p ∷ l)) e
every_at s h (p ∷ l) zero (suc i) = every_at s h l (pred s) i ∙ ap (get_elem? (p ∷ l)) (next i)
  where
    next : (i : ℕ) → suc (pred s + i * s) ≡ 0 + suc i * s
    next i = omega arith
every_at s h (p ∷ l) (suc c) i = every_at s h l c i ∙ ap (get_elem? (p ∷ l)) (next i)
  where
    next : (i : ℕ) → suc (c + i * s) ≡ suc c + i * s
    next i = omega arith

module _ (s : ℕ) (h : 1 ≤ s) (L : List (List ℕ)) where
  pub index_at : (i : ℕ) → get_elem? (indexed s L) i ≡ get_elem? L (i * s)
  index_at i = let e : 0 + i * s ≡ i * s = omega arith in every_at s h L 0 i ∙ ap (get_elem? L) e

  -- there is an entry for tree i × s exactly if there is the tree
  pub index_entry : (i : ℕ) → (i < length (indexed s L)) ↔ (i * s < length L)
  index_entry i = (
    λ l. (get_d_at L (i * s) [] (sym (index_at i) ∙ at_get_or (indexed s L) i [] l)).0,
    λ l. (get_d_at (indexed s L) i [] (index_at i ∙ at_get_or L (i * s) [] l)).0,
  )

  pub index_is : (i : ℕ) → i < length (indexed s L) → get_or (indexed s L) i [] ≡ get_or L (i * s) []
  index_is i l =
      let e = sym (index_at i) ∙ at_get_or (indexed s L) i [] l in
      sym (get_d_at L (i * s) [] e).1

  -- as many entries as n hold the index exactly if the list has at most n × s trees
  pub index_fits : (n : ℕ) → (length (indexed s L) ≤ n) ↔ (length L ≤ n * s)
  index_fits n = (
    λ l. elim (dec_lt (n * s) (length L)) [ yes k ↦ absurd (omega (arith, (index_entry n).1 k)) | no k ↦ omega arith ],
    λ l. elim (dec_lt n (length (indexed s L))) [ yes k ↦ absurd (omega (arith, (index_entry n).0 k)) | no k ↦ omega arith ],
  )

-- the members of the index are trees of the list
pub every_part : (s : ℕ) (l : List (List ℕ)) (c : ℕ) → every_from s c l ⊆ l
unfolding every_from
every_part s [] c p i = i
every_part s (q ∷ l) zero p i = mem_elim (λ (x : List ℕ). x ∈ q ∷ l) i (here refl) (λ j. there (every_part s l (pred s) p j))
every_part s (q ∷ l) (suc c) p i = there (every_part s l c p i)

-- tree i of trees of w rows, one after the other
pub flat_at : (w : ℕ) (l : List (List ℕ)) (i : ℕ) → ((p : List ℕ) → p ∈ l → length p ≡ w) → i < length l → take w (drop (i * w) (flat l)) ≡ get_or l i []
flat_at w l i long k =
    sym (pieces_at w (length l) (flat l) i k)
    ∙ ap (λ (x : List (List ℕ)). get_or x i []) (ap (pieces w (length l)) (sym (append-nil (flat l))) ∙ pieces_flat w l [] long)

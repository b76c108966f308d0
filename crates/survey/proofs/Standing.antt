-- The older rows that stand, as a loop over the rows meets them: none of no rows (`standing_none`), one more of one more row where that row stands (`standing_more`),
-- the same where it does not (`standing_same`), and at the end those of all rows (`standing_all`).
use mathlib.Core.Path.{◌∙◌, ◌≡◌, ap, refl}
use mathlib.Core.Bool.{Bool, false, true}
use mathlib.Core.List.{List, [], ◌++◌, ◌∷◌, append-nil}
use Prim.Native.Nat.{◌+◌, ◌<◌, ◌≤◌, ℕ}
use native.Mathlib.Numerals.{add-one}
use lib.ListN.{get_or, length, take}
use lib.Seq.{take_all, take-suc}
use Rattle.lists.specs.Lists.{filter_b, keep_if}
use Rattle.lists.proofs.Members.{filter_append}
use Rattle.costs.specs.Network.{Row, no_row}
use Rattle.surveys.specs.Surveys.{stands, survivors}

module _ (rows newer : List Row) where
  pub standing_none : survivors (take 0 rows) newer ≡ []
  unfolding survivors filter_b
  standing_none = refl

  module _ (r : ℕ) (h : r < length rows) where
    turn : survivors (take (r + 1) rows) newer ≡ survivors (take r rows) newer ++ keep_if (stands newer (get_or rows r no_row)) (get_or rows r no_row) []
    unfolding survivors filter_b
    turn = rw add-one (ap (filter_b (stands newer)) (take-suc rows r no_row h) ∙ filter_append (stands newer) (take r rows) (get_or rows r no_row ∷ []))

    pub standing_more : stands newer (get_or rows r no_row) ≡ true → survivors (take (r + 1) rows) newer ≡ survivors (take r rows) newer ++ (get_or rows r no_row ∷ [])
    standing_more e = turn ∙ ap (λ (t : Bool). survivors (take r rows) newer ++ keep_if t (get_or rows r no_row) []) e

    pub standing_same : stands newer (get_or rows r no_row) ≡ false → survivors (take (r + 1) rows) newer ≡ survivors (take r rows) newer
    standing_same e =
        turn ∙ ap (λ (t : Bool). survivors (take r rows) newer ++ keep_if t (get_or rows r no_row) []) e ∙ append-nil (survivors (take r rows) newer)

  pub standing_all : (m : ℕ) → length rows ≤ m → survivors (take m rows) newer ≡ survivors rows newer
  standing_all m h = ap (λ (l : List Row). survivors l newer) (take_all m rows h)

-- How many of the older's first r rows stand (`Counting`), as a loop over the rows counts them.
use mathlib.Core.Path.{◌∙◌, ◌≡◌, ap}
use mathlib.Core.Bool.{false, true}
use mathlib.Core.List.{List}
use Prim.Native.Nat.{◌+◌, ◌<◌, ◌≤◌, ℕ}
use native.Mathlib.Omega.{arith}
use lib.ListN.{get_or, length, take}
use Rattle.lists.proofs.Members.{length_snoc}
use Rattle.costs.specs.Network.{Row, no_row}
use Rattle.surveys.specs.Surveys.{stands, survivors}
use Rattle.survey.proofs.Standing.{standing_all, standing_more, standing_none, standing_same}

pub record Counting (rows newer : List Row) (count r : ℕ) : Type 0 where
  pub counts : count ≡ length (survivors (take r rows) newer)
  pub few : count ≤ r
  pub within : r ≤ length rows

module _ {rows newer : List Row} where
  pub counting_start : Counting rows newer 0 0
  counting_start = record { counts = omega (arith, ap length (standing_none rows newer)); few = omega arith; within = omega arith }

  module _ {count r : ℕ} (so : Counting rows newer count r) where
    pub counting_more : r < length rows → stands newer (get_or rows r no_row) ≡ true → Counting rows newer (count + 1) (r + 1)
    counting_more h e = record {
      counts = omega (arith, so.counts, ap length (standing_more rows newer r h e), length_snoc (survivors (take r rows) newer) (get_or rows r no_row));
      few = omega (arith, so.few);
      within = omega arith;
    }

    pub counting_same : r < length rows → stands newer (get_or rows r no_row) ≡ false → Counting rows newer count (r + 1)
    counting_same h e = record {
      counts = omega (arith, so.counts, ap length (standing_same rows newer r h e));
      few = omega (arith, so.few);
      within = omega arith;
    }

    pub counting_end : length rows ≤ r → (count ≡ length (survivors rows newer)) × (count ≤ length rows)
    counting_end h = (so.counts ∙ ap length (standing_all rows newer r h), omega (arith, so.few, so.within))

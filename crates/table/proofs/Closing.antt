-- Closing up: the tables at each turn, when the first i rows are looked at and n of them stay.
use mathlib.Core.Path.{◌∙◌, ◌≡◌, refl}
use mathlib.Core.Bool.{false, true}
use mathlib.Core.List.{List, [], ◌++◌, ◌∷◌}
use Prim.Native.Nat.{◌*◌, ◌+◌, ◌<◌, ◌≤◌, ℕ}
use native.Mathlib.Nat.{mul-le-mul_right}
use native.Mathlib.Omega.{arith}
use lib.ListN.{drop, length}
use Rattle.lists.specs.Lists.{filter_b}
use Rattle.lists.proofs.Members.{length_snoc}
use Rattle.costs.specs.Costs.{dominates}
use Rattle.pages.specs.Pages.{flat, pieces}
use Rattle.compare.proofs.Rows.{row_ends, row_at}
use Rattle.copies.specs.Copies.{moved}
use Rattle.copies.proofs.Moves.{moved_all}
use Rattle.table.specs.Enter.{Row, beside, filled}
use Rattle.table.specs.Parts.{Closed, staying}
use Rattle.table.proofs.Filled.{Wide, filled_more, gone, over_behind, over_more, path_of, paths_are, stays, vector_of, vectors_are, wide_staying}

-- the rows that stay of the first i
abbrev pub stayed : List ℕ → List ℕ → List ℕ → ℕ → ℕ → List Row
stayed v c p w i = staying v (filled (length v) w i c p)

pub record Closing (v c p : List ℕ) (w count i n : ℕ) (c' p' : List ℕ) : Type 0 where
  pub within : i ≤ count
  pub few : n ≤ i
  pub costs_long : length c' ≡ length c
  pub witnesses_long : length p' ≡ length p
  pub closed : Closed (stayed v c p w i) c p n c' p'

pub closing_start : (v c p : List ℕ) (w count : ℕ) → Closing v c p w count 0 0 c p
unfolding staying filter_b filled beside pieces flat
closing_start v c p w count = record {
  within = omega arith;
  few = omega arith;
  costs_long = refl;
  witnesses_long = refl;
  closed = record { count_is_lem = refl; costs_are = refl; witnesses_are = refl };
}

-- row i lies within both tables, and row n does not stand behind it
pub record Bounds (k w i n costs witnesses : ℕ) : Type 0 where
  pub costs_end : i * k + k ≤ costs
  pub witnesses_end : i * w + w ≤ witnesses
  pub costs_below : n * k ≤ i * k
  pub witnesses_below : n * w ≤ i * w

module _ {v c p : List ℕ} {w count i n : ℕ} {c' p' : List ℕ} (at : Closing v c p w count i n c' p')
    (costs_fit : count * length v ≤ length c) (witnesses_fit : count * w ≤ length p) (more : i < count) where
  ends : i * length v + length v ≤ length c
  ends = row_ends i count (length v) (length c) more costs_fit

  ends' : i * w + w ≤ length p
  ends' = row_ends i count w (length p) more witnesses_fit

  pub bounds : Bounds (length v) w i n (length c') (length p')
  bounds = record {
    costs_end = omega (arith, ends, at.costs_long);
    witnesses_end = omega (arith, ends', at.witnesses_long);
    costs_below = mul-le-mul_right (length v) at.few;
    witnesses_below = mul-le-mul_right w at.few;
  }

  abbrev old : List Row
  old = stayed v c p w i

  wide : Wide vector_of (length v) old
  wide = wide_staying vector_of (length v) (filled (length v) w i c p) i c v (omega (arith, ends)) (vectors_are (length v) w c p i)

  wide' : Wide path_of w old
  wide' = wide_staying path_of w (filled (length v) w i c p) i p v (omega (arith, ends')) (paths_are (length v) w c p i)

  below : (k : ℕ) → length old * k ≤ i * k
  below k = mul-le-mul_right k (omega (arith, at.few, at.closed.count_is_lem))

  row_there : drop (i * length v) c' ≡ drop (i * length v) c
  row_there = rw at.closed.costs_are (over_behind vector_of (length v) old c wide (i * length v) (below (length v)))

  abbrev row : Row
  row = record { vector = row_at (length v) c i; path = row_at w p i }

  pub closing_gone : dominates v (row_at (length v) c' i) ≡ true → Closing v c p w count (i + 1) n c' p'
  closing_gone e =
      let next : stayed v c p w (i + 1) ≡ old = rw (filled_more (length v) w c p i) (gone v (filled (length v) w i c p) row (rw row_there at e)) in
      record {
        within = omega arith;
        few = omega (arith, at.few);
        costs_long = at.costs_long;
        witnesses_long = at.witnesses_long;
        closed = rw next at.closed;
      }

  pub closing_stays : {c'' p'' : List ℕ} → dominates v (row_at (length v) c' i) ≡ false
      → c'' ≡ moved c' (i * length v) (n * length v) (length v) → p'' ≡ moved p' (i * w) (n * w) w
      → length c'' ≡ length c' → length p'' ≡ length p' → Closing v c p w count (i + 1) (n + 1) c'' p''
  closing_stays e ec ep lc lp =
      let next : stayed v c p w (i + 1) ≡ old ++ (row ∷ []) = rw (filled_more (length v) w c p i) (stays v (filled (length v) w i c p) row (rw row_there at e)) in
      record {
        within = omega arith;
        few = omega (arith, at.few);
        costs_long = lc ∙ at.costs_long;
        witnesses_long = lp ∙ at.witnesses_long;
        closed = record {
          count_is_lem = rw next (omega (arith, length_snoc old row, at.closed.count_is_lem));
          costs_are = ec ∙ moved_all c' _ _ _ bounds.costs_below bounds.costs_end
              ∙ (rw (next, at.closed.costs_are, at.closed.count_is_lem) (over_more vector_of (length v) old c wide row (i * length v) ends (below (length v)) refl));
          witnesses_are = ep ∙ moved_all p' _ _ _ bounds.witnesses_below bounds.witnesses_end
              ∙ (rw (next, at.closed.witnesses_are, at.closed.count_is_lem) (over_more path_of w old p wide' row (i * w) ends' (below w) refl));
        };
      }

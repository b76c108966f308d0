-- Parts put one behind the other into a buffer: what entries make, as the list of those that are put grows by an entry at a time (`Laid`, with its start, its turns
-- and its end); the first entries of a list grow so (`first_read`).
use mathlib.Core.Path.{◌∙◌, ◌≡◌, ap, ap₂, refl, sym}
use mathlib.Core.List.{List, [], ◌++◌, ◌∷◌}
use Prim.Native.Nat.{◌+◌, ◌<◌, ◌≤◌, ℕ}
use native.Mathlib.Numerals.{add-one}
use native.Mathlib.Omega.{arith}
use lib.ListN.{get_or, length, take}
use lib.Seq.{take-suc}
use Rattle.lists.specs.Lists.{concat_map}
use Rattle.lists.proofs.Sequences.{concat_map_snoc}
use Rattle.printout.specs.Text.{filled, put}
use Rattle.printout.proofs.Laws.{behind, put_none}

-- the first entries of a list, and one more, as it was read
pub first_read : {A : Type 0} (l : List A) (r : ℕ) (d : A) → r < length l → {a : A} → a ≡ get_or l r d → take (r + 1) l ≡ take r l ++ (a ∷ [])
first_read {A} l r d h read = rw (add-one r) (take-suc l r d h) ∙ ap (λ (b : A). take r l ++ (b ∷ [])) (sym read)

parts_none : {A : Type 0} (g : A → List ℕ) → concat_map g [] ≡ []
unfolding concat_map
parts_none g = refl

-- what the entries of `up_to r` make stands in the buffer, r of at most m turns done
pub record Laid {A : Type 0} (g : A → List ℕ) (up_to : ℕ → List A) (m : ℕ) (out : List ℕ) (from : ℕ) (new : List ℕ) (at r : ℕ) : Type 0 where
  pub few : r ≤ m
  pub long : length new ≡ length out
  pub holds : filled new at ≡ put out from (concat_map g (up_to r))

module _ {A : Type 0} {g : A → List ℕ} {up_to : ℕ → List A} {m : ℕ} {out : List ℕ} {from : ℕ} where
  pub laid_start : up_to 0 ≡ [] → Laid g up_to m out from out from 0
  laid_start none = record { few = omega arith; long = refl; holds = put_none out from ∙ ap (put out from) (sym (ap (concat_map g) none ∙ parts_none g)) }

  module _ {new : List ℕ} {at r : ℕ} (p : Laid g up_to m out from new at r) where
    -- one entry more
    pub laid_turn : {next : List ℕ} {end : ℕ} → r < m → (a : A) → up_to (r + 1) ≡ up_to r ++ (a ∷ []) → length next ≡ length new → filled next end ≡ put new at (g a)
        → Laid g up_to m out from next end (r + 1)
    laid_turn more a grown kept part = record {
      few = omega arith;
      long = kept ∙ p.long;
      holds = behind out from (concat_map g (up_to r)) (g a) p.holds part ∙ ap (put out from) (sym (ap (concat_map g) grown ∙ concat_map_snoc g (up_to r) a));
    }

    -- a turn that puts nothing
    pub laid_skip : {next : List ℕ} {end : ℕ} → r < m → up_to (r + 1) ≡ up_to r → next ≡ new → end ≡ at → Laid g up_to m out from next end (r + 1)
    laid_skip more same still there = record {
      few = omega arith;
      long = ap length still ∙ p.long;
      holds = ap₂ filled still there ∙ p.holds ∙ ap (λ (l : List A). put out from (concat_map g l)) (sym same);
    }

    -- all turns are done, and l is the list
    pub laid_end : m ≤ r → {l : List A} → up_to m ≡ l → filled new at ≡ put out from (concat_map g l)
    laid_end all whole =
        let same : r ≡ m = omega (arith, p.few) in
        p.holds ∙ ap (λ (k : ℕ). put out from (concat_map g (up_to k))) same ∙ ap (λ (k : List A). put out from (concat_map g k)) whole

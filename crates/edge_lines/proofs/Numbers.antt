-- A number read byte by byte: where the loop starts, a turn, and its two ends.
use mathlib.Core.Path.{◌∙◌, ◌≡◌, ap, refl, sym}
use mathlib.Core.Bool.{Bool, ◌&&◌, false, not, true}
use mathlib.Core.Option.{Option, none, some}
use mathlib.Core.List.{List, [], ◌∷◌}
use Prim.Native.Nat.{◌*◌, ◌+◌, ◌-◌, ◌<◌, ◌≤◌, min, ℕ}
use native.Mathlib.Numerals.{add-one}
use native.Mathlib.Omega.{arith}
use lib.Dec.{eqb}
use lib.ListN.{drop, drop_of_length-le, get_or, length}
use lib.Seq.{drop-cons}
use Rattle.lists.specs.Lists.{all, both, pick}
use Rattle.edge_file.specs.Decimal.{is_digit, leads, number_of, value_from}
use Rattle.edge_lines.specs.Reading.{cap, capped_from, held_at}
use Rattle.edge_lines.proofs.Reading.{capped_value}

-- the loop has come to byte i with this value
pub record NumberTo (bytes : List ℕ) (i value : ℕ) : Type 0 where
  pub within : i ≤ length bytes
  pub digits : all is_digit bytes ≡ all is_digit (drop i bytes)
  pub comes : capped_from value (drop i bytes) ≡ min cap (value_from 0 bytes)

pub number_start : (bytes : List ℕ) → NumberTo bytes 0 0
number_start bytes = record { within = omega arith; digits = refl; comes = capped_value 0 bytes }

module _ {bytes : List ℕ} {i value : ℕ} (inv : NumberTo bytes i value) where
  here : i < length bytes → drop i bytes ≡ get_or bytes i 0 ∷ drop (i + 1) bytes
  here h = rw add-one (drop-cons bytes i 0 h)

  pub number_turn : {next : ℕ} → i < length bytes → is_digit (get_or bytes i 0) ≡ true → next ≡ min cap (value * 10 + (get_or bytes i 0 - 48)) → NumberTo bytes (i + 1) next
  unfolding all capped_from
  number_turn {next} h d e = record {
    within = omega arith;
    digits = inv.digits ∙ ap (all is_digit) (here h) ∙ ap {B = Bool} (λ b. b && all is_digit (drop (i + 1) bytes)) d;
    comes = ap (λ (x : ℕ). capped_from x (drop (i + 1) bytes)) e ∙ sym (ap (capped_from value) (here h)) ∙ inv.comes;
  }

  pub number_stop : i < length bytes → is_digit (get_or bytes i 0) ≡ false → none ≡ held_at (number_of bytes)
  unfolding all number_of
  number_stop h d =
      let e : all is_digit bytes ≡ false = inv.digits ∙ ap (all is_digit) (here h) ∙ ap {B = Bool} (λ b. b && all is_digit (drop (i + 1) bytes)) d in
      sym (ap {B = Option ℕ} (λ b. held_at (pick (both b (leads bytes)) (some (value_from 0 bytes)) none)) e)

  pub number_end : leads bytes ≡ true → length bytes ≤ i → some value ≡ held_at (number_of bytes)
  unfolding all capped_from number_of
  number_end l h =
      let nothing : drop i bytes ≡ [] = drop_of_length-le bytes h in
      let e : all is_digit bytes ≡ true = inv.digits ∙ ap (all is_digit) nothing in
      let v : value ≡ min cap (value_from 0 bytes) = sym (ap (capped_from value) nothing) ∙ inv.comes in
      ap {B = Option ℕ} some v ∙ sym (rw (e, l))

pub number_leads : (bytes : List ℕ) → leads bytes ≡ false → none ≡ held_at (number_of bytes)
unfolding number_of
number_leads bytes l = sym (go (all is_digit bytes))
  where
    go : (b : Bool) → held_at (pick (both b (leads bytes)) (some (value_from 0 bytes)) none) ≡ none
    go true = ap {B = Option ℕ} (λ c. held_at (pick c (some (value_from 0 bytes)) none)) l
    go false = refl

-- how bytes begin
pub leads_none : (bytes : List ℕ) → length bytes ≡ 0 → leads bytes ≡ false
unfolding leads
leads_none [] e = refl
leads_none (b ∷ l) e = absurd (omega arith)

pub leads_one : (bytes : List ℕ) → length bytes ≡ 1 → leads bytes ≡ true
unfolding leads
leads_one [] e = absurd (omega arith)
leads_one (b ∷ []) e = refl
leads_one (b ∷ c ∷ l) e = absurd (omega arith)

pub leads_more : (bytes : List ℕ) → 1 < length bytes → leads bytes ≡ not (eqb (get_or bytes 0 0) 48)
unfolding leads
leads_more [] more = absurd (omega arith)
leads_more (b ∷ []) more = absurd (omega arith)
leads_more (b ∷ c ∷ l) more = refl

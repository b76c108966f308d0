-- Places pasted into a table one after the other, as the loops that copy and move do: the table once the first i of n places stand there (`Pasting`).
use mathlib.Core.Path.{◌∙◌, ◌≡◌, ap, refl}
use mathlib.Core.List.{List}
use Prim.Native.Nat.{◌+◌, ◌-◌, ◌<◌, ◌≤◌, ℕ}
use native.Mathlib.Numerals.{add-one}
use native.Mathlib.Omega.{arith}
use lib.ListN.{get_or, length, length-set, set}
use lib.Seq.{paste, paste-suc, paste-zero}

pub record Pasting {A : Type 0} (table : List A) (at : ℕ) (places : List A) (n : ℕ) (new : List A) (i : ℕ) : Type 0 where
  pub few : i ≤ n
  pub there : n ≤ length places
  pub fit : n ≤ length table - at
  pub long : length new ≡ length table
  pub pasted : new ≡ paste table at places i

module _ {A : Type 0} where
  pub pasting_start : (table : List A) (at : ℕ) (places : List A) (n : ℕ) → n ≤ length places → n ≤ length table - at → Pasting table at places n table 0
  pasting_start table at places n there fit = record { few = omega arith; there = there; fit = fit; long = refl; pasted = paste-zero table at places }

  module _ {table : List A} {at : ℕ} {places : List A} {n : ℕ} {new : List A} {i : ℕ} (p : Pasting table at places n new i) where
    pub pasting_more : (x : A) → i < n → x ≡ get_or places i x → Pasting table at places n (set new (at + i) x) (i + 1)
    pasting_more x more e = record {
      few = omega arith;
      there = p.there;
      fit = p.fit;
      long = simp length-set p.long;
      pasted = rw (p.pasted, add-one) (ap (set (paste table at places i) (at + i)) e ∙ paste-suc table at places i x (omega (arith, p.fit)) (omega (arith, p.there)));
    }

    pub pasting_end : n ≤ i → new ≡ paste table at places n
    pasting_end h =
        let all : i ≡ n = omega (arith, p.few) in
        p.pasted ∙ ap (paste table at places) all

-- Bytes put into a buffer: what is put in two parts, one behind the other, is put at once (`behind`); what fits stands there whole (`put_whole`);
-- and where the loop ends that puts them byte by byte (`Putting`, `all_put`).
use mathlib.Core.Path.{◌∙◌, ◌≡◌, ap, refl, sym}
use mathlib.Core.Bool.{Bool, false, true}
use mathlib.Core.List.{List, [], ◌++◌, append_assoc}
use Prim.Native.Nat.{◌+◌, ◌<◌, ◌≤◌, ℕ}
use native.Mathlib.Nat.{add_assoc, add-zero, zero-add}
use native.Mathlib.Numerals.{add-one}
use native.Mathlib.Omega.{arith}
use borrow.Author.Tests.{leb-false, leb-true}
use lib.Dec.{leb}
use lib.ListN.{drop, get_or, length, length-append, length-drop, length-take, set, take}
use lib.Seq.{drop-drop, drop-paste, length-paste, paste, paste-suc, paste-zero, take-append-add, take-append-le, take-length, take-paste}
use Rattle.printout.specs.Text.{Filled, filled, fitting, put}

-- where nothing fits, the buffer stays as it is
put_still : (out : List ℕ) (at : ℕ) (bytes : List ℕ) → fitting out at bytes ≡ 0 → filled out at ≡ put out at bytes
unfolding put
put_still out at bytes none =
    rw none (ap (λ (l : List ℕ). filled l at) (paste-zero out at bytes) ∙ ap (filled (paste out at bytes 0)) (sym (add-zero at)))

pub put_none : (out : List ℕ) (at : ℕ) → filled out at ≡ put out at []
put_none out at = put_still out at [] (omega arith)

-- the buffer keeps its length
put_length : (out : List ℕ) (at : ℕ) (bytes : List ℕ) → length (paste out at bytes (fitting out at bytes)) ≡ length out
put_length out at bytes = simp (length-append, length-take, length-drop) (omega arith)

module _ (out : List ℕ) (at : ℕ) (a b : List ℕ) where
  -- the first part fits whole
  both_fit : at + length a ≤ length out → put (paste out at a (length a)) (at + length a) b ≡ put out at (a ++ b)
  unfolding put
  both_fit fits =
      let n = length a in
      let between = paste out at a n in
      let m = fitting between (at + n) b in
      let long : length between ≡ length out = length-paste out at a n fits (omega arith) in
      let all : fitting out at (a ++ b) ≡ n + m = omega (arith, length-append a b) in
      let before : take (at + n) between ≡ take at out ++ a = take-paste out at a n (omega arith) (omega arith) ∙ ap (λ (l : List ℕ). take at out ++ l) (take-length a) in
      let rest : drop (at + n) between ≡ drop (at + n) out = drop-paste out at a n (omega arith) (omega arith) in
      let after : drop (at + n + m) between ≡ drop (at + n + m) out = sym (drop-drop m (at + n) between) ∙ ap (drop m) rest ∙ drop-drop m (at + n) out in
      rw (all, before, after, take-append-add a b m, append_assoc (take at out) a (take m b), add_assoc at n m)

  -- the buffer ends within the first part
  first_cut : length out < at + length a → put (paste out at a (fitting out at a)) (at + fitting out at a) b ≡ put out at (a ++ b)
  unfolding put
  first_cut cut =
      let n = fitting out at a in
      let all : fitting out at (a ++ b) ≡ n = omega (arith, length-append a b) in
      sym (put_still (paste out at a n) (at + n) b (omega (arith, put_length out at a))) ∙ (rw (all, take-append-le n a b (omega arith)))

  both : put (paste out at a (fitting out at a)) (at + fitting out at a) b ≡ put out at (a ++ b)
  both = go (leb (at + length a) (length out)) refl
    where
      go : (t : Bool) → leb (at + length a) (length out) ≡ t → put (paste out at a (fitting out at a)) (at + fitting out at a) b ≡ put out at (a ++ b)
      go true e =
          let fits : at + length a ≤ length out = leb-true _ _ e in
          let whole : fitting out at a ≡ length a = omega arith in
          ap (λ (n : ℕ). put (paste out at a n) (at + n) b) whole ∙ both_fit fits
      go false e = first_cut (leb-false _ _ e)

pub behind : (out : List ℕ) (at : ℕ) {between after : List ℕ} {place end : ℕ} (a b : List ℕ) → filled between place ≡ put out at a → filled after end ≡ put between place b
    → filled after end ≡ put out at (a ++ b)
unfolding put
behind out at {between} {after} {place} {end} a b first second = second ∙ ap (λ (f : Filled). put f.bytes f.at b) first ∙ both out at a b

-- what fits from the first place on stands there, before what was behind it
pub put_whole : (out bytes : List ℕ) → length bytes ≤ length out → put out 0 bytes ≡ filled (bytes ++ drop (length bytes) out) (length bytes)
unfolding put
put_whole out bytes fits =
    let whole : fitting out 0 bytes ≡ length bytes = omega arith in
    rw (whole, zero-add (length bytes), take-length bytes)

-- the first i bytes stand in the buffer, up to the place
pub record Putting (out : List ℕ) (at : ℕ) (bytes new : List ℕ) (place i : ℕ) : Type 0 where
  pub few : i ≤ fitting out at bytes
  pub there : place ≡ at + i
  pub pasted : new ≡ paste out at bytes i

module _ {out : List ℕ} {at : ℕ} {bytes : List ℕ} where
  pub putting_start : Putting out at bytes out at 0
  putting_start = record { few = omega arith; there = omega arith; pasted = paste-zero out at bytes }

  pub putting_more : {new : List ℕ} {place i : ℕ} → Putting out at bytes new place i → (x : ℕ) → i < fitting out at bytes → x ≡ get_or bytes i 0
      → Putting out at bytes (set new place x) (place + 1) (i + 1)
  putting_more {new} {place} {i} p x more read = record {
    few = omega arith;
    there = omega (arith, p.there);
    pasted = rw (p.there, p.pasted, read, add-one) (paste-suc out at bytes i 0 (omega arith) (omega arith));
  }

  pub putting_at : {new : List ℕ} {place here i : ℕ} → Putting out at bytes new place i → here ≡ place → Putting out at bytes new here i
  putting_at p e = record { few = p.few; there = e ∙ p.there; pasted = p.pasted }

  pub all_put : {new : List ℕ} {place i : ℕ} → Putting out at bytes new place i → fitting out at bytes ≤ i → filled new place ≡ put out at bytes
  unfolding put
  all_put {new} {place} {i} p all =
      let end : i ≡ fitting out at bytes = omega (arith, p.few) in
      rw (p.there, p.pasted, end)

-- where all bytes fit they are put whole
pub whole_put : (out : List ℕ) (at : ℕ) (bytes : List ℕ) {new : List ℕ} → at + length bytes ≤ length out → new ≡ paste out at bytes (length bytes)
    → filled new (at + length bytes) ≡ put out at bytes
unfolding put
whole_put out at bytes fits is =
    let whole : fitting out at bytes ≡ length bytes = omega arith in
    rw (is, whole)

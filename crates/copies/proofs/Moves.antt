-- Places moved down within a table, and a row inserted in it, where they fit (`moved_all`, `inserted_all`), and what a turn of each loop leaves of the table.
use mathlib.Core.Path.{◌∙◌, ◌≡◌, ap, refl, sym}
use mathlib.Core.Bool.{true}
use mathlib.Core.List.{List, ◌++◌, append_assoc}
use Prim.Native.Nat.{◌+◌, ◌-◌, ◌<◌, ◌≤◌, suc, ℕ}
use native.Mathlib.Nat.{add_assoc, add-sub_cancel_left, sub_self}
use native.Mathlib.Omega.{arith}
use borrow.Author.Tests.{le-leb}
use lib.ListN.{drop, get_or, get_or-append, length, length-drop, length-set, length-take, set, take}
use lib.Seq.{append_snoc, drop-append-add, drop-append_seam, drop_at, drop-cons, get_or-append-add, get_or-drop, get_or-take, length_paste_head}
use lib.Seq.{length-take-le, paste, paste-zero, set_at, take-append-le, take-append_seam, take-length, take-suc, take-take}
use Rattle.copies.specs.Copies.{between, copied, fits, inserted, moved}
use Rattle.copies.proofs.Copies.{copied_all}
use Rattle.copies.proofs.Pasting.{Pasting, pasting_start}

fits_in_lem : (table at end n : ℕ) → at ≤ end → end + n ≤ table → fits table at end n ≡ true
unfolding fits
fits_in_lem table at end n order h = rw (le-leb at end order, le-leb (end + n) table h)

module _ {A : Type 0} where
  pub moved_all : (table : List A) (from to n : ℕ) → to ≤ from → from + n ≤ length table → moved table from to n ≡ paste table to (drop from table) n
  unfolding moved
  moved_all table from to n down within = rw (fits_in_lem (length table) to from n down within)

  pub inserted_all : (table : List A) (at end : ℕ) (row : List A) → at ≤ end → end + length row ≤ length table → inserted table at end row ≡ between table at end row
  unfolding inserted
  inserted_all table at end row order room = rw (fits_in_lem (length table) at end (length row) order room)

  -- inserted where a part ends
  pub insert_between : (a b r row : List A) → between (a ++ (b ++ r)) (length a) (length a + length b) row ≡ a ++ (row ++ (b ++ drop (length row) r))
  insert_between a b r row =
      rw (take-append_seam, drop-append_seam, add-sub_cancel_left, take-append_seam, add_assoc, drop-append-add, drop-append-add)

-- Moved down, from the first on: what is still to be moved stands where it stood

module _ {A : Type 0} (table : List A) (from to n : ℕ) (down : to ≤ from) (within : from + n ≤ length table) where
  pub move_start : Pasting table to (drop from table) n table 0
  move_start = pasting_start table to (drop from table) n (simp length-drop (omega arith)) (omega arith)

  pub move_reads : {new : List A} {i : ℕ} → Pasting table to (drop from table) n new i → i < n → (d : A) → get_or new (from + i) d ≡ get_or (drop from table) i d
  move_reads {new} {i} p more d =
      let head = take to table ++ take i (drop from table) in
      let long : length head ≡ to + i = length_paste_head table to (drop from table) i (omega arith) (simp length-drop (omega arith)) in
      let place : length head + (from - to) ≡ from + i = omega arith in
      let place' : to + i + (from - to) ≡ from + i = omega arith in
      rw p.pasted
      (ap (λ (m : ℕ). get_or (paste table to (drop from table) i) m d) (sym place)
      ∙ get_or-append-add head (drop (to + i) table) (from - to) d
      ∙ get_or-drop (to + i) table (from - to) d
      ∙ ap (λ (m : ℕ). get_or table m d) place'
      ∙ sym (get_or-drop from table i d))

-- Raised by k places, from the last on: the places before `end`, down to place i

pub record Raising {A : Type 0} (table : List A) (at end k : ℕ) (new : List A) (i : ℕ) : Type 0 where
  pub low : at ≤ i
  pub high : i ≤ end
  pub room : end + k ≤ length table
  pub long : length new ≡ length table
  pub raised : new ≡ paste table (i + k) (drop i table) (end - i)

module _ {A : Type 0} where
  pub raise_start : (table : List A) (at end k : ℕ) → at ≤ end → end + k ≤ length table → Raising table at end k table end
  raise_start table at end k order room = record {
    low = order;
    high = omega arith;
    room = room;
    long = refl;
    raised = rw sub_self (paste-zero table (end + k) (drop end table));
  }

  raise_more : (t : List A) (j k m : ℕ) (d : A) → j + k < length t → set (paste t (suc j + k) (drop (suc j) t) m) (j + k) (get_or t j d) ≡ paste t (j + k) (drop j t) (suc m)
  raise_more t j k m d h =
      let e : suc j + k ≡ suc (j + k) = omega arith in
      let e' : suc (j + k) + m ≡ j + k + suc m = omega arith in
      rw (e, take-suc t (j + k) d h, e', drop-cons t j d (omega arith), append_snoc, append_assoc (take (j + k) t), append_assoc (take (j + k) t))
      (set_at (take (j + k) t) (get_or t (j + k) d) _ (get_or t j d) (j + k) (length-take-le (j + k) t (omega arith)))

  module _ {t : List A} {at end k : ℕ} {new : List A} {i : ℕ} (p : Raising t at end k new i) where
    pub raised_more : (x : A) → at < i → x ≡ get_or new (i - 1) x → Raising t at end k (set new (i - 1 + k) x) (i - 1)
    raised_more x more is =
        let j = i - 1 in
        let next : i ≡ suc j = omega arith in
        let left : end - j ≡ suc (end - i) = omega (arith, p.high) in
        let above : j + k < length t = omega (arith, p.high, p.room) in
        let reads : get_or new j x ≡ get_or t j x = rw (p.raised, append_assoc) (get_or-append (take (i + k) t) _ x j (simp length-take (omega arith)) ∙ get_or-take (i + k) t j x (omega arith)) in
        record {
          low = omega arith;
          high = omega (arith, p.high);
          room = p.room;
          long = simp length-set p.long;
          raised = rw (p.raised, left)
              (ap (set (paste t (i + k) (drop i t) (end - i)) (j + k)) (is ∙ reads)
              ∙ ap (λ (n : ℕ). set (paste t (n + k) (drop n t) (end - i)) (j + k) (get_or t j x)) next
              ∙ raise_more t j k (end - i) x above);
        }

    -- the row is copied to the places that are free then
    pub raised_row : i ≤ at → (row : List A) → length row ≡ k → copied new at row k ≡ inserted t at end row
    raised_row h row e =
        let done : i ≡ at = omega (arith, p.low) in
        let behind : at + k + (end - at) ≡ end + k = omega (arith, p.high) in
        let parts : new ≡ take (at + k) t ++ (take (end - at) (drop at t) ++ drop (end + k) t) = p.raised ∙ (rw (done, append_assoc, behind)) in
        let long : length (take (at + k) t) ≡ at + k = length-take-le (at + k) t (omega (arith, p.high, p.room)) in
        copied_all new at row k (omega (arith, p.long, p.high, p.room)) (omega arith)
        ∙ (rw (parts, take-append-le at (take (at + k) t) _ (omega arith), take-take at (at + k) t (omega arith), drop_at (take (at + k) t) _ (at + k) long, ← e, take-length, append_assoc))
        ∙ sym (inserted_all t at end row (omega (arith, p.low, p.high)) (omega (arith, p.room)))

-- What the loops of this crate are about: the table of entries, filled from the last place down (`Entered`), the last step of a path (`last_is`), and the rows that
-- are in, one row of the path after the other (`standing_takes`, `standing_skips`). Assumes nothing.
use mathlib.Core.Path.{◌∙◌, ◌≡◌, ap, refl, sym}
use mathlib.Core.Logic.{⊎_elim}
use mathlib.Core.Bool.{Bool, false, not, true}
use mathlib.Core.List.{List, [], ◌++◌, ◌∷◌, append-nil}
use mathlib.Core.List.Memᴰ.{append_cases}
use mathlib.Core.List.Memᴰ.{cases_cons as mem_cases}
use mathlib.Core.List.Memᴰ.{head as here}
use mathlib.Core.List.Memᴰ.{not-nil as mem_nil}
use mathlib.Core.List.Memᴰ.{tail as there}
use Prim.Native.Nat.{◌%◌, ◌+◌, ◌-◌, ◌<◌, ◌≤◌, suc, zero, ℕ}
use native.Mathlib.Decide.{dec_lt, ℕ_discrete}
use native.Mathlib.Nat.{mod-eq_of_lt}
use native.Mathlib.Numerals.{add-one}
use native.Mathlib.Omega.{arith}
use lib.Dec.{eqb, leb, leb→le, le→leb, lt→ltb, ltb, ltb→lt}
use lib.ListN.{drop, drop_of_length-le, get_or, get_or-replicate, length, length-replicate, length-set, replicate, set, take}
use lib.Seq.{append_snoc, drop-cons, get_or-set_other, get_or-set_same, take_all}
use borrow.Author.Tests.{eq-eqb, le-ltb, lt-ltb, ne_eqb}
use Rattle.lists.specs.Lists.{both, either, filter_b, keep_if, member, range}
use Rattle.lists.proofs.Ascending.{get_or_mem}
use Rattle.lists.proofs.Distinct.{Distinct, filter_distinct}
use Rattle.lists.proofs.Members.{◌∈◌, ◌⊆◌, drop_out, filter_out, length_snoc, member_in, member_out, range_in, range_out, take_out}
use Rattle.lists.proofs.Tests.{T-both, T-same}
use Rattle.graph.specs.Paths.{Key, place_of}
use Rattle.graph.proofs.Places.{place_here, place_there}
use Rattle.bounds.specs.Bounds.{last_key}
use Rattle.states.specs.States.{must_row}
use Rattle.paths.specs.Path.{no_key}
use Rattle.branch.specs.Branch.{entry_from, standing_of}

-- Entries

pub entry_in : (i : ℕ) (l : List ℕ) (v : ℕ) → v ∈ l → entry_from i l v ≡ suc (i + place_of l v)
unfolding entry_from
entry_in i [] v m = absurd (mem_nil m)
entry_in i (u ∷ l) v m = elim (ℕ_discrete u v) [
  | yes e ↦ rw (eq-eqb u v e, place_here u v l e) (omega arith)
  | no d ↦ rw (ne_eqb u v d, place_there u v l d) (omega (arith, entry_in (i + 1) l v (⊎_elim (λ e. absurd (d (sym e))) (λ t. t) (mem_cases m))))
]

pub entry_out : (i : ℕ) (l : List ℕ) (v : ℕ) → ¬ (v ∈ l) → entry_from i l v ≡ 0
unfolding entry_from
entry_out i [] v n = refl
entry_out i (u ∷ l) v n = rw (ne_eqb u v (λ e. n (here (sym e)))) (entry_out (i + 1) l v (λ m. n (there m)))

-- a table holds the entries of the nodes from place i on
pub record Entered (l entries : List ℕ) (i : ℕ) : Type 0 where
  pub whole : length entries ≡ 256
  pub within : i ≤ length l
  pub holds : (v : ℕ) → v < 256 → get_or entries v 0 ≡ entry_from i (drop i l) v

pub entered_start : (l : List ℕ) (n i : ℕ) → n ≡ 256 → i ≡ length l → Entered l (replicate n 0) i
unfolding entry_from
entered_start l n i e d =
    let past : length l ≤ i = omega arith in
    record {
      whole = length-replicate {A = ℕ} n 0 ∙ e;
      within = omega arith;
      holds = λ v h. get_or-replicate {A = ℕ} n v 0 0 (omega arith) ∙ sym (rw (drop_of_length-le l past));
    }

pub entered_next : (l entries : List ℕ) (i x : ℕ) → 0 < i → x ≡ get_or l (i - 1) 0 → x < 256 → Entered l entries i → Entered l (set entries x (i - 1 + 1)) (i - 1)
unfolding entry_from
entered_next l entries zero x p e small so = absurd (omega arith)
entered_next l entries (suc j) x p e small so =
    let less : suc j - 1 ≡ j = omega arith in
    let here : x ≡ get_or l j 0 = rw less at e in
    rw less (record {
      whole = simp length-set so.whole;
      within = omega (arith, so.within);
      holds = λ v h. rw (drop-cons l j 0 (omega (arith, so.within))) (elim (ℕ_discrete v x) [
        | yes d ↦ rw (eq-eqb (get_or l j 0) v (sym (d ∙ here))) (rw d (get_or-set_same entries x (j + 1) 0 (omega (arith, so.whole))))
        | no d ↦ rw (ne_eqb (get_or l j 0) v (λ q. d (sym (here ∙ q)))) (get_or-set_other entries x v (j + 1) 0 d ∙ (rw add-one (so.holds v h)))
      ]);
    })

-- Nodes from 1 on

pub node_is : (v limit : ℕ) → both (ltb 0 v) (leb v limit) ≡ member v (range 1 limit)
node_is v limit = T-same (both (ltb 0 v) (leb v limit)) (member v (range 1 limit))
    (λ t. let (low, high) = (T-both (ltb 0 v) (leb v limit)).0 t in member_in (range_in 1 limit v (ltb→lt 0 v low) (omega (arith, leb→le v limit high))))
    (λ t. let (low, high) = range_out 1 limit (member_out v (range 1 limit) t) in
    (T-both (ltb 0 v) (leb v limit)).1 (lt→ltb 0 v (omega arith), le→leb v limit (omega arith)))

-- The last step

last_from : (k : Key) (ks : List Key) → get_or (k ∷ ks) (length ks) no_key ≡ last_key k ks
last_from k [] = refl
last_from k (l ∷ ks) = last_from l ks

pub last_is : (keys : List Key) (n : ℕ) → n ≡ length keys → get_or keys (n - 1) no_key ≡ last_key no_key keys
last_is [] n e = refl
last_is (k ∷ ks) n e = let last : n - 1 ≡ length ks = omega arith in ap (λ (i : ℕ). get_or (k ∷ ks) i no_key) last ∙ last_from k ks

-- Rows that are in

module _ (heads : List ℕ) where
  pub standing_within : (len : ℕ) (rows : List ℕ) → standing_of heads len rows ⊆ rows
  unfolding standing_of
  standing_within len rows r m =
      ⊎_elim (λ i. take_out len rows i) (λ i. drop_out len rows (filter_out (must_row heads) (drop len rows) i).0) (append_cases (take len rows) m)

  pub standing_once : (len : ℕ) (rows : List ℕ) → Distinct rows → Distinct (standing_of heads len rows)
  unfolding standing_of filter_b
  standing_once zero rows d = filter_distinct (must_row heads) rows d
  standing_once (suc len) [] d = tt
  standing_once (suc len) (r ∷ rows) d = (λ m. d.0 (standing_within len rows r m), standing_once len rows d.1)

module _ (heads rows : List ℕ) (len i x head : ℕ) (h : i < length rows) (e : x ≡ get_or rows i 0) (d : head ≡ get_or heads x 0) where
  abbrev stands : Bool
  stands = either (ltb i len) (not (eqb head 0))

  -- row i of a path, and the rows behind it
  turn : standing_of heads (len - i) (drop i rows) ≡ keep_if stands x (standing_of heads (len - (i + 1)) (drop (i + 1) rows))
  unfolding standing_of filter_b must_row
  turn = rw (d, e) (elim (dec_lt i len) [
    | yes k ↦
        let more : len - i ≡ suc (len - (i + 1)) = omega arith in
        rw (drop-cons rows i 0 h, more, lt-ltb i len k, add-one)
    | no k ↦
        let none : len - i ≡ 0 = omega arith in
        let still : len - (i + 1) ≡ 0 = omega arith in
        rw (drop-cons rows i 0 h, none, still, le-ltb i len (omega arith), add-one)
  ])

  -- a row that is not in
  pub standing_skips : stands ≡ false → standing_of heads (len - i) (drop i rows) ≡ standing_of heads (len - (i + 1)) (drop (i + 1) rows)
  standing_skips f = turn ∙ (rw f)

  -- a row that is in stands behind the rows so far, if it is a byte
  pub standing_takes : stands ≡ true → ((r : ℕ) → r ∈ rows → r < 256) → (so : List ℕ) → length so < 31
      → so ++ standing_of heads (len - i) (drop i rows) ≡ take 31 (so ++ (x % 256 ∷ [])) ++ standing_of heads (len - (i + 1)) (drop (i + 1) rows)
  standing_takes t small so room =
      let byte : x % 256 ≡ x = mod-eq_of_lt (rw e (small (get_or rows i 0) (get_or_mem rows i 0 h))) in
      let all = take_all 31 (so ++ (x ∷ [])) (omega (arith, length_snoc so x)) in
      rw (turn, t, byte, all) (sym (append_snoc so x (standing_of heads (len - (i + 1)) (drop (i + 1) rows))))

-- past the last row
standing_none : (heads : List ℕ) (len : ℕ) → standing_of heads len [] ≡ []
unfolding standing_of filter_b
standing_none heads zero = refl
standing_none heads (suc len) = refl

pub standing_over : (heads rows : List ℕ) (len i : ℕ) → length rows ≤ i → (so : List ℕ) → so ++ standing_of heads (len - i) (drop i rows) ≡ so
standing_over heads rows len i h so = rw (drop_of_length-le rows h, standing_none heads (len - i)) (append-nil so)

-- A path that grows in its arrays: what they hold after one step more (`holds_next`), what a turn makes of a path (`turned_plain`, `turned_beside`, `holds_beside`),
-- the growth that is left from the steps so far (`Left`), and the sets of the nodes entered so far (`Gathered`).
use mathlib.Core.Path.{◌∙◌, ◌≡◌, ap, refl, sym}
use mathlib.Core.Option.{Option, none, some}
use mathlib.Core.List.{List, [], ◌++◌, ◌∷◌, map, map-append}
use Prim.Native.Nat.{◌%◌, ◌+◌, ◌-◌, ◌<◌, ◌≤◌, min, suc, zero, ℕ}
use native.Mathlib.Decide.{dec_lt}
use native.Mathlib.Nat.{mod-eq_of_lt}
use native.Mathlib.Numerals.{add-one}
use native.Mathlib.Omega.{arith}
use lib.Bits.{bit_or}
use lib.Dec.{ltb, ltb→lt}
use lib.ListN.{get_or, length, length-map, length-set, set, take}
use lib.Seq.{length-take-le, take_all, take-length, take-suc, take-suc-set}
use borrow.Author.Tests.{lt-ltb, ne_eqb}
use Rattle.lists.specs.Lists.{range}
use Rattle.lists.proofs.Members.{length_snoc}
use Rattle.lists.proofs.Tests.{pick_elim}
use Rattle.graph.specs.Paths.{Key}
use Rattle.graph.proofs.Growth.{rows_of}
use Rattle.bounds.proofs.After.{rows_of_take}
use Rattle.bounds.proofs.Prefix.{rows_of_append}
use Rattle.words.specs.Words.{bit, minus}
use Rattle.chart.specs.Chart.{nodes_in, width_in}
use Rattle.paths.specs.Path.{entered_by, extended_by, no_key, nodes_of}
use Rattle.grow.specs.Grow.{fresh_after, kept}
use Rattle.grow.specs.Musts.{accepted_of, grow_with}
use Rattle.walk.specs.Walk.{beside_of}
use Rattle.grow.proofs.Musts.{grow_with_none, grow_with_over, grow_with_some}
use Rattle.trail.specs.Trail.{Holds, Names, grown_on, set_of, sets_by, turned_by}
use Rattle.trail.specs.declared.Turn.{Turn}
use Rattle.trail.proofs.Sets.{fresh_set, holds_part, set_at, set_snoc, sets_snoc}

-- What holds of a path and of each path with one step more holds of what it grows to

module _ (c : List ℕ) (plant : ℕ) (P : List Key → Type 0) (more : (l : List Key) (k : Key) → P l → P (extended_by l k)) where
  grow_keeps : (steps fresh : ℕ) (keys : List Key) (place node : ℕ) → P keys → P (grow_with c plant steps fresh keys place node)
  grow_keeps zero fresh keys place node h = rw (grow_with_over c plant zero fresh keys place node refl) h
  grow_keeps (suc steps) fresh keys place node h =
      turn (accepted_of c fresh (entered_by plant keys) place node) refl
      (λ k. grow_keeps steps (minus fresh (bit k.node)) (extended_by keys (kept k)) k.place k.node (more keys (kept k) h))
    where
      turn : (o : Option Key) → accepted_of c fresh (entered_by plant keys) place node ≡ o
          → ((k : Key) → P (grow_with c plant steps (minus fresh (bit k.node)) (extended_by keys (kept k)) k.place k.node))
          → P (grow_with c plant (suc steps) fresh keys place node)
      turn none e later = rw (grow_with_none c plant (suc steps) fresh keys place node (omega arith) refl refl e) h
      turn (some k) e later =
          let left : suc steps - 1 ≡ steps = omega arith in
          rw (grow_with_some c plant (suc steps) fresh keys place node k (omega arith) refl refl e, left) (later k)

-- so it is no shorter than the path, and no longer than a path can be

extended_least : (n : ℕ) (keys : List Key) (k : Key) → n ≤ length keys → n ≤ length (extended_by keys k)
unfolding extended_by
extended_least n keys k h =
    pick_elim (λ (l : List Key). n ≤ length l) (ltb (length keys) 31) {x = keys ++ (k ∷ [])} {y = keys} (λ t. omega (arith, length_snoc keys k)) (λ f. h)

extended_most : (keys : List Key) (k : Key) → length keys ≤ 31 → length (extended_by keys k) ≤ 31
unfolding extended_by
extended_most keys k h =
    pick_elim (λ (l : List Key). length l ≤ 31) (ltb (length keys) 31) {x = keys ++ (k ∷ [])} {y = keys}
    (λ t. omega (arith, length_snoc keys k, ltb→lt (length keys) 31 t)) (λ f. h)

module _ (c : List ℕ) (plant steps fresh : ℕ) (keys : List Key) (place node : ℕ) where
  grow_least : length keys ≤ length (grow_with c plant steps fresh keys place node)
  grow_least = grow_keeps c plant (λ l. length keys ≤ length l) (extended_least (length keys)) steps fresh keys place node (omega arith)

  grow_most : length keys ≤ 31 → length (grow_with c plant steps fresh keys place node) ≤ 31
  grow_most = grow_keeps c plant (λ l. length l ≤ 31) extended_most steps fresh keys place node

-- One step more

fresh_snoc : (l : List ℕ) (v nodes : ℕ) → fresh_after nodes (l ++ (v ∷ [])) ≡ minus (fresh_after nodes l) (bit v)
unfolding fresh_after
fresh_snoc [] v nodes = refl
fresh_snoc (u ∷ l) v nodes = fresh_snoc l v (minus nodes (bit u))

fresh_next : (plant : ℕ) (keys : List Key) (k : Key) (nodes : ℕ)
    → fresh_after nodes (entered_by plant (keys ++ (k ∷ []))) ≡ minus (fresh_after nodes (entered_by plant keys)) (bit k.node)
fresh_next plant keys k nodes = rw map-append (fresh_snoc (entered_by plant keys) k.node nodes)

next_is : (l : List ℕ) (n m v : ℕ) {part : List ℕ} → m ≡ suc n → n < length l → take n l ≡ part → take m (set l n v) ≡ part ++ (v ∷ [])
next_is l n m v e h p = rw (e, take-suc-set l n v h, p)

module _ {entered pivots sets : List ℕ} {plant : ℕ} {keys : List Key} (h : Holds entered pivots sets plant keys) where
  holds_next : (n w : ℕ) (k : Key) → length keys ≡ n → n < 31 → w ≡ bit_or (set_of (entered_by plant keys)) (bit k.node)
      → Holds (set entered (n + 1) k.node) (set pivots n k.place) (set sets (n + 1) w) plant (keys ++ (k ∷ []))
  holds_next n w k e room is =
      let long : length (keys ++ (k ∷ [])) ≡ suc (length keys) = omega (arith, length_snoc keys k) in
      let next : suc (length (keys ++ (k ∷ []))) ≡ suc (n + 1) = omega arith in
      let nodes : take (n + 1) entered ≡ entered_by plant keys = rw (add-one, ← e) h.nodes_are in
      let words : take (n + 1) sets ≡ sets_by (entered_by plant keys) = rw (add-one, ← e) h.sets_are in
      record {
        few = omega arith;
        nodes_long = rw length-set h.nodes_long;
        pivots_long = rw length-set h.pivots_long;
        sets_long = rw length-set h.sets_long;
        nodes_are = rw map-append (next_is entered (n + 1) _ k.node next (omega (arith, h.nodes_long)) nodes);
        pivots_are = rw (← e, map-append) (next_is pivots (length keys) _ k.place long (omega (arith, h.pivots_long)) h.pivots_are);
        sets_are = rw (map-append, sets_snoc (entered_by plant keys), ← is) (next_is sets (n + 1) _ w next (omega (arith, h.sets_long)) words);
      }

  -- the arrays hold no rows
  holds_same : (others : List Key) → nodes_of others ≡ nodes_of keys → map (λ (k : Key). k.place) others ≡ map (λ (k : Key). k.place) keys
      → Holds entered pivots sets plant others
  holds_same others e f =
      let long : length others ≡ length keys = sym (length-map others (λ (k : Key). k.node)) ∙ ap length e ∙ length-map keys (λ (k : Key). k.node) in
      record {
        few = omega (arith, h.few);
        nodes_long = h.nodes_long;
        pivots_long = h.pivots_long;
        sets_long = h.sets_long;
        nodes_are = rw (long, e) h.nodes_are;
        pivots_are = rw (long, f) h.pivots_are;
        sets_are = rw (long, e) h.sets_are;
      }

-- A turn of a path that the arrays hold

module _ {entered pivots sets : List ℕ} {plant : ℕ} {keys : List Key} (h : Holds entered pivots sets plant keys) {t : Turn} (names : Names keys t) where
  abbrev part : List Key
  part = take t.at keys

  -- the step by the parallel row
  abbrev pub beside : List Key
  beside = take t.at keys ++ (record { place = t.place; node = t.node; row = t.row } ∷ [])

  pub part_long : length (take t.at keys) ≡ t.at
  part_long = length-take-le t.at keys names.inside

  pub rows_part : (rows : List ℕ) → take t.at rows ≡ take t.at (rows_of keys) → take t.at rows ≡ rows_of (take t.at keys)
  rows_part rows e = e ∙ sym (rows_of_take t.at keys)

  pub turned_plain : (c : List ℕ) (width : ℕ) → width ≡ width_in c → t.row ≡ 0
      → turned_by c plant keys t.at t.row ≡ grown_on c plant (width - t.at) (take t.at keys) t.place t.node
  unfolding turned_by
  turned_plain c width is e = rw (e, is, names.place_is, names.node_is)

  module _ (changes : ¬ (t.row ≡ 0)) where
    pub beside_long : length beside ≡ t.at + 1
    beside_long = omega (arith, length_snoc part (record { place = t.place; node = t.node; row = t.row }), part_long)

    pub turned_beside : (c : List ℕ) (width : ℕ) → width ≡ width_in c → t.place < 256
        → turned_by c plant keys t.at t.row ≡ grown_on c plant (width - (t.at + 1)) beside t.place t.node
    unfolding turned_by beside_of extended_by
    turned_beside c width is small =
        let few : length part < 31 = omega (arith, part_long, names.changes changes, h.few) in
        let low : t.place % 256 ≡ t.place = mod-eq_of_lt small in
        let left : width_in c - t.at - 1 ≡ width - (t.at + 1) = omega arith in
        rw (ne_eqb _ _ changes, ← names.place_is, ← names.node_is, low, left, lt-ltb _ _ few)
        (sym (ap (λ (fresh : ℕ). grow_with c plant (width - (t.at + 1)) fresh beside t.place t.node)
        (fresh_next plant part (record { place = t.place; node = t.node; row = t.row }) (nodes_in c))))

    pub turned_longer : (c : List ℕ) → t.place < 256 → t.at < length (turned_by c plant keys t.at t.row)
    turned_longer c small =
        rw (turned_beside c (width_in c) refl small)
        (omega (arith, beside_long, grow_least c plant (width_in c - (t.at + 1)) (fresh_after (nodes_in c) (entered_by plant beside)) beside t.place t.node))

    pub holds_beside : Holds entered pivots sets plant beside
    holds_beside =
        let below = names.changes changes in
        let next = take-suc keys t.at no_key below in
        holds_same (holds_part h (suc t.at) below) beside (rw next (simp (map-append, ← names.node_is))) (rw next (simp (map-append, ← names.place_is)))

    pub rows_beside : (rows : List ℕ) → t.at < length rows → take t.at rows ≡ take t.at (rows_of keys) → take (t.at + 1) (set rows t.at t.row) ≡ rows_of beside
    rows_beside rows less e = rw rows_of_append (next_is rows t.at (t.at + 1) t.row (omega arith) less (rows_part rows e))

-- The arrays and the places of the rows hold the first s steps of a growth, which goes on from them

pub record Left (c : List ℕ) (plant : ℕ) (whole : List Key) (width : ℕ) (entered pivots sets rows : List ℕ) (s i j : ℕ) : Type 0 where
  pub keys : List Key
  pub holds : Holds entered pivots sets plant keys
  pub long : length keys ≡ s
  pub width_is : length rows ≡ width
  pub rows_are : take s rows ≡ rows_of keys
  pub goes_on : whole ≡ grown_on c plant (width - s) keys i j

pub left_start : {c : List ℕ} {plant : ℕ} {keys : List Key} {entered pivots sets rows : List ℕ} {s i j : ℕ}
    → Holds entered pivots sets plant keys → length keys ≡ s → take s rows ≡ rows_of keys
    → Left c plant (grown_on c plant (length rows - s) keys i j) (length rows) entered pivots sets rows s i j
left_start {keys} h e r = record { keys = keys; holds = h; long = e; width_is = refl; rows_are = r; goes_on = refl }

module _ {c : List ℕ} {plant : ℕ} {whole : List Key} {width : ℕ} {entered pivots sets rows : List ℕ} {s i j : ℕ} (l : Left c plant whole width entered pivots sets rows s i j) where
  pub left_room : s < 31 → s + 1 < length entered
  left_room h = omega (arith, l.holds.nodes_long)

  -- no step is left: the growth is the path
  left_over : width ≤ s → Holds entered pivots sets plant whole × (rows ≡ rows_of whole)
  left_over h =
      let same : whole ≡ l.keys = l.goes_on ∙ grow_with_over _ _ _ _ _ _ _ (omega arith) in
      (rw same l.holds, rw same (sym (take_all s rows (omega (arith, l.width_is))) ∙ l.rows_are))

  -- no path has more than 31 steps
  left_full : 31 ≤ s → s < width → ¬ (length whole ≡ width)
  left_full h less full =
      omega (arith, ap length l.goes_on, grow_most c plant (width - s) (fresh_after (nodes_in c) (entered_by plant l.keys)) l.keys i j l.holds.few)

  -- the rows are full, or the path is
  pub left_end : min width 31 ≤ s → length whole ≡ width → Holds entered pivots sets plant whole × (rows ≡ rows_of whole)
  left_end h full = elim (dec_lt s width) [
    | yes less ↦ absurd (left_full (omega arith) less full)
    | no over ↦ left_over (omega arith)
  ]

  -- the accepted step is that of the growth
  module _ {nodes word : ℕ} (all : nodes ≡ nodes_in c) (one : word ≡ get_or sets s 0) (less : s < width) {o : Option Key}
      (told : o ≡ accepted_of c (minus nodes word) (take (s + 1) entered) i j) where
    abbrev fresh : ℕ
    fresh = fresh_after (nodes_in c) (entered_by plant l.keys)

    whole_keys : take s l.keys ≡ l.keys
    whole_keys = take_all s l.keys (omega (arith, l.long))

    word_is : word ≡ set_of (entered_by plant l.keys)
    word_is = one ∙ set_at l.holds s (omega (arith, l.long)) ∙ ap (λ (ks : List Key). set_of (entered_by plant ks)) whole_keys

    told_is : o ≡ accepted_of c fresh (entered_by plant l.keys) i j
    told_is =
        let nodes_are : take (s + 1) entered ≡ entered_by plant l.keys = rw (add-one, ← l.long) l.holds.nodes_are in
        let fresh_is : minus nodes word ≡ fresh = rw (all, word_is) (sym (fresh_set (entered_by plant l.keys) (nodes_in c))) in
        rw (nodes_are, fresh_is) at told

    pub left_none : o ≡ none → length whole ≡ s
    left_none e = ap length (l.goes_on ∙ grow_with_none _ _ _ _ _ _ _ (omega arith) refl told_is e) ∙ l.long

    pub left_next : (k : Key) → s < 31 → o ≡ some k
        → Left c plant whole width (set entered (s + 1) k.node) (set pivots s (k.place % 256)) (set sets (s + 1) (bit_or word (bit k.node))) (set rows s (k.row % 65536))
        (s + 1) k.place k.node
    unfolding extended_by
    left_next k room e = record {
      keys = l.keys ++ (kept k ∷ []);
      holds = holds_next l.holds s (bit_or word (bit k.node)) (kept k) l.long room (rw word_is);
      long = omega (arith, length_snoc l.keys (kept k), l.long);
      width_is = rw length-set l.width_is;
      rows_are = rw (rows_of_append, add-one) (next_is rows s (suc s) (k.row % 65536) refl (omega (arith, l.width_is)) l.rows_are);
      goes_on =
          let left : width - s - 1 ≡ width - (s + 1) = omega arith in
          l.goes_on ∙ grow_with_some _ _ _ _ _ _ _ k (omega arith) refl told_is e
          ∙ (rw (left, lt-ltb (length l.keys) 31 (omega (arith, l.long)), ← fresh_next plant l.keys (kept k) (nodes_in c)));
    }

-- The sets of the nodes entered, one after the other

pub record Gathered (entered : List ℕ) (sets : List ℕ) (word i : ℕ) : Type 0 where
  pub long : length sets ≡ 32
  pub word_is : word ≡ set_of (take i entered)
  pub sets_are : take i sets ≡ sets_by (take i entered)

pub gathered_start : {entered sets : List ℕ} → length sets ≡ 32 → Gathered entered sets 0 0
unfolding range set_of sets_by
gathered_start h = record { long = h; word_is = refl; sets_are = refl }

pub gathered_next : {entered sets : List ℕ} {word i : ℕ} → Gathered entered sets word i → i < length entered → i < 32
    → Gathered entered (set sets i (bit_or word (bit (get_or entered i 0)))) (bit_or word (bit (get_or entered i 0))) (i + 1)
gathered_next {entered} {sets} {word} {i} h less room =
    let more : take (i + 1) entered ≡ take i entered ++ (get_or entered i 0 ∷ []) = rw add-one (take-suc entered i 0 less) in
    record {
      long = rw length-set h.long;
      word_is = rw (more, set_snoc, ← h.word_is);
      sets_are = rw (more, sets_snoc (take i entered), ← h.word_is) (next_is sets i (i + 1) _ (omega arith) (omega (arith, h.long)) h.sets_are);
    }

pub gathered_over : {entered sets : List ℕ} {word i : ℕ} → Gathered entered sets word i → i ≡ length entered
    → (take (length entered) sets ≡ sets_by entered) × (length sets ≡ 32)
gathered_over {entered} h e = (rw (e, take-length entered) at h.sets_are, h.long)

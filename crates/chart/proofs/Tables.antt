-- What a chart has at its places once a row is entered: the neighbours' words (`linked_near`, `claimed_near`, `claimed_ends`), the pairs (`pair_here`, `pair_other`),
-- the row's word and its parts (`linked_word`, `word_first` and so on), and all else as before.
use mathlib.Core.Path.{◌∙◌, ◌≡◌, ap, refl}
use mathlib.Core.Logic.{◌↔◌, ◌⊎◌, inl, inr, ⊎_elim}
use mathlib.Core.List.{List}
use Prim.Native.Nat.{◌%◌, ◌+◌, ◌<◌, ◌≤◌, ℕ}
use native.Mathlib.Decide.{ℕ_discrete}
use native.Mathlib.Omega.{arith}
use lib.Bits.{bit_or}
use lib.Dec.{T}
use lib.ListN.{get_or, length, length-set, set}
use lib.Seq.{get_or-set_other, get_or-set_same}
use Rattle.lists.proofs.Tests.{T-either}
use Rattle.words.specs.Words.{bit, has}
use Rattle.words.proofs.Words.{bit_in, bit_out, has_or}
use Rattle.chart.specs.Chart.{claimed_by, drawn_first_part, drawn_second_part, first_part, joined_by, linked_by, next_part, pair_at, row_word, second_part, state_part}

-- a and b are u and v, either way round
abbrev pub Ends : ℕ → ℕ → ℕ → ℕ → Type 0
Ends a b u v = ((a ≡ u) × (b ≡ v)) ⊎ ((a ≡ v) × (b ≡ u))

-- One neighbour more

module _ (c : List ℕ) (at x y : ℕ) where
  joined_length : length (joined_by c at x y) ≡ length c
  unfolding joined_by
  joined_length = length-set c (at + x) _

  joined_other : (i : ℕ) → ¬ (i ≡ at + x) → get_or (joined_by c at x y) i 0 ≡ get_or c i 0
  unfolding joined_by
  joined_other i d = get_or-set_other c (at + x) i _ 0 d

  joined_same : at + x < length c → get_or (joined_by c at x y) (at + x) 0 ≡ bit_or (get_or c (at + x) 0) (bit y)
  unfolding joined_by
  joined_same fits = get_or-set_same c (at + x) _ 0 fits

  -- the words from a place on
  joined_word : at + x < length c → (u v : ℕ) → v < 64 → T (has (get_or (joined_by c at x y) (at + u) 0) v) ↔ (T (has (get_or c (at + u) 0) v) ⊎ ((x ≡ u) × (y ≡ v)))
  joined_word fits u v low = elim (ℕ_discrete x u) [
    | yes e ↦ rw (← e, joined_same fits) (
      λ t. ⊎_elim (λ s. inl s) (λ s. inr (refl, bit_out y v s)) (simp (has_or, T-either) at t),
      λ s. simp (has_or, T-either) (⊎_elim (λ t. inl t) (λ (p, q). inr (bit_in y v low q)) s),
    )
    | no d ↦ rw (joined_other (at + u) (omega arith)) (λ t. inl t, λ s. ⊎_elim (λ t. t) (λ (e, f). absurd (d e)) s)
  ]

-- each of a and b becomes a neighbour of the other
module _ (c : List ℕ) (at a b : ℕ) where
  abbrev once : List ℕ
  once = joined_by c at a b

  twice_length : length (joined_by (joined_by c at a b) at b a) ≡ length c
  twice_length = joined_length once at b a ∙ joined_length c at a b

  twice_other : (i : ℕ) → ¬ (i ≡ at + a) → ¬ (i ≡ at + b) → get_or (joined_by (joined_by c at a b) at b a) i 0 ≡ get_or c i 0
  twice_other i d e = joined_other once at b a i e ∙ joined_other c at a b i d

  twice_word : at + a < length c → at + b < length c → (u v : ℕ) → v < 64
      → T (has (get_or (joined_by (joined_by c at a b) at b a) (at + u) 0) v) ↔ (T (has (get_or c (at + u) 0) v) ⊎ Ends a b u v)
  twice_word p q u v low =
      let one = joined_word c at a b p u v low in
      let two = joined_word once at b a (omega (arith, joined_length c at a b)) u v low in (
        λ t. ⊎_elim (λ t. ⊎_elim (λ t. inl t) (λ e. inr (inl e)) (one.0 t)) (λ (e, f). inr (inr (f, e))) (two.0 t),
        λ s. two.1 (⊎_elim (λ t. inl (one.1 (inl t))) (λ s. ⊎_elim (λ e. inl (one.1 (inr e))) (λ (e, f). inr (f, e)) s) s),
      )

-- The word of a row

module _ (a b next u v state : ℕ) (p : a ≤ 32) (q : b ≤ 32) (h : next < 65536) (k : u ≤ 32) (l : v ≤ 32) where
  pub word_first : first_part (row_word a b next u v state) ≡ a
  word_first = omega arith

  pub word_second : second_part (row_word a b next u v state) ≡ b
  word_second = omega arith

  pub word_next : next_part (row_word a b next u v state) ≡ next
  word_next = omega arith

  pub word_drawn_first : drawn_first_part (row_word a b next u v state) ≡ u
  word_drawn_first = omega arith

  pub word_drawn_second : drawn_second_part (row_word a b next u v state) ≡ v
  word_drawn_second = omega arith

  pub word_state : state_part (row_word a b next u v state) ≡ state
  word_state = omega arith

-- A row that joins a and b

module _ (c : List ℕ) (r a b state : ℕ) (long : length c ≡ 1416) (few : r ≤ 255) (p : a ≤ 32) (q : b ≤ 32) where
  abbrev linked : List ℕ
  linked = linked_by c r a b state

  abbrev near : List ℕ
  near = joined_by (joined_by c 5 a b) 5 b a

  abbrev there : List ℕ
  there = set near (pair_at a b) r

  abbrev pairs : List ℕ
  pairs = set there (pair_at b a) r

  near_long : length near ≡ 1416
  near_long = twice_length c 5 a b ∙ long

  there_long : length there ≡ 1416
  there_long = length-set near (pair_at a b) r ∙ near_long

  pairs_long : length pairs ≡ 1416
  pairs_long = length-set there (pair_at b a) r ∙ there_long

  pub linked_length : length (linked_by c r a b state) ≡ 1416
  unfolding linked_by
  linked_length = length-set pairs (1160 + r) _ ∙ pairs_long

  -- the row's word, and those of the others
  pub linked_word : get_or (linked_by c r a b state) (1160 + r) 0 ≡ row_word a b (get_or c (pair_at a b) 0 % 65536) a b state
  unfolding linked_by
  linked_word = get_or-set_same pairs (1160 + r) _ 0 (omega (arith, pairs_long))

  other_word : (i : ℕ) → ¬ (i ≡ 1160 + r) → get_or linked i 0 ≡ get_or pairs i 0
  unfolding linked_by
  other_word i d = get_or-set_other pairs (1160 + r) i _ 0 d

  pairs_other : (i : ℕ) → ¬ (i ≡ pair_at a b) → ¬ (i ≡ pair_at b a) → get_or pairs i 0 ≡ get_or near i 0
  pairs_other i d e = get_or-set_other there (pair_at b a) i r 0 e ∙ get_or-set_other near (pair_at a b) i r 0 d

  pub linked_words : (s : ℕ) → ¬ (s ≡ r) → get_or (linked_by c r a b state) (1160 + s) 0 ≡ get_or c (1160 + s) 0
  linked_words s d =
      other_word (1160 + s) (omega arith) ∙ pairs_other (1160 + s) (omega arith) (omega arith) ∙ twice_other c 5 a b (1160 + s) (omega arith) (omega arith)

  -- the words before the pairs
  below : (i : ℕ) → i < 71 → get_or linked i 0 ≡ get_or near i 0
  below i h = other_word i (omega arith) ∙ pairs_other i (omega arith) (omega arith)

  pub linked_size : (i : ℕ) → i < 5 → get_or (linked_by c r a b state) i 0 ≡ get_or c i 0
  linked_size i h = below i (omega arith) ∙ twice_other c 5 a b i (omega arith) (omega arith)

  pub linked_must : (u : ℕ) → u ≤ 32 → get_or (linked_by c r a b state) (38 + u) 0 ≡ get_or c (38 + u) 0
  linked_must u h = below (38 + u) (omega arith) ∙ twice_other c 5 a b (38 + u) (omega arith) (omega arith)

  pub linked_near : (u v : ℕ) → u ≤ 32 → v ≤ 32 → T (has (get_or (linked_by c r a b state) (5 + u) 0) v) ↔ (T (has (get_or c (5 + u) 0) v) ⊎ Ends a b u v)
  linked_near u v h l = rw (below (5 + u) (omega arith)) (twice_word c 5 a b (omega arith) (omega arith) u v (omega arith))

  -- the pairs
  pair_there : get_or pairs (pair_at a b) 0 ≡ r
  pair_there = elim (ℕ_discrete (pair_at a b) (pair_at b a)) [
    | yes e ↦ ap (λ (i : ℕ). get_or pairs i 0) e ∙ get_or-set_same there (pair_at b a) r 0 (omega (arith, there_long))
    | no d ↦ get_or-set_other there (pair_at b a) (pair_at a b) r 0 d ∙ get_or-set_same near (pair_at a b) r 0 (omega (arith, near_long))
  ]

  pub pair_here : (u v : ℕ) → Ends a b u v → get_or (linked_by c r a b state) (pair_at u v) 0 ≡ r
  pair_here u v s = ⊎_elim
      (λ (e, f). rw (← e, ← f, other_word (pair_at a b) (omega arith)) pair_there)
      (λ (e, f). rw (← e, ← f, other_word (pair_at b a) (omega arith)) (get_or-set_same there (pair_at b a) r 0 (omega (arith, there_long)))) s

  pub pair_other : (u v : ℕ) → u ≤ 32 → v ≤ 32 → ¬ Ends a b u v → get_or (linked_by c r a b state) (pair_at u v) 0 ≡ get_or c (pair_at u v) 0
  pair_other u v h l n =
      other_word (pair_at u v) (omega arith)
      ∙ pairs_other (pair_at u v) (λ e. n (inl (omega arith, omega arith))) (λ e. n (inr (omega arith, omega arith)))
      ∙ twice_other c 5 a b (pair_at u v) (omega arith) (omega arith)

-- A must row

module _ (c : List ℕ) (a b : ℕ) (long : length c ≡ 1416) (p : a ≤ 32) (q : b ≤ 32) where
  abbrev both : List ℕ
  both = joined_by (joined_by c 38 a b) 38 b a

  abbrev first : List ℕ
  first = joined_by both 38 0 a

  both_long : length both ≡ 1416
  both_long = twice_length c 38 a b ∙ long

  first_long : length first ≡ 1416
  first_long = joined_length both 38 0 a ∙ both_long

  pub claimed_length : length (claimed_by c a b) ≡ 1416
  unfolding claimed_by
  claimed_length = joined_length first 38 0 b ∙ first_long

  claimed_but : (i : ℕ) → ¬ (i ≡ 38) → get_or (claimed_by c a b) i 0 ≡ get_or both i 0
  unfolding claimed_by
  claimed_but i d = joined_other first 38 0 b i d ∙ joined_other both 38 0 a i d

  pub claimed_other : (i : ℕ) → (i < 38) ⊎ (71 ≤ i) → get_or (claimed_by c a b) i 0 ≡ get_or c i 0
  claimed_other i s = ⊎_elim (λ h. go (omega arith) (omega arith) (omega arith)) (λ h. go (omega arith) (omega arith) (omega arith)) s
    where
      go : ¬ (i ≡ 38) → ¬ (i ≡ 38 + a) → ¬ (i ≡ 38 + b) → get_or (claimed_by c a b) i 0 ≡ get_or c i 0
      go d e f = claimed_but i d ∙ twice_other c 38 a b i e f

  pub claimed_near : (u v : ℕ) → 1 ≤ u → v ≤ 32 → T (has (get_or (claimed_by c a b) (38 + u) 0) v) ↔ (T (has (get_or c (38 + u) 0) v) ⊎ Ends a b u v)
  claimed_near u v h l = rw (claimed_but (38 + u) (omega arith)) (twice_word c 38 a b (omega arith) (omega arith) u v (omega arith))

  -- the word of all ends
  pub claimed_old : (v : ℕ) → v ≤ 32 → T (has (get_or c 38 0) v) → T (has (get_or (claimed_by c a b) 38 0) v)
  unfolding claimed_by
  claimed_old v l t =
      let narrow : v < 64 = omega arith in
      let two = (twice_word c 38 a b (omega arith) (omega arith) 0 v narrow).1 (inl t) in
      (joined_word first 38 0 b (omega (arith, first_long)) 0 v narrow).1 (inl ((joined_word both 38 0 a (omega (arith, both_long)) 0 v narrow).1 (inl two)))

  pub claimed_ends : (u v : ℕ) → v ≤ 32 → Ends a b u v → T (has (get_or (claimed_by c a b) 38 0) v)
  unfolding claimed_by
  claimed_ends u v l s =
      let narrow : v < 64 = omega arith in
      let last = (joined_word first 38 0 b (omega (arith, first_long)) 0 v narrow).1 in
      ⊎_elim (λ (e, f). last (inr (refl, f))) (λ (e, f). last (inl ((joined_word both 38 0 a (omega (arith, both_long)) 0 v narrow).1 (inr (refl, e))))) s

-- The table of entries: the place at which a node is first entered, plus 1, and 0 where it is not entered. Assumes nothing.
use mathlib.Core.Path.{◌∙◌, ◌≡◌, ap, refl, sym}
use mathlib.Core.List.Memᴰ.{head as here}
use mathlib.Core.List.Memᴰ.{not-nil as mem_nil}
use mathlib.Core.List.Memᴰ.{tail as there}
use mathlib.Core.List.{List, [], ◌++◌, ◌∷◌, map-append}
use Prim.Native.Nat.{◌+◌, ◌-◌, ◌<◌, ◌≤◌, suc, ℕ}
use native.Mathlib.Decide.{ℕ_discrete}
use native.Mathlib.Numerals.{add-one}
use native.Mathlib.Omega.{arith}
use lib.ListN.{drop, drop_of_length-le, get_or, get_or-replicate, length, length-map, length-replicate, length-set, replicate, set}
use lib.Seq.{drop-cons, get_or-set_other, get_or-set_same}
use borrow.Author.Tests.{le-ltb, lt-ltb}
use Rattle.lists.proofs.Distinct.{mem?}
use Rattle.lists.proofs.Members.{◌∈◌, member_in, member_out, not_snoc, snoc_new, snoc_old}
use Rattle.lists.proofs.Tests.{T_false, T_true}
use Rattle.lists.specs.Lists.{member, pick}
use Rattle.graph.proofs.Places.{place_here, place_new, place_old, place_there}
use Rattle.graph.specs.Paths.{Key, place_of}
use Rattle.paths.specs.Path.{entered_by, extended_by}
use Rattle.trace.specs.Trace.{end_by, entry_after, key_by, place_by, trace_from}

-- Entries

unfoldable pub entry_of : List ℕ → ℕ → ℕ
entry_of l v = pick (member v l) (suc (place_of l v)) 0

entry_in : (l : List ℕ) (v : ℕ) → v ∈ l → entry_of l v ≡ suc (place_of l v)
unfolding entry_of
entry_in l v m = rw ((T_true (member v l)).0 (member_in m))

entry_out : (l : List ℕ) (v : ℕ) → ¬ (v ∈ l) → entry_of l v ≡ 0
unfolding entry_of
entry_out l v f = rw ((T_false (member v l)).0 (λ t. f (member_out v l t)))

place_out : (l : List ℕ) (v : ℕ) → ¬ (v ∈ l) → place_of l v ≡ length l
unfolding place_of
place_out [] v f = refl
place_out (u ∷ l) v f = place_there u v l (λ e. f (here (sym e))) ∙ ap suc (place_out l v (λ m. f (there m)))

-- one node more: its entry, and those of the others
entry_new : (l : List ℕ) (x i : ℕ) → length l ≡ i + 1 → entry_of (l ++ (x ∷ [])) x ≡ entry_after (entry_of l x) i
unfolding entry_after
entry_new l x i e = elim (mem? ℕ_discrete x l) [
  | yes m ↦ rw (entry_in (l ++ (x ∷ [])) x (snoc_old x m), entry_in l x m, place_old l x m, lt-ltb 0 (suc (place_of l x)) (omega arith))
  | no f ↦ rw (entry_in (l ++ (x ∷ [])) x (snoc_new l x), entry_out l x f, place_new l x f) (omega arith)
]

entry_other : (l : List ℕ) (x v : ℕ) → ¬ (v ≡ x) → entry_of (l ++ (x ∷ [])) v ≡ entry_of l v
entry_other l x v d = elim (mem? ℕ_discrete v l) [
  | yes m ↦ rw (entry_in (l ++ (x ∷ [])) v (snoc_old x m), entry_in l v m, place_old l x m)
  | no f ↦ rw (entry_out (l ++ (x ∷ [])) v (not_snoc l f d), entry_out l v f)
]

-- The table of the entries of all nodes

abbrev pub Table : List ℕ → List ℕ → Type 0
Table entries l = (v : ℕ) → v < 256 → get_or entries v 0 ≡ entry_of l v

pub table_start : (n plant : ℕ) → n ≡ 256 → plant < n → Table (set (replicate n 0) plant 1) (plant ∷ [])
table_start n plant e h v b = elim (ℕ_discrete v plant) [
  | yes d ↦
      rw d
      (get_or-set_same (replicate n 0) plant 1 0 (rw (length-replicate {A = ℕ} n 0) h)
      ∙ sym (entry_in (plant ∷ []) plant (here refl) ∙ ap suc (place_here plant plant [] refl)))
  | no d ↦ get_or-set_other (replicate n 0) plant v 1 0 d ∙ (get_or-replicate {A = ℕ} n v 0 0 (omega arith) ∙ sym (entry_other [] plant v d ∙ entry_out [] v mem_nil))
]

pub table_length : (n plant : ℕ) → length (set (replicate {A = ℕ} n 0) plant 1) ≡ n
table_length n plant = length-set (replicate {A = ℕ} n 0) plant 1 ∙ length-replicate {A = ℕ} n 0

-- one step more, where there is room
pub extended_room : (keys : List Key) (k : Key) → length keys < 31 → extended_by keys k ≡ keys ++ (k ∷ [])
unfolding extended_by
extended_room keys k h = rw (lt-ltb (length keys) 31 h)

module _ (plant i : ℕ) (keys : List Key) (k : Key) (size : length keys ≡ i) (room : i < 31) where
  entered_next : entered_by plant (extended_by keys k) ≡ entered_by plant keys ++ (k.node ∷ [])
  entered_next = rw (extended_room keys k (omega arith), map-append (λ (k : Key). k.node) keys (k ∷ []))

  pub table_next : (entries : List ℕ) (x e : ℕ) → x ≡ k.node → e ≡ entry_after (get_or entries x 0) i → length entries ≡ 256 → x < 256
      → Table entries (entered_by plant keys) → Table (set entries x e) (entered_by plant (extended_by keys k))
  table_next entries x e a b c h at v below = rw entered_next (elim (ℕ_discrete v x) [
    | yes d ↦
        let size : length (entered_by plant keys) ≡ i + 1 = omega (arith, length-map keys (λ (k : Key). k.node)) in
        rw d (get_or-set_same entries x e 0 (rw c h) ∙ (b ∙ (rw (at x h, a) (sym (entry_new (entered_by plant keys) k.node i size)))))
    | no d ↦ get_or-set_other entries x v e 0 d ∙ (at v below ∙ sym (entry_other (entered_by plant keys) k.node v (λ q. d (q ∙ sym a))))
  ])

-- The step of a row, from the entries of its ends

module _ (firsts seconds entered : List ℕ) (r i : ℕ) where
  step_by : (a b : ℕ) → length entered ≡ i + 1
      → ◌≡◌ {A = Key}
      (record { place = place_by (entry_of entered a) (entry_of entered b) i; node = end_by (entry_of entered a) a b; row = r })
      (pick (member a entered) (record { place = place_of entered a; node = b; row = r }) (record { place = place_of entered b; node = a; row = r }))
  unfolding place_by end_by
  step_by a b size = elim (mem? ℕ_discrete a entered) [
    | yes m ↦
        let less : suc (place_of entered a) - 1 ≡ place_of entered a = omega arith in
        rw (entry_in entered a m, (T_true (member a entered)).0 (member_in m), lt-ltb 0 (suc (place_of entered a)) (omega arith), less)
    | no f ↦ rw (entry_out entered a f, (T_false (member a entered)).0 (λ t. f (member_out a entered t))) (elim (mem? ℕ_discrete b entered) [
      | yes m ↦
          let less : suc (place_of entered b) - 1 ≡ place_of entered b = omega arith in
          rw (entry_in entered b m, lt-ltb 0 (suc (place_of entered b)) (omega arith), less)
      | no g ↦ rw (entry_out entered b g, place_out entered b g, size)
    ])
  ]

  pub step_is : (a b first second : ℕ) → a ≡ get_or firsts r 0 → b ≡ get_or seconds r 0 → first ≡ entry_of entered a → second ≡ entry_of entered b
      → length entered ≡ i + 1
      → record { place = place_by first second i; node = end_by first a b; row = r } ≡ key_by firsts seconds entered r
  unfolding key_by
  step_is a b first second p q f s size = rw (f, s, ← p, ← q) (step_by a b size)

-- The path of rows, one step after the other

module _ (firsts seconds : List ℕ) (plant : ℕ) (rows : List ℕ) where
  -- a whole path, by one row more
  pub trace_next : {whole keys' : List Key} {k : Key} (keys : List Key) (i : ℕ) → i < length rows → whole ≡ trace_from firsts seconds plant keys (drop i rows)
      → keys' ≡ extended_by keys k → k ≡ key_by firsts seconds (entered_by plant keys) (get_or rows i 0) → whole ≡ trace_from firsts seconds plant keys' (drop (i + 1) rows)
  unfolding trace_from
  trace_next keys i h e p q = e ∙ (rw (drop-cons rows i 0 h, add-one, p, q))

  pub trace_over : (keys : List Key) (i : ℕ) → length rows ≤ i → trace_from firsts seconds plant keys (drop i rows) ≡ keys
  unfolding trace_from
  trace_over keys i h = rw (drop_of_length-le rows h)

-- no step is made behind 31
pub trace_full : (firsts seconds : List ℕ) (plant : ℕ) (keys : List Key) (rows : List ℕ) → 31 ≤ length keys → trace_from firsts seconds plant keys rows ≡ keys
unfolding trace_from extended_by
trace_full firsts seconds plant keys [] h = refl
trace_full firsts seconds plant keys (r ∷ rows) h = rw (le-ltb (length keys) 31 h) (trace_full firsts seconds plant keys rows h)

-- Nodes as sets: the members of `set_of` (`set_out`, `set_in`), the nodes but these (`fresh_set`), one node more (`set_snoc`, `sets_snoc`), and what the arrays of a path
-- hold at each place (`node_at`, `pivot_at_lem`, `set_at`) and of its first steps (`entered_part`, `holds_part`).
use mathlib.Core.Path.{◌∙◌, ◌≡◌, ap, refl, sym}
use mathlib.Core.Logic.{inl, inr, ⊎_elim}
use mathlib.Core.Bool.{Bool, false, not, true}
use mathlib.Core.List.Memᴰ.{cases_cons as mem_cases}
use mathlib.Core.List.Memᴰ.{head as here}
use mathlib.Core.List.Memᴰ.{not-nil as mem_nil}
use mathlib.Core.List.Memᴰ.{tail as there}
use mathlib.Core.List.{List, [], ◌++◌, ◌∷◌}
use Prim.Native.Nat.{◌<◌, ◌≤◌, suc, ℕ}
use native.Mathlib.Omega.{arith}
use lib.Bits.{bit_or, or_zero_r}
use lib.Dec.{T}
use lib.ListN.{get_or-map, get_or, length, length-map, take}
use lib.Seq.{ext_get_or, get_or-take, length-take-le, take_all, take-append_seam, take-suc, take-take}
use Rattle.lists.specs.Lists.{both, either, range}
use Rattle.lists.proofs.Maps.{map_take}
use Rattle.lists.proofs.Members.{◌∈◌, length_snoc}
use Rattle.lists.proofs.Ranges.{get_or_map_range, range_length}
use Rattle.lists.proofs.Tests.{T-either}
use Rattle.graph.specs.Paths.{Key}
use Rattle.words.specs.Words.{bit, has, minus}
use Rattle.words.proofs.Words.{bit_in, bit_out, has_minus, has_or, has_zero, or_assoc, words_same}
use Rattle.paths.specs.Path.{entered_by, no_key}
use Rattle.grow.specs.Grow.{fresh_after}
use Rattle.trail.specs.Trail.{Holds, set_of, sets_by}

-- Members

pub set_out : (l : List ℕ) (v : ℕ) → T (has (set_of l) v) → v ∈ l
unfolding set_of
set_out [] v t = absurd (rw has_zero at t)
set_out (u ∷ l) v t = ⊎_elim (λ b. here (sym (bit_out u v b))) (λ s. there (set_out l v s)) ((T-either (has (bit u) v) (has (set_of l) v)).0 (rw has_or at t))

pub set_in : (l : List ℕ) (v : ℕ) → v < 64 → v ∈ l → T (has (set_of l) v)
unfolding set_of
set_in [] v h m = absurd (mem_nil m)
set_in (u ∷ l) v h m = rw has_or ((T-either (has (bit u) v) (has (set_of l) v)).1 (⊎_elim (λ e. inl (bit_in u v h (sym e))) (λ i. inr (set_in l v h i)) (mem_cases m)))

-- the nodes but these, one by one and at once
minus_none : (w : ℕ) → w ≡ minus w 0
minus_none w = words_same w (minus w 0) (λ v. simp (has_minus, has_zero) (all (has w v)))
  where
    all : (x : Bool) → x ≡ both x true
    all true = refl
    all false = refl

minus_or : (w a b : ℕ) → minus (minus w a) b ≡ minus w (bit_or a b)
minus_or w a b = words_same (minus (minus w a) b) (minus w (bit_or a b)) (λ v. simp (has_minus, has_or) (both_not (has w v) (has a v) (has b v)))
  where
    both_not : (x y z : Bool) → both (both x (not y)) (not z) ≡ both x (not (either y z))
    both_not false y z = refl
    both_not true false z = refl
    both_not true true z = refl

pub fresh_set : (l : List ℕ) (nodes : ℕ) → fresh_after nodes l ≡ minus nodes (set_of l)
unfolding fresh_after set_of
fresh_set [] nodes = minus_none nodes
fresh_set (v ∷ l) nodes = fresh_set l (minus nodes (bit v)) ∙ minus_or nodes (bit v) (set_of l)

-- One node more

pub set_snoc : (l : List ℕ) (v : ℕ) → set_of (l ++ (v ∷ [])) ≡ bit_or (set_of l) (bit v)
unfolding set_of
set_snoc [] v = or_zero_r (bit v)
set_snoc (u ∷ l) v = ap (bit_or (bit u)) (set_snoc l v) ∙ sym (or_assoc (bit u) (set_of l) (bit v))

module _ (l : List ℕ) where
  pub sets_length : length (sets_by l) ≡ length l
  unfolding sets_by
  sets_length = length-map (range 0 (length l)) _ ∙ range_length 0 (length l)

  pub sets_one : (i : ℕ) → i < length l → get_or (sets_by l) i 0 ≡ set_of (take (suc i) l)
  unfolding sets_by
  sets_one i h = get_or_map_range (λ i. set_of (take (suc i) l)) (length l) i 0 h

-- the sets of the first nodes
pub sets_part : (k : ℕ) (l : List ℕ) → k ≤ length l → take k (sets_by l) ≡ sets_by (take k l)
sets_part k l h =
    let short = length-take-le k l h in
    let left = length-take-le k (sets_by l) (omega (arith, sets_length l)) in
    ext_get_or 0 (take k (sets_by l)) (sets_by (take k l)) (left ∙ sym (sets_length (take k l) ∙ short))
    (λ i a. let below : i < k = omega arith in
    get_or-take k (sets_by l) i 0 below ∙ sets_one l i (omega arith) ∙ ap set_of (sym (take-take (suc i) k l (omega arith))) ∙ sym (sets_one (take k l) i (omega arith)))

pub sets_snoc : (l : List ℕ) (v : ℕ) → sets_by (l ++ (v ∷ [])) ≡ sets_by l ++ (bit_or (set_of l) (bit v) ∷ [])
sets_snoc l v =
    let more = l ++ (v ∷ []) in
    let long = length_snoc l v in
    let all = sets_length more in
    let first : take (length l) (sets_by more) ≡ sets_by l = sets_part (length l) more (omega arith) ∙ ap sets_by (take-append_seam l (v ∷ [])) in
    let last : get_or (sets_by more) (length l) 0 ≡ bit_or (set_of l) (bit v) =
    sets_one more (length l) (omega arith) ∙ ap set_of (take_all (suc (length l)) more (omega arith)) ∙ set_snoc l v in
    sym (take_all (suc (length l)) (sets_by more) (omega arith)) ∙ take-suc (sets_by more) (length l) 0 (omega arith) ∙ (rw (first, last))

-- The nodes entered after the first steps of a path

pub entered_take : (plant i : ℕ) (keys : List Key) → take (suc i) (entered_by plant keys) ≡ entered_by plant (take i keys)
entered_take plant i keys = ap (λ (l : List ℕ). plant ∷ l) (sym (map_take (λ (k : Key). k.node) i keys))

pub entered_length : (plant : ℕ) (keys : List Key) → length (entered_by plant keys) ≡ suc (length keys)
entered_length plant keys = ap suc (length-map keys (λ (k : Key). k.node))

-- What the arrays hold

module _ {entered pivots sets : List ℕ} {plant : ℕ} {keys : List Key} (h : Holds entered pivots sets plant keys) where
  pub entered_part : (i : ℕ) → i ≤ length keys → take (suc i) entered ≡ entered_by plant (take i keys)
  entered_part i b = sym (take-take (suc i) (suc (length keys)) entered (omega arith)) ∙ ap (take (suc i)) h.nodes_are ∙ entered_take plant i keys

  pub node_at : (i : ℕ) → i < length keys → get_or entered (suc i) 0 ≡ (get_or keys i no_key).node
  node_at i b =
      sym (get_or-take (suc (length keys)) entered (suc i) 0 (omega arith)) ∙ ap (λ (l : List ℕ). get_or l (suc i) 0) h.nodes_are ∙ get_or-map (λ (k : Key). k.node) keys i no_key

  pub pivot_at_lem : (i : ℕ) → i < length keys → get_or pivots i 0 ≡ (get_or keys i no_key).place
  pivot_at_lem i b = sym (get_or-take (length keys) pivots i 0 b) ∙ ap (λ (l : List ℕ). get_or l i 0) h.pivots_are ∙ get_or-map (λ (k : Key). k.place) keys i no_key

  pub set_at : (i : ℕ) → i ≤ length keys → get_or sets i 0 ≡ set_of (entered_by plant (take i keys))
  set_at i b =
      sym (get_or-take (suc (length keys)) sets i 0 (omega arith)) ∙ ap (λ (l : List ℕ). get_or l i 0) h.sets_are
      ∙ sets_one (entered_by plant keys) i (omega (arith, entered_length plant keys)) ∙ ap set_of (entered_take plant i keys)

  pub holds_part : (n : ℕ) → n ≤ length keys → Holds entered pivots sets plant (take n keys)
  holds_part n b = let short = length-take-le n keys b in record {
    few = omega (arith, h.few);
    nodes_long = h.nodes_long;
    pivots_long = h.pivots_long;
    sets_long = h.sets_long;
    nodes_are = rw short (entered_part n b);
    pivots_are = rw short (sym (take-take n (length keys) pivots b) ∙ ap (take n) h.pivots_are ∙ sym (map_take (λ (k : Key). k.place) n keys));
    sets_are = rw short (sym (take-take (suc n) (suc (length keys)) sets (omega arith)) ∙ ap (take (suc n)) h.sets_are
        ∙ sets_part (suc n) (entered_by plant keys) (omega (arith, entered_length plant keys)) ∙ ap sets_by (entered_take plant n keys));
  }

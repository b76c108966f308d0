-- Laws of the count: links may stand in any sequence (`count_swap`, `count_held`), links between the same nodes are one (`count_beside`), and a
-- network that falls apart counts 0 (`count_apart`).
use mathlib.Core.Path.{◌∙◌, ◌≡◌, ap₂, refl, sym}
use mathlib.Core.Logic.{◌⊎◌, inl, inr}
use mathlib.Core.Bool.{Bool, false, true}
use mathlib.Core.List.Memᴰ.{head as here}
use mathlib.Core.List.Memᴰ.{tail as there}
use mathlib.Core.List.{List, [], ◌++◌, ◌∷◌}
use Prim.Native.Nat.{◌*◌, ◌+◌, ℕ}
use native.Mathlib.Decide.{ℕ_discrete}
use native.Mathlib.Omega.{arith}
use lib.Dec.{eqb, eqb→eq}
use Rattle.lists.specs.Lists.{pick}
use Rattle.lists.proofs.Members.{◌∈◌, ◌⊆◌}
use Rattle.lists.proofs.Tests.{T_false, T_true, eq→eqb}
use Rattle.forests.specs.Forests.{rename}
use Rattle.counts.specs.Counting.{Link, Weight, beside, count, link, weigh}
use Rattle.counts.specs.Trees.{unite}
use Rattle.counts.proofs.Labels.{Coarser, unite_coarser, unite_exchange, unite_joins, unite_least, unite_out, unite_swap}
use Rattle.counts.proofs.Alike.{Within, count_same, whole_differ}

-- A coarser labelling both ways counts the same

abbrev all_nodes : List ℕ → List Link → List ℕ
all_nodes ns [] = ns
all_nodes ns (e ∷ es) = e.one ∷ e.other ∷ all_nodes ns es

pub within_more : {N M : List ℕ} → N ⊆ M → (es : List Link) → Within N es → Within M es
within_more s [] w = tt
within_more s (e ∷ es) w = ((s e.one w.0.0, s e.other w.0.1), within_more s es w.1)

within_all : (ns : List ℕ) (es : List Link) → Within (all_nodes ns es) es
within_all ns [] = tt
within_all ns (e ∷ es) = ((here refl, there (here refl)), within_more (λ v i. there (there i)) es (within_all ns es))

part_all : (ns : List ℕ) (es : List Link) → ns ⊆ all_nodes ns es
part_all ns [] v i = i
part_all ns (e ∷ es) v i = there (there (part_all ns es v i))

pub count_equal : (ns : List ℕ) (lab bal : ℕ → ℕ) (es : List Link) → Coarser lab bal → Coarser bal lab → count ns lab es ≡ count ns bal es
count_equal ns lab bal es f h = count_same (all_nodes ns es) ns lab bal es (within_all ns es) (part_all ns es) (λ u v i j. (f u v, h u v))

module _ (ns : List ℕ) where
  -- the ways of a link's ends merged
  abbrev pub merged_count : (ℕ → ℕ) → ℕ → ℕ → List Link → ℕ
  merged_count lab a b es = pick (eqb (lab a) (lab b)) 0 (count ns (unite lab a b) es)

  pub count_cons : (lab : ℕ → ℕ) (e : Link) (es : List Link)
      → count ns lab (e ∷ es) ≡ e.weight.dropped * count ns lab es + e.weight.merged * merged_count lab e.one e.other es
  unfolding count
  count_cons lab e es = refl

  pub merged_loop : (lab : ℕ → ℕ) (a b : ℕ) (es : List Link) → lab a ≡ lab b → merged_count lab a b es ≡ 0
  merged_loop lab a b es e = rw ((T_true (eqb (lab a) (lab b))).0 (eq→eqb _ _ e))

  pub merged_apart : (lab : ℕ → ℕ) (a b : ℕ) (es : List Link) → ¬ (lab a ≡ lab b) → merged_count lab a b es ≡ count ns (unite lab a b) es
  merged_apart lab a b es n = rw ((T_false (eqb (lab a) (lab b))).0 (λ t. n (eqb→eq _ _ t)))

  pub count_loop : (lab : ℕ → ℕ) (e : Link) (es : List Link) → lab e.one ≡ lab e.other → count ns lab (e ∷ es) ≡ e.weight.dropped * count ns lab es
  count_loop lab e es h = count_cons lab e es ∙ rw (merged_loop lab e.one e.other es h) (omega arith)

  pub count_pair : (lab : ℕ → ℕ) (e : Link) (es : List Link) → ¬ (lab e.one ≡ lab e.other)
      → count ns lab (e ∷ es) ≡ e.weight.dropped * count ns lab es + e.weight.merged * count ns (unite lab e.one e.other) es
  count_pair lab e es n = count_cons lab e es ∙ rw (merged_apart lab e.one e.other es n) refl

  -- what counts the same behind every labelling does so behind a link more
  pub count_behind : (e : Link) (es fs : List Link) → ((lab : ℕ → ℕ) → count ns lab es ≡ count ns lab fs) → (lab : ℕ → ℕ) → count ns lab (e ∷ es) ≡ count ns lab (e ∷ fs)
  count_behind e es fs h lab = count_cons lab e es
      ∙ ap₂ (λ (x y : ℕ). e.weight.dropped * x + e.weight.merged * pick (eqb (lab e.one) (lab e.other)) 0 y) (h lab) (h (unite lab e.one e.other))
      ∙ sym (count_cons lab e fs)

  -- SWAP
  module _ (e f : Link) (es : List Link) where
    abbrev a : ℕ
    a = e.one

    abbrev b : ℕ
    b = e.other

    abbrev c : ℕ
    c = f.one

    abbrev d : ℕ
    d = f.other

    -- both merged, in either order
    both_merged : (lab : ℕ → ℕ) → ¬ (lab a ≡ lab b) → ¬ (lab c ≡ lab d) → merged_count (unite lab a b) c d es ≡ merged_count (unite lab c d) a b es
    both_merged lab p q = elim (ℕ_discrete (unite lab a b c) (unite lab a b d)) [
      | yes h ↦ merged_loop (unite lab a b) c d es h ∙ sym (merged_loop (unite lab c d) a b es (unite_exchange lab a b c d h q))
      | no n ↦ merged_apart (unite lab a b) c d es n
          ∙ count_equal ns (unite (unite lab a b) c d) (unite (unite lab c d) a b) es (unite_swap lab a b c d) (unite_swap lab c d a b)
          ∙ sym (merged_apart (unite lab c d) a b es (λ h. n (unite_exchange lab c d a b h p)))
    ]

    pub count_swap : (lab : ℕ → ℕ) → count ns lab (e ∷ f ∷ es) ≡ count ns lab (f ∷ e ∷ es)
    count_swap lab = elim (ℕ_discrete (lab a) (lab b)) [
      | yes p ↦ elim (ℕ_discrete (lab c) (lab d)) [
        | yes q ↦ rw (count_loop lab e (f ∷ es) p, count_loop lab f es q, count_loop lab f (e ∷ es) q, count_loop lab e es p) (omega arith)
        | no q ↦ rw (
          count_loop lab e (f ∷ es) p,
          count_pair lab f es q,
          count_pair lab f (e ∷ es) q,
          count_loop lab e es p,
          count_loop (unite lab c d) e es (unite_coarser lab c d a b p),
        ) (omega arith)
      ]
      | no p ↦ elim (ℕ_discrete (lab c) (lab d)) [
        | yes q ↦ rw (
          count_pair lab e (f ∷ es) p,
          count_loop lab f es q,
          count_loop lab f (e ∷ es) q,
          count_pair lab e es p,
          count_loop (unite lab a b) f es (unite_coarser lab a b c d q),
        ) (omega arith)
        | no q ↦ rw (
          count_pair lab e (f ∷ es) p,
          count_pair lab f (e ∷ es) q,
          count_pair lab f es q,
          count_pair lab e es p,
          count_cons (unite lab a b) f es,
          count_cons (unite lab c d) e es,
          both_merged lab p q,
        ) (omega arith)
      ]
    ]

-- Links with e among them, and the others

pub data Holds (e : Link) : List Link → List Link → Type 0 where
  first : {es : List Link} → Holds e (e ∷ es) es
  later : {g : Link} {es rest : List Link} → Holds e es rest → Holds e (g ∷ es) (g ∷ rest)

pub holds_behind : (l : List Link) {e : Link} {es rest : List Link} → Holds e es rest → Holds e (l ++ es) (l ++ rest)
holds_behind [] h = h
holds_behind (g ∷ l) h = later (holds_behind l h)

pub holds_before : (l : List Link) {e : Link} {es rest : List Link} → Holds e es rest → Holds e (es ++ l) (rest ++ l)
holds_before l first = first
holds_before l (later h) = later (holds_before l h)

-- ANY SEQUENCE
pub count_held : (ns : List ℕ) {e : Link} {es rest : List Link} → Holds e es rest → (lab : ℕ → ℕ) → count ns lab es ≡ count ns lab (e ∷ rest)
count_held ns first lab = refl
count_held ns {e} (later {g} {es} {rest} h) lab = count_behind ns g es (e ∷ rest) (count_held ns h) lab ∙ count_swap ns g e rest lab

-- the nodes have two sides, and no link leads from one to the other
abbrev pub Sided : (ℕ → Bool) → List Link → Type 0
Sided side [] = Unit {0}
Sided side (e ∷ es) = ((e.weight.merged ≡ 0) ⊎ (side e.one ≡ side e.other)) × Sided side es

module _ (ns : List ℕ) where
  -- a link that joins nothing
  pub count_absent : (lab : ℕ → ℕ) (a b : ℕ) (es : List Link) → count ns lab (link a b (weigh 1 0) ∷ es) ≡ count ns lab es
  count_absent lab a b es = count_cons ns lab (link a b (weigh 1 0)) es ∙ (omega arith)

  -- BESIDE: two links between the same nodes are one
  pub count_beside : (lab : ℕ → ℕ) (a b : ℕ) (p q : Weight) (es : List Link)
      → count ns lab (link a b p ∷ link a b q ∷ es) ≡ count ns lab (link a b (beside q p) ∷ es)
  count_beside lab a b p q es = elim (ℕ_discrete (lab a) (lab b)) [
    | yes h ↦ rw (count_loop ns lab (link a b p) (link a b q ∷ es) h, count_loop ns lab (link a b q) es h, count_loop ns lab (link a b (beside q p)) es h) (omega arith)
    | no n ↦ rw (
      count_pair ns lab (link a b p) (link a b q ∷ es) n,
      count_pair ns lab (link a b q) es n,
      count_pair ns lab (link a b (beside q p)) es n,
      count_loop ns (unite lab a b) (link a b q) es (unite_joins lab a b),
    ) (omega arith)
  ]

  -- the ends may change places, and be replaced by nodes with their labels
  pub count_flip : (lab : ℕ → ℕ) (a b : ℕ) (p : Weight) (es : List Link) → count ns lab (link a b p ∷ es) ≡ count ns lab (link b a p ∷ es)
  count_flip lab a b p es = elim (ℕ_discrete (lab a) (lab b)) [
    | yes h ↦ rw (count_loop ns lab (link a b p) es h, count_loop ns lab (link b a p) es (sym h)) refl
    | no n ↦ rw (
      count_pair ns lab (link a b p) es n,
      count_pair ns lab (link b a p) es (λ h. n (sym h)),
      count_equal ns (unite lab a b) (unite lab b a) es (turn a b) (turn b a),
    ) refl
  ]
    where
      turn : (a b : ℕ) → Coarser (unite lab a b) (unite lab b a)
      turn a b = unite_least lab a b (unite lab b a) (unite_coarser lab b a) (sym (unite_joins lab b a))

  pub count_ends : (lab : ℕ → ℕ) (a b c d : ℕ) (p : Weight) (es : List Link) → lab a ≡ lab c → lab b ≡ lab d
      → count ns lab (link a b p ∷ es) ≡ count ns lab (link c d p ∷ es)
  count_ends lab a b c d p es h k = count_cons ns lab (link a b p) es
      ∙ ap₂ (λ (x y : ℕ). p.dropped * count ns lab es + p.merged * pick (eqb x y) 0 (count ns (λ v. rename x y (lab v)) es)) h k
      ∙ sym (count_cons ns lab (link c d p) es)

  -- APART
  pub count_apart : (side : ℕ → Bool) (lab : ℕ → ℕ) (es : List Link) → Sided side es → ((u v : ℕ) → lab u ≡ lab v → side u ≡ side v)
      → (u v : ℕ) → u ∈ ns → v ∈ ns → ¬ (side u ≡ side v) → count ns lab es ≡ 0
  unfolding count
  count_apart side lab [] s h u v i j n = whole_differ ns lab u v i j (λ e. n (h u v e))
  count_apart side lab (e ∷ es) (inl z, s) h u v i j n = rw (z, count_apart side lab es s h u v i j n) (omega arith)
  count_apart side lab (e ∷ es) (inr z, s) h u v i j n =
      rw (count_apart side lab es s h u v i j n, count_apart side (unite lab e.one e.other) es s up u v i j n) (none (eqb (lab e.one) (lab e.other)))
    where
      up : (u v : ℕ) → unite lab e.one e.other u ≡ unite lab e.one e.other v → side u ≡ side v
      up u v k = elim (unite_out lab e.one e.other u v k) [
        | inl p ↦ h u v p
        | inr t ↦ elim t [
          | inl (p, q) ↦ h u e.one p ∙ z ∙ sym (h v e.other q)
          | inr (p, q) ↦ h u e.other p ∙ sym z ∙ sym (h v e.one q)
        ]
      ]

      none : (t : Bool) → e.weight.dropped * 0 + e.weight.merged * pick t 0 0 ≡ 0
      none true = omega arith
      none false = omega arith

-- BEGINS: a spanning tree with the rows of a prefix whose other rows may all come behind it has a minimal path that begins with the prefix (`tree_begins`). So a search with the
-- rows of the prefix in, and the rows that may come to choose from, finds trees of the branch only.
use mathlib.Core.Path.{◌∙◌, ◌≡◌, ap, refl, subst, sym}
use mathlib.Core.Logic.{◌⊎◌, inl, inr, ⊎_elim}
use mathlib.Core.Bool.{not}
use mathlib.Core.Option.{Option, some}
use mathlib.Core.List.{List, [], ◌++◌, ◌∷◌}
use mathlib.Core.List.Memᴰ.{append_left}
use mathlib.Core.List.Memᴰ.{cases_cons as mem_cases}
use mathlib.Core.List.Memᴰ.{head as here}
use mathlib.Core.List.Memᴰ.{cast as mem_cast}
use mathlib.Core.List.Memᴰ.{not-nil as mem_nil}
use mathlib.Core.List.Memᴰ.{tail as there}
use Prim.Native.Nat.{ℕ}
use native.Mathlib.Decide.{ℕ_discrete}
use native.Mathlib.Omega.{arith}
use lib.Dec.{T, T_not, eqb, eqb→eq}
use Rattle.lists.specs.Lists.{any, both, member}
use Rattle.lists.proofs.Distinct.{filled, mem?}
use Rattle.lists.proofs.Members.{◌∈◌, ◌⊆◌, any_out, filter_out, member_in, snoc_new, snoc_old}
use Rattle.lists.proofs.Tests.{T-both, T-either}
use Rattle.graph.specs.Graph.{Graph, first_end, is_tree, row_numbers, second_end}
use Rattle.graph.specs.Paths.{Key, follows, is_minimal, place_of, steps}
use Rattle.graph.proofs.Growth.{Joins, Live, Reaches, State, after, back, direct, forth, onward, rows_of, start}
use Rattle.graph.proofs.Keys.{Lex, follows_out}
use Rattle.graph.proofs.Least.{sufficient}
use Rattle.graph.proofs.Minimal.{WellFormed, minimal_in, sound_start}
use Rattle.graph.proofs.Tree.{completion_tree, tree_out}
use Rattle.graph.proofs.Unique.{rows_usable}
use Rattle.graph.proofs.Walk.{Legals, completion_join, sound_walk, state_after}
use Rattle.bounds.specs.Bounds.{allowed, begins, entered_by, keys_or, last_key, missing, no_key, opens}
use Rattle.bounds.proofs.After.{legals_steps}
use Rattle.bounds.proofs.Missing.{entered_is, state_entered}
use Rattle.bounds.proofs.Prefix.{begins_in, rows_of_append}
use Rattle.bounds.proofs.Sharp.{state_last}
use Rattle.forests.proofs.Joined.{Joined, joins_same, stay, walk}
use Rattle.forests.proofs.Spanning.{tree_spans}
use Rattle.completions.specs.Coming.{lies, may_come}

module _ (g : Graph) where
  entered_more : (s : State) (ks : List Key) {v : ℕ} → v ∈ s.entered → v ∈ (state_after s ks).entered
  entered_more s ks {v} m = subst (λ (l : List ℕ). v ∈ l) (sym (state_entered s ks)) (append_left _ m)

  -- the rows of steps lie between nodes that they have entered
  ends_entered : (rs : List ℕ) (s : State) (ks : List Key) {r u v : ℕ} → Legals g rs s ks → r ∈ rows_of ks → Joins g r u v → v ∈ (state_after s ks).entered
  ends_entered rs s [] a m o = absurd (mem_nil m)
  ends_entered rs s (k ∷ ks) {r} {u} {v} a m o = ⊎_elim
      (λ (e : r ≡ k.row). entered_more (after s k) ks (⊎_elim
      (λ (x, y). mem_cast y (snoc_new s.entered k.node))
      (λ (x, y). mem_cast y (snoc_old k.node a.0.step.leaves))
      (joins_same a.0.step.joined (subst (λ (q : ℕ). Joins g q u v) e o))))
      (λ (i : r ∈ rows_of ks). ends_entered rs (after s k) ks a.1 i o)
      (mem_cases m)

  legals_reuse : (rs qs : List ℕ) (s : State) (ks : List Key) → Legals g rs s ks → rows_of ks ⊆ qs → Legals g qs s ks
  legals_reuse rs qs s [] a h = tt
  legals_reuse rs qs s (k ∷ ks) a h =
      (record { step = a.0.step; usable = h k.row (here refl); above = a.0.above }, legals_reuse rs qs (after s k) ks a.1 (λ q m. h q (there m)))

module _ (g : Graph) (wf : WellFormed g) (js : List Key) (a : Legals g (row_numbers g) (start g) js) (p : List ℕ) (t : T (is_tree g p)) (has : rows_of js ⊆ p)
    (come : (r : ℕ) → r ∈ p → ¬ (r ∈ rows_of js) → T (may_come g (rows_of js) r)) where
  abbrev s : State
  s = state_after (start g) js

  abbrev May : List ℕ → Key → ℕ → Type 0
  May l k r = (x : ℕ) × (¬ (x ∈ l)) × T (allowed g l k x r)

  made : steps g (rows_of js) ≡ some js
  made = legals_steps g (row_numbers g) (start g) js a

  -- a row that may come may enter a node that is not entered
  comes : (r : ℕ) → T (may_come g (rows_of js) r) → May s.entered (last_key no_key js) r
  unfolding may_come
  comes r c =
      subst (λ (l : List ℕ). May l (last_key no_key js) r) (entered_is g (rows_of js) js made)
      (subst (λ (k : Key). May (entered_by g (rows_of js)) k r) (ap (λ (o : Option (List Key)). last_key no_key (keys_or o)) made)
      (may_of (entered_by g (rows_of js)) (last_key no_key (keys_or (steps g (rows_of js)))) r ((T-both (lies g r) (any _ _)).0 c).1))
    where
      may_of : (l : List ℕ) (k : Key) (r : ℕ) → T (any (λ x. allowed g l k x r) (missing g l)) → May l k r
      may_of l k r t =
          let (x, i, h) = any_out (λ x. allowed g l k x r) (missing g l) t in
          let (j, out) = filter_out (λ x. not (member x l)) g.nodes i in
          (x, λ z. T_not (member x l) out (member_in z), h)

  -- from an entered node it may be stepped
  steps_on : (r u v : ℕ) → T (may_come g (rows_of js) r) → Joins g r u v → u ∈ s.entered → ¬ (v ∈ s.entered) → Lex s.place s.node (place_of s.entered u) v
  steps_on r u v c o m n =
      let (x, new, h) = comes r c in
      ⊎_elim
      (λ b. let (e, w) = (T-both (eqb (second_end g r) x) (opens s.entered (last_key no_key js) (first_end g r) x)).0 b in
      side (second_end g r) (first_end g r) x new (eqb→eq (second_end g r) x e) w (second o))
      (λ b. let (e, w) = (T-both (eqb (first_end g r) x) (opens s.entered (last_key no_key js) (second_end g r) x)).0 b in
      side (first_end g r) (second_end g r) x new (eqb→eq (first_end g r) x e) w (first o))
      ((T-either (both (eqb (second_end g r) x) (opens s.entered (last_key no_key js) (first_end g r) x)) (both (eqb (first_end g r) x) (opens s.entered (last_key no_key js) (second_end g r) x))).0 h)
    where
      -- the ends a (to be entered) and b of the row
      side : (a b x : ℕ) → ¬ (x ∈ s.entered) → a ≡ x → T (opens s.entered (last_key no_key js) b x) → ((a ≡ v) × (b ≡ u)) ⊎ ((a ≡ u) × (b ≡ v))
          → Lex s.place s.node (place_of s.entered u) v
      side a b x new e w (inr (f, h)) = absurd (new (mem_cast (sym e ∙ f) m))
      side a b x new e w (inl (f, h)) =
          let (q, z) = state_last (start g) no_key js refl refl in
          let at_v : x ≡ v = sym e ∙ f in
          ⊎_elim
          (λ k. absurd (T_not (member b s.entered) k (member_in (mem_cast h m))))
          (λ k. rw (q, z, ← h, ← at_v) (follows_out (last_key no_key js) (record { place = place_of s.entered b; node = x; row = 0 }) k))
          ((T-either (not (member b s.entered)) (follows (last_key no_key js) (record { place = place_of s.entered b; node = x; row = 0 }))).0 w)

      second : Joins g r u v → ((second_end g r ≡ v) × (first_end g r ≡ u)) ⊎ ((second_end g r ≡ u) × (first_end g r ≡ v))
      second (forth x y) = inl (y, x)
      second (back x y) = inr (y, x)

      first : Joins g r u v → ((first_end g r ≡ v) × (second_end g r ≡ u)) ⊎ ((first_end g r ≡ u) × (second_end g r ≡ v))
      first (forth x y) = inr (x, y)
      first (back x y) = inl (x, y)

  reached : {v : ℕ} → Joined g p g.plant v → (v ∈ s.entered) ⊎ Reaches g p s v
  reached (stay m e) = inl (entered_more g (start g) js (here (sym e)))
  reached (walk {r = r} {w = u} {v = v} j i o m) = elim (mem? ℕ_discrete v s.entered) [
    | yes k ↦ inl k
    | no n ↦ inr (⊎_elim
        (λ (k : u ∈ s.entered). direct (record {
          step = record { pivot = u; joined = o; leaves = k; enters = m; fresh = n; stands = refl };
          usable = i;
          above = steps_on r u v (come r i (λ z. n (ends_entered g (row_numbers g) (start g) js a z o))) o k n;
        }) refl)
        (λ (k : Reaches g p s u). onward k i o m n)
        (reached j))
  ]

  live : Live g p s
  live v m n = ⊎_elim (λ k. absurd (n k)) (λ k. k) (reached (tree_spans g wf p t v m))

  pub tree_begins : (q : List ℕ) × T (is_minimal g q) × T (begins (rows_of js) q) × (q ⊆ p) × (p ⊆ q)
  tree_begins =
      let b = legals_reuse g (row_numbers g) p (start g) js a has in
      let (ks, c) = sufficient g p s (sound_walk g (row_numbers g) (start g) js (sound_start g wf) a) live in
      let whole = completion_join g p (start g) js ks b c.completes in
      let q_tree = completion_tree g wf p (js ++ ks) whole in
      let inside = rows_usable g p (start g) (js ++ ks) whole in (
        rows_of (js ++ ks),
        minimal_in g wf p (js ++ ks) whole,
        rw rows_of_append (begins_in (rows_of js) (rows_of ks)),
        inside,
        filled ℕ_discrete (rows_of (js ++ ks)) p q_tree.once inside (omega (arith, q_tree.size, (tree_out g p t).size)),
      )

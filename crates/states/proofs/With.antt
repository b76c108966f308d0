-- The trees with all of the rows `musts`: they are the rows of the start's completions with these rows (`with_of`, `on_fulls`). There is one exactly if the graph is
-- joined and the rows are a forest (`with_exists`), which least accepted steps decide (`accepts_decide`). The first, the next, and the next past all that begin
-- alike come from completions (`first_with_lem`, `next_with`, `last_with`, `after_with`, `none_after_with`).
use mathlib.Core.Path.{◌≡◌, ap, refl, subst, sym}
use mathlib.Core.Logic.{◌↔◌, ◌⊎◌, ⊎_elim}
use mathlib.Core.List.Memᴰ.{head as here}
use mathlib.Core.List.Memᴰ.{not-nil as mem_nil}
use mathlib.Core.List.{List, [], ◌++◌, ◌∷◌}
use Prim.Native.Nat.{ℕ}
use native.Mathlib.Omega.{arith}
use lib.Dec.{T}
use lib.ListN.{drop, length, take, take-append-drop}
use lib.Seq.{take_all, take-length}
use Rattle.lists.specs.Lists.{has_all}
use Rattle.lists.proofs.Distinct.{Distinct}
use Rattle.lists.proofs.Members.{◌∈◌, ◌⊆◌, filter_in, filter_out, has_all_in, has_all_out}
use Rattle.lists.proofs.Tests.{decide}
use Rattle.graph.specs.Graph.{Graph, row_numbers}
use Rattle.graph.specs.Paths.{Key, is_minimal, path_less, trees}
use Rattle.graph.proofs.Growth.{Completion, Legal, Live, State, after, rows_of, rows_of_length, start}
use Rattle.graph.proofs.Listing.{AtMost, path_less_in, path_less_out, at_most}
use Rattle.graph.proofs.Minimal.{WellFormed, Whole, minimal_in, sound_start, whole_of}
use Rattle.graph.proofs.Parts.{FirstIn, LastIn, NextIn, Part, filter_part, trees_part}
use Rattle.graph.proofs.Tree.{live_exists, minimal_tree, tree_minimal}
use Rattle.graph.proofs.Trees.{trees_minimal}
use Rattle.graph.proofs.Walk.{Legals, completion_part, state_after}
use Rattle.forests.proofs.Forest.{Forest}
use Rattle.forests.proofs.Spanning.{must_have}
use Rattle.bounds.specs.Bounds.{begins}
use Rattle.bounds.proofs.After.{begins_keys, rows_of_take}
use Rattle.bounds.proofs.Beyond.{Beyond, beyond_above, beyond_leaves, beyond_or_begins}
use Rattle.bounds.proofs.Prefix.{AfterIn, NoneAfterIn, after_last_in, after_next_in, begins_in, rows_of_append}
use Rattle.states.specs.States.{trees_with}
use Rattle.states.proofs.Rest.{Begun}
use Rattle.states.proofs.Full.{Accepted, Full, LeastFull}
use Rattle.states.proofs.Due.{Accepts, accepts_end, accepts_least, accepts_legal, due_all}
use Rattle.states.proofs.Beyond.{NextFull, NoneFull}

pub begun_start : (g : Graph) → WellFormed g → Begun g (start g)
begun_start g wf = record { sound = sound_start g wf; plant = here refl }

-- legal steps are a completion exactly if they enter all nodes
completion_entered : (g : Graph) (s : State) (ks : List Key) → Completion g (row_numbers g) s ks → g.nodes ⊆ (state_after s ks).entered
completion_entered g s [] c = c
completion_entered g s (k ∷ ks) c = completion_entered g (after s k) ks c.1

entered_completion : (g : Graph) (s : State) (ks : List Key) → Legals g (row_numbers g) s ks → g.nodes ⊆ (state_after s ks).entered → Completion g (row_numbers g) s ks
entered_completion g s [] a w = w
entered_completion g s (k ∷ ks) a w = (a.0, entered_completion g (after s k) ks a.1 w)

-- The list

module _ (g : Graph) (musts : List ℕ) where
  pub with_part_lem : Part g (trees_with g musts)
  with_part_lem = filter_part (has_all musts) (trees_part g)

module _ (g : Graph) (wf : WellFormed g) (musts : List ℕ) where
  pub with_mem : (p : List ℕ) → (p ∈ trees_with g musts) ↔ (T (is_minimal g p) × (musts ⊆ p))
  with_mem p = (
    λ m. let (i, t) = filter_out (has_all musts) (trees g) m in ((trees_minimal g wf p).0 i, has_all_out musts p t),
    λ (t, w). filter_in (has_all musts) ((trees_minimal g wf p).1 t) (has_all_in musts p w),
  )

  pub with_of : (ks : List Key) → Full g (start g) musts ks → rows_of ks ∈ trees_with g musts
  with_of ks f = (with_mem (rows_of ks)).1 (minimal_in g wf (row_numbers g) ks f.completes, f.all)

  pub full_of_with : (p : List ℕ) → p ∈ trees_with g musts → (ks : List Key) × Full g (start g) musts ks × (rows_of ks ≡ p)
  full_of_with p m =
      let (t, w) = (with_mem p).0 m in
      let (ks, c, e) = whole_of g wf p t in
      (ks, record { completes = c; all = rw e w }, e)

  -- to show a thing of all these trees is to show it of the rows of these completions
  pub on_fulls : (P : List ℕ → Type 0) → ((ks : List Key) → Full g (start g) musts ks → P (rows_of ks)) → (p : List ℕ) → p ∈ trees_with g musts → P p
  on_fulls P f p m = let (ks, c, e) = full_of_with p m in subst P e (f ks c)

  -- EXISTENCE
  pub with_exists : Distinct musts → ((p : List ℕ) × (p ∈ trees_with g musts)) ↔ (Live g (row_numbers g) (start g) × Forest g musts)
  with_exists once = (
    λ (p, m).
        let (t, w) = (with_mem p).0 m in
        let tree = minimal_tree g wf p t in
        ((live_exists g wf).0 (p, tree), ((must_have g wf musts once).0 (p, tree, w)).1),
    λ (live, h).
        let (rs, t) = (live_exists g wf).1 live in
        let (ts, u, w) = (must_have g wf musts once).1 (((must_have g wf [] tt).0 (rs, t, λ r i. absurd (mem_nil i))).0, h) in
        let (p, m, v, z) = tree_minimal g wf ts u in
        (p, (with_mem p).1 (m, λ r i. z r (w r i))),
  )

  -- First

  pub first_with_lem : (ks : List Key) → LeastFull g (start g) musts ks → FirstIn g (trees_with g musts) (rows_of ks)
  first_with_lem ks a = record {
    listed = with_of ks a.full;
    least = on_fulls (AtMost g (rows_of ks)) (λ ls d. at_most g ks ls a.full.completes d.completes (a.least ls d));
  }

  -- Past all that begin with the first steps js

  module _ (js ks : List Key) (c : Full g (start g) musts (js ++ ks)) where
    begun : (rest : List Key) → T (begins (rows_of js) (rows_of (js ++ rest)))
    begun rest = rw rows_of_append (begins_in (rows_of js) (rows_of rest))

    beyond_of : (ms : List Key) → Whole g ms → T (path_less g (rows_of (js ++ ks)) (rows_of ms)) → ¬ T (begins (rows_of js) (rows_of ms)) → Beyond js ms
    beyond_of ms d h n = ⊎_elim (λ b. b)
        (λ t. absurd (n (rw t.1 (begun t.0))))
        (beyond_or_begins js ks ms (path_less_out g (js ++ ks) ms c.completes d h))

    after_keys : (ls : List Key) → NextFull g (start g) musts js ls → AfterIn g (trees_with g musts) (rows_of js) (rows_of (js ++ ks)) (rows_of ls)
    after_keys ls a = record {
      listed = with_of ls a.full;
      above = path_less_in g (js ++ ks) ls c.completes a.full.completes (beyond_above js ks ls a.above);
      leaves = λ t.
          let (rest, e) = begins_keys g (row_numbers g) js ls (completion_part g (row_numbers g) (start g) js ks c.completes).0 a.full.completes t in
          beyond_leaves js rest (subst (Beyond js) e a.above);
      least = on_fulls (λ ms. T (path_less g (rows_of (js ++ ks)) ms) → ¬ T (begins (rows_of js) ms) → AtMost g (rows_of ls) ms)
          (λ ms d h n. at_most g ls ms a.full.completes d.completes (a.least ms d (beyond_of ms d.completes h n)));
    }

    none_keys : NoneFull g (start g) musts js → NoneAfterIn g (trees_with g musts) (rows_of js) (rows_of (js ++ ks))
    none_keys none = on_fulls (λ ms. T (path_less g (rows_of (js ++ ks)) ms) → T (begins (rows_of js) ms))
        (λ ms d h. ⊎_elim (λ t. t) (λ n. absurd (none ms d (beyond_of ms d.completes h n))) (decide (begins (rows_of js) (rows_of ms))))

  module _ (len : ℕ) (ks : List Key) (c : Full g (start g) musts ks) where
    abbrev is : rows_of (take len ks ++ drop len ks) ≡ rows_of ks
    is = ap rows_of (take-append-drop len ks)

    whole : Full g (start g) musts (take len ks ++ drop len ks)
    whole = rw take-append-drop c

    -- AFTER: for the first len rows of a tree
    pub after_with : (ls : List Key) → NextFull g (start g) musts (take len ks) ls → AfterIn g (trees_with g musts) (take len (rows_of ks)) (rows_of ks) (rows_of ls)
    after_with ls a = rw (← (rows_of_take len ks), ← is) (after_keys (take len ks) (drop len ks) whole ls a)

    pub none_after_with : NoneFull g (start g) musts (take len ks) → NoneAfterIn g (trees_with g musts) (take len (rows_of ks)) (rows_of ks)
    none_after_with n = rw (← (rows_of_take len ks), ← is) (none_keys (take len ks) (drop len ks) whole n)

-- With the whole tree as prefix it is the next one

module _ (g : Graph) (wf : WellFormed g) (musts : List ℕ) (ks : List Key) (c : Full g (start g) musts ks) where
  pub next_with : (ls : List Key) → NextFull g (start g) musts ks ls → NextIn g (trees_with g musts) (rows_of ks) (rows_of ls)
  next_with ls a = after_next_in (with_part_lem g musts) (rows_of ks) (with_of g wf musts ks c) (rows_of ls)
      (subst (λ (p : List ℕ). AfterIn g (trees_with g musts) p (rows_of ks) (rows_of ls)) (take-length (rows_of ks))
      (after_with g wf musts (length (rows_of ks)) ks c ls (subst (λ (js : List Key). NextFull g (start g) musts js ls) (sym all_keys) a)))
    where
      all_keys : take (length (rows_of ks)) ks ≡ ks
      all_keys = take_all (length (rows_of ks)) ks (omega (arith, rows_of_length ks))

  pub last_with : NoneFull g (start g) musts ks → LastIn g (trees_with g musts) (rows_of ks)
  last_with n = after_last_in (with_part_lem g musts) (rows_of ks) (with_of g wf musts ks c)
      (subst (λ (p : List ℕ). NoneAfterIn g (trees_with g musts) p (rows_of ks)) (take-length (rows_of ks))
      (none_after_with g wf musts (length (rows_of ks)) ks c (subst (NoneFull g (start g) musts) (sym all_keys) n)))
    where
      all_keys : take (length (rows_of ks)) ks ≡ ks
      all_keys = take_all (length (rows_of ks)) ks (omega (arith, rows_of_length ks))

-- DECIDE: least accepted steps from the start, up to where none is accepted or all nodes are entered, have all the rows exactly if some tree has

module _ (g : Graph) (wf : WellFormed g) (musts : List ℕ) (once : Distinct musts) (ks : List Key) (a : Accepts g musts (start g) ks)
    (end : (g.nodes ⊆ (state_after (start g) ks).entered)
    ⊎ ((m : Key) → Legal g (row_numbers g) (state_after (start g) ks) m → ¬ Accepted g (state_after (start g) ks) musts m)) where
  pub accepts_first : (p : List ℕ) → p ∈ trees_with g musts → LeastFull g (start g) musts ks
  accepts_first p m =
      let (ls, f, e) = full_of_with g wf musts p m in
      accepts_least g musts wf (start g) musts (begun_start g wf) once (due_all g (start g) musts) ls ks f a
      (⊎_elim (λ w. w) (λ n. accepts_end g musts wf (start g) musts (begun_start g wf) once (due_all g (start g) musts) ls ks f a n) end)

  pub accepts_decide : ((p : List ℕ) × (p ∈ trees_with g musts)) ↔ ((g.nodes ⊆ (state_after (start g) ks).entered) × (musts ⊆ rows_of ks))
  accepts_decide = (
    λ (p, m). let l = accepts_first p m in (completion_entered g (start g) ks l.full.completes, l.full.all),
    λ (w, z). (rows_of ks, with_of g wf musts ks (record { completes = entered_completion g (start g) ks (accepts_legal g musts (start g) ks a) w; all = z })),
  )

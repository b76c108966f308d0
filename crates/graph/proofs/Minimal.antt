-- The Boolean definition of a minimal path and completions of the start say the same: `minimal_out`, `minimal_in`.
-- The graph is well formed (`WellFormed`): its nodes are distinct, the plant is one, and 0 is none.
use mathlib.Core.Path.{◌∙◌, ◌≡◌, refl, subst, sym}
use mathlib.Core.Logic.{inl, inr, ⊎_elim}
use mathlib.Core.Option.{Option, none, some}
use mathlib.Core.List.Memᴰ.{cases_cons as mem_cases}
use mathlib.Core.List.Memᴰ.{cast as mem_cast}
use mathlib.Core.List.Memᴰ.{not-nil as mem_nil}
use mathlib.Core.List.{List, [], ◌∷◌}
use Prim.Native.Nat.{◌<◌, suc, ℕ}
use native.Mathlib.Decide.{dec_lt}
use native.Mathlib.Omega.{arith}
use lib.Dec.{T, eqb, eqb→eq}
use lib.ListN.{get_or-eq_default, length}
use Rattle.lists.proofs.Distinct.{Distinct}
use Rattle.lists.proofs.Members.{◌∈◌, cons_⊆, nil_⊆, range_in}
use Rattle.lists.proofs.Tests.{T-both, eq→eqb}
use Rattle.graph.specs.Graph.{Graph, first_end, row_numbers}
use Rattle.graph.specs.Paths.{Key, ascending, ascends, is_minimal, steps}
use Rattle.graph.proofs.Growth.{Completion, Joins, State, after, back, forth, rows_of, rows_of_length, start}
use Rattle.graph.proofs.Keys.{Lex, NumberCases, compare_numbers, further, level}
use Rattle.graph.proofs.Least.{Sound, sound_after}
use Rattle.graph.proofs.Steps.{Rising, completion_steps, rising_in, rising_out, step_of_out, steps_completion, steps_rows, steps_from_cons, steps_from_nil}
use Rattle.graph.proofs.Unique.{completion_length, completion_reuse}

pub record WellFormed (g : Graph) : Type 0 where
  pub once : Distinct g.nodes
  pub plant : g.plant ∈ g.nodes
  pub no_zero : ¬ (0 ∈ g.nodes)

-- a completion of the start, over all rows
abbrev pub Whole : Graph → List Key → Type 0
Whole g ks = Completion g (row_numbers g) (start g) ks

-- a row of the graph is a row number
pub row_numbers_in : (g : Graph) (r : ℕ) → r < length g.first_ends → r ∈ row_numbers g
row_numbers_in g r h = range_in 0 (length g.first_ends) r (omega arith) (omega arith)

ascends_out : (o : Option (List Key)) → T (ascends o) → (ks : List Key) × (o ≡ some ks) × T (ascending ks)
ascends_out none t = absurd t
ascends_out (some ks) t = (ks, refl, t)

-- what the test `is_minimal` says
pub minimal_parts : (g : Graph) (ps : List ℕ) → T (is_minimal g ps)
    → (suc (length ps) ≡ length g.nodes) × ((ks : List Key) × (steps g ps ≡ some ks) × T (ascending ks))
unfolding is_minimal
minimal_parts g ps t =
    let (long, up) = (T-both (eqb (suc (length ps)) (length g.nodes)) (ascends (steps g ps))).0 t in
    (eqb→eq _ _ long, ascends_out (steps g ps) up)

module _ (g : Graph) (wf : WellFormed g) where
  -- The start

  pub sound_start : Sound g (start g)
  sound_start = record { once = (mem_nil, tt); nodes = cons_⊆ wf.plant (nil_⊆ g.nodes) }

  -- at the start every step is above the bound
  pub above_start : (p v : ℕ) → v ∈ g.nodes → Lex 0 0 p v
  above_start p v i = step (compare_numbers 0 p) (compare_numbers 0 v)
    where
      step : NumberCases 0 p → NumberCases 0 v → Lex 0 0 p v
      step (inl a) b = further a
      step (inr (inr a)) b = absurd (omega arith)
      step (inr (inl a)) (inl b) = level a b
      step (inr (inl a)) (inr (inl b)) = absurd (wf.no_zero (mem_cast b i))
      step (inr (inl a)) (inr (inr b)) = absurd (omega arith)

  rising_start : (rs : List ℕ) (ks : List Key) → steps g rs ≡ some ks → T (ascending ks) → Rising 0 0 ks
  rising_start [] ks e a = rw (steps_from_nil g (g.plant ∷ []) ks e) tt
  rising_start (r ∷ rs) ks e a =
      let f = steps_from_cons g (g.plant ∷ []) r rs ks e in
      let k = f.key in
      rw f.keys (
        above_start k.place k.node (step_of_out g (g.plant ∷ []) r k f.made).0.enters,
        rising_out k f.later (subst (λ (x : List Key). T (ascending x)) f.keys a),
      )

  -- Rows

  -- a row that joins two nodes is a row of the graph
  pub row_known : {r u v : ℕ} → Joins g r u v → u ∈ g.nodes → v ∈ g.nodes → r < length g.first_ends
  row_known {r} {u} {v} j a b = elim (dec_lt r (length g.first_ends)) [
    | yes h ↦ h
    | no n ↦ absurd (go j (get_or-eq_default g.first_ends 0 {n = r} (omega arith)))
  ]
    where
      go : Joins g r u v → ¬ (first_end g r ≡ 0)
      go (forth p q) e = wf.no_zero (mem_cast (sym e ∙ p) a)
      go (back p q) e = wf.no_zero (mem_cast (sym e ∙ p) b)

  pub known_from : (rs : List ℕ) (s : State) (ks : List Key) → Sound g s → Completion g rs s ks → (r : ℕ) → r ∈ rows_of ks → r < length g.first_ends
  known_from rs s [] o c r i = absurd (mem_nil i)
  known_from rs s (k ∷ ks) o c r i = ⊎_elim
      (λ e. rw e (row_known c.0.step.joined (o.nodes c.0.step.pivot c.0.step.leaves) c.0.step.enters))
      (λ t. known_from rs (after s k) ks (sound_after g rs s k o c.0) c.1 r t)
      (mem_cases i)

  pub completion_rows : (rs : List ℕ) (ks : List Key) → Completion g rs (start g) ks → (r : ℕ) → r ∈ rows_of ks → r < length g.first_ends
  completion_rows rs ks c = known_from rs (start g) ks sound_start c

  -- so a completion over some rows is one over all rows of the graph
  pub over_all : (rs : List ℕ) (ks : List Key) → Completion g rs (start g) ks → Whole g ks
  over_all rs ks c = completion_reuse g rs (row_numbers g) (start g) ks c (λ r i. row_numbers_in g r (completion_rows rs ks c r i))

  -- Paths and completions

  -- the keys of a minimal path are a completion of the start, over its own rows
  pub minimal_out : (ps : List ℕ) → T (is_minimal g ps) → (ks : List Key) × Completion g ps (start g) ks × (rows_of ks ≡ ps)
  minimal_out ps t =
      let (long, made) = minimal_parts g ps t in
      let (ks, e, up) = made in
      (ks, steps_completion g ps ps (start g) ks sound_start (λ v i. i) e (rising_start ps ks e up) (omega (arith, long)), steps_rows g (g.plant ∷ []) ps ks e)

  -- the rows of a completion of the start are a minimal path
  pub minimal_in : (qs : List ℕ) (ks : List Key) → Completion g qs (start g) ks → T (is_minimal g (rows_of ks))
  unfolding is_minimal
  minimal_in qs ks c =
      let t = completion_steps g qs (start g) ks c in
      (T-both (eqb (suc (length (rows_of ks))) (length g.nodes)) (ascends (steps g (rows_of ks)))).1 (
        eq→eqb (suc (length (rows_of ks))) (length g.nodes) (omega (arith, rows_of_length ks, completion_length g qs (start g) ks wf.once sound_start c)),
        rw t.0 (rising_in 0 0 ks t.1),
      )

  -- the same over all rows
  pub whole_of : (ps : List ℕ) → T (is_minimal g ps) → (ks : List Key) × Whole g ks × (rows_of ks ≡ ps)
  whole_of ps t = let (ks, c, e) = minimal_out ps t in (ks, over_all ps ks c, e)

  -- to show a thing of all minimal paths is to show it of the rows of all completions
  pub on_wholes : (P : List ℕ → Type 0) → ((ks : List Key) → Whole g ks → P (rows_of ks)) → (ps : List ℕ) → T (is_minimal g ps) → P ps
  on_wholes P f ps t = let (ks, c, e) = whole_of ps t in subst P e (f ks c)

  -- the rows of a minimal path are rows of the graph
  pub minimal_rows : (ps : List ℕ) → T (is_minimal g ps) → (r : ℕ) → r ∈ ps → r < length g.first_ends
  minimal_rows = on_wholes (λ ps. (r : ℕ) → r ∈ ps → r < length g.first_ends) (λ ks c. completion_rows (row_numbers g) ks c)

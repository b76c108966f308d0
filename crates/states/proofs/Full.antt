-- Completions with all rows of a list (`Full`). A state has one exactly if it is live and the rows are a forest of the rest (`full_exists`).
-- A legal step can be in one exactly if it is `Accepted`: its row is one of them, or they do not lead to its node (`accepted_full`, `full_accepted`).
-- So the least one takes the least accepted step again and again (`least_accepted`, `least_full_cons`).
use mathlib.Core.Path.{refl, subst, sym}
use mathlib.Core.Logic.{◌↔◌, ◌⊎◌, inl, inr, ⊎_elim}
use mathlib.Core.List.Memᴰ.{cases_cons as mem_cases}
use mathlib.Core.List.Memᴰ.{head as here}
use mathlib.Core.List.Memᴰ.{not-nil as mem_nil}
use mathlib.Core.List.Memᴰ.{tail as there}
use mathlib.Core.List.{List, [], ◌∷◌}
use Prim.Native.Nat.{ℕ}
use native.Mathlib.Decide.{ℕ_discrete}
use Rattle.lists.proofs.Distinct.{Distinct, mem?}
use Rattle.lists.proofs.Members.{◌∈◌, ◌⊆◌, cons_⊆, snoc_old}
use Rattle.graph.specs.Graph.{Graph, first_end, row_numbers, second_end}
use Rattle.graph.specs.Paths.{Key}
use Rattle.graph.proofs.Growth.{Completion, Legal, Live, Reaches, State, after, necessary, rows_of}
use Rattle.graph.proofs.Keys.{KeyCases, KeysLe, key_compare}
use Rattle.graph.proofs.Least.{Least, sound_after}
use Rattle.graph.proofs.Minimal.{WellFormed, row_numbers_in}
use Rattle.graph.proofs.Unique.{no_smaller}
use Rattle.forests.specs.Forests.{cut}
use Rattle.forests.proofs.Cuts.{cut_or, cut_out}
use Rattle.forests.proofs.Forest.{Forest, forest_add, forest_head, forest_part}
use Rattle.forests.proofs.Joined.{Joined, Lies, ends_joined, joined_ends_by, lies_in_lem}
use Rattle.forests.proofs.Spanning.{extension, tree_forest}
use Rattle.states.proofs.Rest.{Begun, completion_rest, fresh_in, joined_reaches, live_spans, onto_of, reaches_joined, rest, rest_completion, rest_formed, rest_onto, rest_usable}

-- a completion with all of the rows ms
pub record Full (g : Graph) (s : State) (ms : List ℕ) (ks : List Key) : Type 0 where
  pub completes : Completion g (row_numbers g) s ks
  pub all : ms ⊆ rows_of ks

-- the step's row is one of ms, or the rows ms do not lead to its node
abbrev pub Accepted : Graph → State → List ℕ → Key → Type 0
Accepted g s ms k = (k.row ∈ ms) ⊎ (¬ Reaches g ms s k.node)

pub begun_after : {g : Graph} {s : State} {k : Key} → Begun g s → Legal g (row_numbers g) s k → Begun g (after s k)
begun_after {g} {s} {k} b h = record { sound = sound_after g (row_numbers g) s k b.sound h; plant = snoc_old k.node b.plant }

-- its first step, and the rest with the rows that are left
pub full_tail : {g : Graph} {s : State} {ms : List ℕ} {k : Key} {ks : List Key} → Full g s ms (k ∷ ks) → Full g (after s k) (cut k.row ms) ks
full_tail {g} {s} {ms} {k} f = record {
  completes = f.completes.1;
  all = λ r i. let (j, n) = cut_out k.row ms i in ⊎_elim (λ e. absurd (n e)) (λ t. t) (mem_cases (f.all r j));
}

pub full_cons : {g : Graph} {s : State} {ms : List ℕ} {k : Key} {ks : List Key} → Legal g (row_numbers g) s k → Full g (after s k) (cut k.row ms) ks
    → Full g s ms (k ∷ ks)
full_cons {g} {s} {ms} {k} h f = record {
  completes = (h, f.completes);
  all = λ r i. ⊎_elim (λ e. here e) (λ j. there (f.all r j)) (cut_or k.row i);
}

module _ (g : Graph) (wf : WellFormed g) (s : State) (b : Begun g s) (ms : List ℕ) (once : Distinct ms) where
  -- EXISTS

  pub full_live : (ks : List Key) → Full g s ms ks → Live g (row_numbers g) s
  full_live ks f = necessary g (row_numbers g) s ks f.completes

  pub full_forest : (ks : List Key) → Full g s ms ks → Forest (rest g s) ms
  full_forest ks f =
      forest_part once f.all (tree_forest (rest g s) (rest_formed g wf s b) (rows_of ks) (completion_rest g wf s b (row_numbers g) ks f.completes))

  pub full_of : Live g (row_numbers g) s → Forest (rest g s) ms → (ks : List Key) × Full g s ms ks
  full_of live h =
      let (ts, t, w, z) = extension (rest g s) (rest_formed g wf s b) ms (row_numbers g) h
      (λ r i. rows_known r (h.lies r i)) (live_spans g wf s b live) in
      let (ks, c, u, v) = rest_completion g wf s b ts t in
      (ks, record { completes = c; all = λ r i. v r (w r i) })
    where
      rows_known : (r : ℕ) → Lies (rest g s) r → r ∈ row_numbers g
      rows_known r l = row_numbers_in g r (rest_usable g wf s b r l).0

  pub full_exists : ((ks : List Key) × Full g s ms ks) ↔ (Live g (row_numbers g) s × Forest (rest g s) ms)
  full_exists = (λ (ks, f). (full_live ks f, full_forest ks f), λ (live, h). full_of live h)

  -- ACCEPTED

  -- the rows ms join the ends of a legal step in the rest exactly if they lead to its node
  step_joined : {k : Key} → Legal g (row_numbers g) s k → Reaches g ms s k.node → Joined (rest g s) ms (first_end (rest g s) k.row) (second_end (rest g s) k.row)
  step_joined {k} h x = ends_joined (rest_onto g wf s b h.step.joined (onto_of g wf s b h)) (reaches_joined g wf s b x)

  joined_step : {k : Key} → Legal g (row_numbers g) s k → Joined (rest g s) ms (first_end (rest g s) k.row) (second_end (rest g s) k.row) → Reaches g ms s k.node
  joined_step {k} h j =
      joined_reaches g wf s b (joined_ends_by (rest_onto g wf s b h.step.joined (onto_of g wf s b h)) j) (onto_of g wf s b h).enters

  -- a legal step whose row is in such a completion is accepted
  pub full_accepted : (ks : List Key) → Full g s ms ks → (k : Key) → Legal g (row_numbers g) s k → k.row ∈ rows_of ks → Accepted g s ms k
  full_accepted ks f k h i = elim (mem? ℕ_discrete k.row ms) [
    | yes j ↦ inl j
    | no n ↦ inr (λ x. forest_head (forest_part {qs = k.row ∷ ms} (n, once) (cons_⊆ i f.all)
        (tree_forest (rest g s) (rest_formed g wf s b) (rows_of ks) (completion_rest g wf s b (row_numbers g) ks f.completes))) (step_joined h x))
  ]

  -- and an accepted one is in some
  pub accepted_full : (ks : List Key) → Full g s ms ks → (k : Key) → Legal g (row_numbers g) s k → Accepted g s ms k
      → (ls : List Key) × Full g s ms ls × (k.row ∈ rows_of ls)
  accepted_full ks f k h (inl i) = (ks, f, f.all k.row i)
  accepted_full ks f k h (inr n) =
      let o = onto_of g wf s b h in
      let grown = forest_add (full_forest ks f) (lies_in_lem (rest_onto g wf s b h.step.joined o) (here refl) (there (fresh_in g wf s b o.enters))) (λ j. n (joined_step h j)) in
      let (ts, t, w, z) = extension (rest g s) (rest_formed g wf s b) (k.row ∷ ms) (row_numbers g) grown
      (λ r i. row_numbers_in g r (rest_usable g wf s b r (grown.lies r i)).0) (live_spans g wf s b (full_live ks f)) in
      let (ls, c, u, v) = rest_completion g wf s b ts t in
      (ls, record { completes = c; all = λ r i. v r (w r (there i)) }, v k.row (w k.row (here refl)))

  -- the first step of such a completion is accepted
  pub first_accepted : (l : Key) (ls : List Key) → Full g s ms (l ∷ ls) → Accepted g s ms l
  first_accepted l ls f = full_accepted (l ∷ ls) f l f.completes.0 (here refl)

  -- THE FIRST STEP: from the least accepted step there is one
  pub least_accepted : (ks : List Key) → Full g s ms ks → (k : Key) → Least g (row_numbers g) s (Accepted g s ms) k
      → (ls : List Key) × Full g (after s k) (cut k.row ms) ls
  least_accepted ks f k a = let (ls, h, i) = accepted_full ks f k a.legal a.passes in step ls h i
    where
      compare : (l : Key) (ls : List Key) → Full g s ms (l ∷ ls) → k.row ∈ rows_of (l ∷ ls) → KeyCases k l → (ls : List Key) × Full g (after s k) (cut k.row ms) ls
      compare l ls h i (inl x) = absurd (no_smaller g (row_numbers g) s k l ls a.legal h.completes i x)
      compare l ls h i (inr (inl e)) = (ls, full_tail (subst (λ (x : Key). Full g s ms (x ∷ ls)) (sym e) h))
      compare l ls h i (inr (inr x)) = absurd (a.least l h.completes.0 (first_accepted l ls h) x)

      step : (ls : List Key) → Full g s ms ls → k.row ∈ rows_of ls → (ls : List Key) × Full g (after s k) (cut k.row ms) ls
      step [] h i = absurd (mem_nil i)
      step (l ∷ ls) h i = compare l ls h i (key_compare k l)

-- The least one

pub record LeastFull (g : Graph) (s : State) (ms : List ℕ) (ks : List Key) : Type 0 where
  pub full : Full g s ms ks
  pub least : (ls : List Key) → Full g s ms ls → KeysLe ks ls

-- the least accepted step, then the least of what follows
pub least_full_cons : (g : Graph) → WellFormed g → (s : State) → Begun g s → (ms : List ℕ) → Distinct ms → (k : Key) (ks : List Key)
    → Least g (row_numbers g) s (Accepted g s ms) k → LeastFull g (after s k) (cut k.row ms) ks → LeastFull g s ms (k ∷ ks)
least_full_cons g wf s b ms once k ks a l = record { full = full_cons a.legal l.full; least = compare }
  where
    step : (m : Key) (ls : List Key) → Full g s ms (m ∷ ls) → KeyCases k m → KeysLe (k ∷ ks) (m ∷ ls)
    step m ls f (inl h) = inl h
    step m ls f (inr (inl e)) = inr (e, l.least ls (full_tail (subst (λ (x : Key). Full g s ms (x ∷ ls)) (sym e) f)))
    step m ls f (inr (inr h)) = absurd (a.least m f.completes.0 (first_accepted g wf s b ms once m ls f) h)

    compare : (ls : List Key) → Full g s ms ls → KeysLe (k ∷ ks) ls
    compare [] f = absurd (a.legal.step.fresh (f.completes k.node a.legal.step.enters))
    compare (m ∷ ls) f = step m ls f (key_compare k m)

-- all nodes are entered, and no rows are left
pub least_full_nil : (g : Graph) (s : State) (ms : List ℕ) → g.nodes ⊆ s.entered → (ks : List Key) → Full g s ms ks → LeastFull g s ms []
least_full_nil g s ms w [] f = record { full = f; least = λ ls h. tt }
least_full_nil g s ms w (k ∷ ks) f = absurd (f.completes.0.step.fresh (w k.node f.completes.0.step.enters))

-- where there is an accepted step, as long as a node is missing
pub some_accepted : (g : Graph) → WellFormed g → (s : State) → Begun g s → (ms : List ℕ) → Distinct ms → (ks : List Key) → Full g s ms ks
    → (v : ℕ) → v ∈ g.nodes → ¬ (v ∈ s.entered) → (k : Key) × Legal g (row_numbers g) s k × Accepted g s ms k
some_accepted g wf s b ms once [] f v m n = absurd (n (f.completes v m))
some_accepted g wf s b ms once (k ∷ ks) f v m n = (k, f.completes.0, first_accepted g wf s b ms once k ks f)

-- A graph with other ends, in which some rows have none and the others have their own (`Masked`): its list is the list of the paths without those rows, in the
-- same order (`masked_trees`), and its steps and what they reach are those by the other rows (`masked_legal`, `masked_reaches`).
use mathlib.Core.Path.{◌∙◌, ◌≡◌, ap, refl, subst, sym}
use mathlib.Core.Logic.{◌↔◌, ⊎_elim}
use mathlib.Core.Bool.{Bool, not}
use mathlib.Core.Option.{Option, none, some}
use mathlib.Core.List.Memᴰ.{cases_cons as mem_cases}
use mathlib.Core.List.Memᴰ.{cast as mem_cast}
use mathlib.Core.List.Memᴰ.{head as here}
use mathlib.Core.List.Memᴰ.{not-nil as mem_nil}
use mathlib.Core.List.Memᴰ.{tail as there}
use mathlib.Core.List.{List, [], ◌++◌, ◌∷◌}
use Prim.Native.Nat.{◌<◌, ℕ}
use lib.Dec.{T, T_not, not_T}
use lib.ListN.{get_or, length}
use Rattle.lists.specs.Lists.{all, filter_b}
use Rattle.lists.proofs.Ascending.{filter_ascending}
use Rattle.lists.proofs.Members.{◌∈◌, ◌⊆◌, all_in, all_out, filter_in, filter_out}
use Rattle.lists.proofs.Orders.{Ascending, ascending_unique}
use Rattle.graph.specs.Graph.{Graph, first_end, row_numbers, second_end}
use Rattle.graph.specs.Paths.{Key, and_then, cons_key, is_minimal, path_less, step_of, steps_from, trees}
use Rattle.graph.proofs.Growth.{Completion, Joins, Legal, Reaches, State, after, back, direct, forth, onward, rows_of, start}
use Rattle.graph.proofs.Least.{Sound, sound_after}
use Rattle.graph.proofs.Minimal.{WellFormed, on_wholes, row_known, row_numbers_in, sound_start}
use Rattle.graph.proofs.Trees.{path_order, trees_ascending, trees_minimal}

-- the rows of a completion join nodes
rows_join : (g : Graph) (rs : List ℕ) (s : State) (ks : List Key) → Sound g s → Completion g rs s ks → (r : ℕ) → r ∈ rows_of ks
    → (first_end g r ∈ g.nodes) × (second_end g r ∈ g.nodes)
rows_join g rs s [] o c r i = absurd (mem_nil i)
rows_join g rs s (k ∷ ks) o c r i = ⊎_elim
    (λ e. rw e (ends c.0.step.joined (o.nodes c.0.step.pivot c.0.step.leaves) c.0.step.enters))
    (λ t. rows_join g rs (after s k) ks (sound_after g rs s k o c.0) c.1 r t)
    (mem_cases i)
  where
    ends : {u v : ℕ} → Joins g k.row u v → u ∈ g.nodes → v ∈ g.nodes → (first_end g k.row ∈ g.nodes) × (second_end g k.row ∈ g.nodes)
    ends (forth p q) m n = (mem_cast p m, mem_cast q n)
    ends (back p q) m n = (mem_cast p n, mem_cast q m)

-- the rows of a minimal path join nodes
pub minimal_join : (g : Graph) (wf : WellFormed g) (p : List ℕ) → T (is_minimal g p) → (r : ℕ) → r ∈ p → (first_end g r ∈ g.nodes) × (second_end g r ∈ g.nodes)
minimal_join g wf = on_wholes g wf (λ p. (r : ℕ) → r ∈ p → (first_end g r ∈ g.nodes) × (second_end g r ∈ g.nodes))
    (λ ks c. rows_join g _ (start g) ks (sound_start g wf) c)

abbrev pub ends_as : Graph → List ℕ → List ℕ → Graph
ends_as g firsts seconds = record { plant = g.plant; nodes = g.nodes; first_ends = firsts; second_ends = seconds }

-- with these ends the rows that are gone have none, and the others have their own
pub record Masked (g : Graph) (gone : ℕ → Bool) (firsts seconds : List ℕ) : Type 0 where
  pub absent : (r : ℕ) → T (gone r) → get_or firsts r 0 ≡ 0
  pub first : (r : ℕ) → ¬ T (gone r) → get_or firsts r 0 ≡ first_end g r
  pub second : (r : ℕ) → ¬ T (gone r) → get_or seconds r 0 ≡ second_end g r

-- no row is gone
abbrev pub none_of : (ℕ → Bool) → List ℕ → Bool
none_of gone rows = all (λ r. not (gone r)) rows

module _ (g : Graph) (wf : WellFormed g) (gone : ℕ → Bool) (firsts seconds : List ℕ) (m : Masked g gone firsts seconds) where
  abbrev h : Graph
  h = ends_as g firsts seconds

  formed : WellFormed (ends_as g firsts seconds)
  formed = record { once = wf.once; plant = wf.plant; no_zero = wf.no_zero }

  -- Steps

  same_step : (entered : List ℕ) (r : ℕ) → ¬ T (gone r) → step_of h entered r ≡ step_of g entered r
  unfolding step_of
  same_step entered r n = rw (m.first r n, m.second r n)

  same_steps : (entered rows : List ℕ) → ((r : ℕ) → r ∈ rows → ¬ T (gone r)) → steps_from h entered rows ≡ steps_from g entered rows
  unfolding steps_from
  same_steps entered [] n = refl
  same_steps entered (r ∷ rows) n = rw (same_step entered r (n r (here refl))) (go (step_of g entered r) (λ k. same_steps (entered ++ (k.node ∷ [])) rows (λ q i. n q (there i))))
    where
      go : (o : Option Key) → ((k : Key) → steps_from h (entered ++ (k.node ∷ [])) rows ≡ steps_from g (entered ++ (k.node ∷ [])) rows)
          → and_then o (λ k. cons_key k (steps_from h (entered ++ (k.node ∷ [])) rows)) ≡ and_then o (λ k. cons_key k (steps_from g (entered ++ (k.node ∷ [])) rows))
      go none e = refl
      go (some k) e = ap (cons_key k) (e k)

  same_minimal : (p : List ℕ) → ((r : ℕ) → r ∈ p → ¬ T (gone r)) → is_minimal h p ≡ is_minimal g p
  unfolding is_minimal
  same_minimal p n = rw (same_steps (g.plant ∷ []) p n)

  same_less : (p q : List ℕ) → ((r : ℕ) → r ∈ p → ¬ T (gone r)) → ((r : ℕ) → r ∈ q → ¬ T (gone r)) → path_less h p q ≡ path_less g p q
  same_less p q a b = rw (same_steps (g.plant ∷ []) p a, same_steps (g.plant ∷ []) q b)

  -- a path of the masked graph has no row that is gone
  kept : (p : List ℕ) → p ∈ trees h → (r : ℕ) → r ∈ p → ¬ T (gone r)
  kept p i r j t = wf.no_zero (mem_cast (sym (m.absent r t)) (minimal_join h formed p ((trees_minimal h formed p).0 i) r j).0)

  test_out : (p : List ℕ) → T (none_of gone p) → (r : ℕ) → r ∈ p → ¬ T (gone r)
  test_out p t r i = T_not (gone r) (all_out (λ r. not (gone r)) t i)

  pub masked_mem : (p : List ℕ) → (p ∈ trees h) ↔ ((p ∈ trees g) × T (none_of gone p))
  masked_mem p = (
    λ i. (
      (trees_minimal g wf p).1 (subst T (same_minimal p (kept p i)) ((trees_minimal h formed p).0 i)),
      all_in (λ r. not (gone r)) p (λ r j. not_T (gone r) (kept p i r j)),
    ),
    λ (i, t). (trees_minimal h formed p).1 (subst T (sym (same_minimal p (test_out p t))) ((trees_minimal g wf p).0 i)),
  )

  -- the masked list ascends in the graph's own order
  ascends_in : (l : List (List ℕ)) → ((p : List ℕ) → p ∈ l → (r : ℕ) → r ∈ p → ¬ T (gone r)) → Ascending (path_less h) l → Ascending (path_less g) l
  ascends_in [] n up = tt
  ascends_in (p ∷ l) n up = (
    λ q i. subst T (same_less p q (n p (here refl)) (n q (there i))) (up.0 q i),
    ascends_in l (λ q i. n q (there i)) up.1,
  )

  -- MASKED
  pub masked_trees : trees (ends_as g firsts seconds) ≡ filter_b (none_of gone) (trees g)
  masked_trees = ascending_unique (path_order g) (trees h) (filter_b (none_of gone) (trees g))
      (ascends_in (trees h) kept (trees_ascending h)) (filter_ascending (path_less g) (none_of gone) (trees g) (trees_ascending g))
      (λ p i. let (j, t) = (masked_mem p).0 i in filter_in (none_of gone) j t)
      (λ p i. (masked_mem p).1 (filter_out (none_of gone) (trees g) i))

  -- Steps and reach, by the rows that are left

  pub joins_kept : {r u v : ℕ} → Joins (ends_as g firsts seconds) r u v → u ∈ g.nodes → v ∈ g.nodes → ¬ T (gone r)
  joins_kept {r} (forth a b) i j t = wf.no_zero (mem_cast (sym (m.absent r t) ∙ a) i)
  joins_kept {r} (back a b) i j t = wf.no_zero (mem_cast (sym (m.absent r t) ∙ a) j)

  pub joins_own : {r u v : ℕ} → ¬ T (gone r) → Joins (ends_as g firsts seconds) r u v → Joins g r u v
  joins_own {r} n (forth a b) = forth (sym (m.first r n) ∙ a) (sym (m.second r n) ∙ b)
  joins_own {r} n (back a b) = back (sym (m.first r n) ∙ a) (sym (m.second r n) ∙ b)

  joins_masked : {r u v : ℕ} → ¬ T (gone r) → Joins g r u v → Joins h r u v
  joins_masked {r} n (forth a b) = forth (m.first r n ∙ a) (m.second r n ∙ b)
  joins_masked {r} n (back a b) = back (m.first r n ∙ a) (m.second r n ∙ b)

  module _ (left : List ℕ) (known : (r : ℕ) → r < length g.first_ends → (r ∈ left) ↔ (¬ T (gone r))) (low : (r : ℕ) → r ∈ left → r < length g.first_ends)
      (long : length firsts ≡ length g.first_ends) (s : State) (inside : s.entered ⊆ g.nodes) where
    pub masked_legal : (k : Key) → Legal (ends_as g firsts seconds) (row_numbers (ends_as g firsts seconds)) s k ↔ Legal g left s k
    masked_legal k = (
      λ l.
          let n = joins_kept l.step.joined (inside l.step.pivot l.step.leaves) l.step.enters in
          let j = joins_own n l.step.joined in
          record {
            step = record { pivot = l.step.pivot; joined = j; leaves = l.step.leaves; enters = l.step.enters; fresh = l.step.fresh; stands = l.step.stands };
            usable = (known k.row (row_known g wf j (inside l.step.pivot l.step.leaves) l.step.enters)).1 n;
            above = l.above;
          },
      λ l. record {
        step = record {
          pivot = l.step.pivot;
          joined = joins_masked ((known k.row (low k.row l.usable)).0 l.usable) l.step.joined;
          leaves = l.step.leaves;
          enters = l.step.enters;
          fresh = l.step.fresh;
          stands = l.step.stands;
        };
        usable = row_numbers_in h k.row (subst (λ (x : ℕ). k.row < x) (sym long) (low k.row l.usable));
        above = l.above;
      },
    )

    reached_node : {v : ℕ} {rs : List ℕ} {j : Graph} → Reaches j rs s v → v ∈ j.nodes
    reached_node (direct {k} l e) = mem_cast (sym e) l.step.enters
    reached_node (onward x i o n f) = n

    pub masked_reaches : {v : ℕ} → Reaches (ends_as g firsts seconds) (row_numbers (ends_as g firsts seconds)) s v → Reaches g left s v
    masked_reaches (direct {k} l e) = direct ((masked_legal k).0 l) e
    masked_reaches (onward {r} {u} {v} x i o n f) =
        let c = joins_kept o (reached_node x) n in
        let j = joins_own c o in
        onward (masked_reaches x) ((known r (row_known g wf j (reached_node x) n)).1 c) j n f

    pub reaches_masked : {v : ℕ} → Reaches g left s v → Reaches (ends_as g firsts seconds) (row_numbers (ends_as g firsts seconds)) s v
    reaches_masked (direct {k} l e) = direct ((masked_legal k).1 l) e
    reaches_masked (onward {r} {u} {v} x i o n f) =
        onward (reaches_masked x) (row_numbers_in h r (subst (λ (z : ℕ). r < z) (sym long) (low r i))) (joins_masked ((known r (low r i)).0 i) o) n f

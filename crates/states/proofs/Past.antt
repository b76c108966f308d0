-- Past a step k of a completion with all rows ms. If k's row is one of ms, nothing comes past k (`must_last`). Else come the completions by a parallel row
-- of a larger number, and then those of the state `past s k`, which has one exactly if k's node is still reached (`past_full`): `LeastPastFull`, or there is none (`NonePastFull`).
use mathlib.Core.Path.{◌≡◌, refl, subst, sym}
use mathlib.Core.Logic.{◌↔◌, ◌⊎◌, inl, inr, ⊎_elim}
use mathlib.Core.List.Memᴰ.{cases_cons as mem_cases}
use mathlib.Core.List.Memᴰ.{cast as mem_cast}
use mathlib.Core.List.Memᴰ.{head as here}
use mathlib.Core.List.Memᴰ.{tail as there}
use mathlib.Core.List.{List, [], ◌∷◌}
use Prim.Native.Nat.{ℕ}
use Rattle.lists.proofs.Distinct.{Distinct}
use Rattle.lists.proofs.Members.{◌∈◌, snoc_old}
use Rattle.graph.specs.Graph.{Graph, first_end, row_numbers, second_end}
use Rattle.graph.specs.Paths.{Key}
use Rattle.graph.proofs.Growth.{Completion, Joins, Legal, Live, Reaches, State, after, back, forth, joins_sym, past, rows_of}
use Rattle.graph.proofs.Keys.{Ahead, Beside, KeyCases, KeyLess, KeysLe, ahead, beside, key_compare, lex_trans}
use Rattle.graph.proofs.Least.{Least}
use Rattle.graph.proofs.Minimal.{WellFormed}
use Rattle.graph.proofs.Next.{after_beside, key_sides, legal_back, legal_past, past_incomplete}
use Rattle.graph.proofs.Places.{place_old}
use Rattle.graph.proofs.Unique.{later_step, no_smaller}
use Rattle.graph.proofs.Walk.{past_live_iff}
use Rattle.forests.specs.Forests.{cut}
use Rattle.forests.proofs.Cuts.{cut_out}
use Rattle.forests.proofs.Forest.{Forest}
use Rattle.forests.proofs.Joined.{Joined, Lies, ends_joined, joined_map, joined_row, lies_in_lem}
use Rattle.states.proofs.Rest.{Begun, Fresh, Onto, RestRow, Usable, coming, fresh_in, inside, inward, leaving, outward, rest, rest_inside, rest_onto, rest_row, rest_usable, within}
use Rattle.states.proofs.Full.{Full, LeastFull, full_cons, full_forest, full_live, full_of, full_tail}

pub begun_past : {g : Graph} {s : State} (k : Key) → Begun g s → Begun g (past s k)
begun_past k b = record { sound = record { once = b.sound.once; nodes = b.sound.nodes }; plant = b.plant }

-- the least of the completions with all rows ms that come after all those that begin with k
pub record LeastPastFull (g : Graph) (s : State) (ms : List ℕ) (k l : Key) (ls : List Key) : Type 0 where
  pub full : Full g s ms (l ∷ ls)
  pub above : KeyLess k l
  pub least : (m : Key) (js : List Key) → Full g s ms (m ∷ js) → KeyLess k m → KeysLe (l ∷ ls) (m ∷ js)

-- there is none
abbrev pub NonePastFull : Graph → State → List ℕ → Key → Type 0
NonePastFull g s ms k = (m : Key) (js : List Key) → Full g s ms (m ∷ js) → ¬ KeyLess k m

-- MUST: a row of ms is not given up
pub must_last : (g : Graph) (s : State) (ms : List ℕ) (k : Key) → Legal g (row_numbers g) s k → k.row ∈ ms → NonePastFull g s ms k
must_last g s ms k h i m js f = no_smaller g (row_numbers g) s k m js h f.completes (f.all k.row i)

module _ (g : Graph) (wf : WellFormed g) (s : State) (b : Begun g s) (ms : List ℕ) (once : Distinct ms) (k : Key) (ks : List Key) (f : Full g s ms (k ∷ ks))
    (free : ¬ (k.row ∈ ms)) where
  abbrev h : Legal g (row_numbers g) s k
  h = f.completes.0

  -- the rows are all taken after k
  later : {r : ℕ} → r ∈ ms → r ∈ rows_of ks
  later {r} i = ⊎_elim (λ e. absurd (free (mem_cast (sym e) i))) (λ j. j) (mem_cases (f.all r i))

  -- The rest past k

  fresh_past : {v : ℕ} → Fresh g s v → Fresh g (past s k) v
  fresh_past x = record { node = x.node; new = x.new }

  fresh_back : {v : ℕ} → Fresh g (past s k) v → Fresh g s v
  fresh_back x = record { node = x.node; new = x.new }

  onto_back : {u v : ℕ} → Onto g (past s k) u v → Onto g s u v
  onto_back o = record { leaves = o.leaves; enters = fresh_back o.enters; above = lex_trans h.above o.above }

  onto_past : {r u v : ℕ} → r ∈ ms → Joins g r u v → Onto g s u v → Onto g (past s k) u v
  onto_past {r} {u} {v} i j o = record {
    leaves = o.leaves;
    enters = fresh_past o.enters;
    above = rw (place_old s.entered k.node o.leaves) at
        (later_step g (row_numbers g) (after s k) ks {r = r} {u = u} {w = v} f.completes.1 (later i) j (snoc_old k.node o.leaves)).0;
  }

  -- its rows are rows of the rest at s
  joins_back : {r u v : ℕ} → Joins (rest g (past s k)) r u v → u ∈ (rest g s).nodes → v ∈ (rest g s).nodes → Joins (rest g s) r u v
  joins_back {r} {u} {v} j m n = step (rest_row g wf (past s k) (begun_past k b) j m n)
    where
      step : RestRow g wf (past s k) (begun_past k b) r u v → Joins (rest g s) r u v
      step (within o x y) = rest_inside g wf s b o (fresh_back x) (fresh_back y)
      step (leaving e o x) = rw e (rest_onto g wf s b o (onto_back x))
      step (coming e o x) = rw e (joins_sym (rest_onto g wf s b o (onto_back x)))

  joined_back : {qs : List ℕ} {u v : ℕ} → Joined (rest g (past s k)) qs u v → Joined (rest g s) qs u v
  joined_back {qs} = joined_map (rest g (past s k)) (rest g s) qs qs (λ x. x) (λ v m. m) (λ r u v i o m n. joined_row i (joins_back o m n) m n)

  -- and all of ms stay
  lies_past : (r : ℕ) → r ∈ ms → Lies (rest g (past s k)) r
  lies_past r i = step (rest_usable g wf s b r ((full_forest g wf s b ms once (k ∷ ks) f).lies r i)).1
    where
      node : {v : ℕ} → Fresh g s v → v ∈ (rest g (past s k)).nodes
      node x = there (fresh_in g wf (past s k) (begun_past k b) (fresh_past x))

      step : Usable g s (first_end g r) (second_end g r) → Lies (rest g (past s k)) r
      step (inside x y) = lies_in_lem (rest_inside g wf (past s k) (begun_past k b) {r = r} (forth refl refl) (fresh_past x) (fresh_past y)) (node x) (node y)
      step (outward o) = lies_in_lem (rest_onto g wf (past s k) (begun_past k b) {r = r} (forth refl refl) (onto_past i (forth refl refl) o)) (here refl) (node o.enters)
      step (inward o) = lies_in_lem (rest_onto g wf (past s k) (begun_past k b) {r = r} (back refl refl) (onto_past i (back refl refl) o)) (here refl) (node o.enters)

  forest_past : Forest (rest g (past s k)) ms
  forest_past = record {
    once = once;
    lies = lies_past;
    apart = λ r i j. (full_forest g wf s b ms once (k ∷ ks) f).apart r i
        (ends_joined (joins_back (forth refl refl) (lies_past r i).first (lies_past r i).second) (joined_back j));
  }

  -- PAST k there is one exactly if that state is live, which is that k's node is still reached
  pub past_full : ((ls : List Key) × Full g (past s k) ms ls) ↔ Live g (row_numbers g) (past s k)
  past_full = (
    λ (ls, x). full_live g wf (past s k) (begun_past k b) ms once ls x,
    λ live. full_of g wf (past s k) (begun_past k b) ms once live forest_past,
  )

  pub past_full_iff : ((ls : List Key) × Full g (past s k) ms ls) ↔ Reaches g (row_numbers g) (past s k) k.node
  past_full_iff =
      let i = past_live_iff g (row_numbers g) s k ks f.completes in
      (λ t. i.0 (past_full.0 t), λ x. past_full.1 (i.1 x))

  -- so it does as well as k
  pub beside_full : (l : Key) → Legal g (row_numbers g) s l → Beside k l → Full g (after s l) (cut l.row ms) ks
  beside_full l x p = record {
    completes = subst (λ (t : State). Completion g (row_numbers g) t ks) (after_beside s k l p) f.completes.1;
    all = λ r i. later (cut_out l.row ms i).0;
  }

-- SKIP

module _ (g : Graph) (s : State) (ms : List ℕ) (k : Key) (h : Legal g (row_numbers g) s k) where
  -- by the next parallel row
  pub skip_beside_full : (l : Key) (ls : List Key) → Least g (row_numbers g) s (Beside k) l → LeastFull g (after s l) (cut l.row ms) ls → LeastPastFull g s ms k l ls
  skip_beside_full l ls a x =
      record { full = full_cons a.legal x.full; above = beside a.passes; least = λ m js c y. step m js c (key_sides y) }
    where
      near : (m : Key) (js : List Key) → Full g s ms (m ∷ js) → Beside k m → KeyCases l m → KeysLe (l ∷ ls) (m ∷ js)
      near m js c y (inl z) = inl z
      near m js c y (inr (inl e)) = inr (e, x.least js (full_tail (subst (λ (z : Key). Full g s ms (z ∷ js)) (sym e) c)))
      near m js c y (inr (inr z)) = absurd (a.least m c.completes.0 y z)

      step : (m : Key) (js : List Key) → Full g s ms (m ∷ js) → Ahead k m ⊎ Beside k m → KeysLe (l ∷ ls) (m ∷ js)
      step m js c (inl y) = inl (ahead (rw (← a.passes.place, ← a.passes.node) y))
      step m js c (inr y) = near m js c y (key_compare l m)

  -- with no such row: by the least of the state past k
  pub skip_past_full : (l : Key) (ls : List Key) → ((m : Key) → Legal g (row_numbers g) s m → ¬ Beside k m) → LeastFull g (past s k) ms (l ∷ ls)
      → LeastPastFull g s ms k l ls
  skip_past_full l ls n x = record {
    full = record { completes = (legal_back g (row_numbers g) s k h l x.full.completes.0, x.full.completes.1); all = x.full.all };
    above = ahead x.full.completes.0.above;
    least = λ m js c y. step m js c (key_sides y);
  }
    where
      step : (m : Key) (js : List Key) → Full g s ms (m ∷ js) → Ahead k m ⊎ Beside k m → KeysLe (l ∷ ls) (m ∷ js)
      step m js c (inl y) = x.least (m ∷ js) (record { completes = (legal_past g (row_numbers g) s k h m c.completes.0 y, c.completes.1); all = c.all })
      step m js c (inr y) = absurd (n m c.completes.0 y)

  -- with no such row, and none at the state past k: nothing
  pub skip_none_full : ((m : Key) → Legal g (row_numbers g) s m → ¬ Beside k m) → ((ls : List Key) → ¬ Full g (past s k) ms ls) → NonePastFull g s ms k
  skip_none_full n x m js c y = ⊎_elim
      (λ z. x (m ∷ js) (record { completes = (legal_past g (row_numbers g) s k h m c.completes.0 z, c.completes.1); all = c.all }))
      (λ z. n m c.completes.0 z) (key_sides y)

  -- the state past k lacks k's node
  pub past_some : (ls : List Key) → Full g (past s k) ms ls → (l : Key) × (js : List Key) × (ls ≡ l ∷ js)
  past_some [] x = absurd (past_incomplete g (row_numbers g) s k h x.completes)
  past_some (l ∷ js) x = (l, js, refl)

-- A growing minimal path: its states and legal steps, what can still be reached, and its completions.
-- A state can be completed exactly if each node that is not entered is reached (`greedy_live`, `necessary`).
use mathlib.Core.Path.{◌∙◌, ◌≡◌, ap, refl, subst, sym}
use mathlib.Core.Logic.{◌⊎◌, inl, inr}
use mathlib.Core.List.{List, [], ◌++◌, ◌∷◌}
use Prim.Native.Nat.{◌<◌, suc, ℕ}
use native.Mathlib.Decide.{ℕ_discrete}
use native.Mathlib.Omega.{arith}
use lib.ListN.{length}
use Rattle.lists.proofs.Members.{◌∈◌, not_snoc, snoc_new, snoc_old, snoc_out}
use Rattle.graph.specs.Graph.{Graph, first_end, second_end}
use Rattle.graph.specs.Paths.{Key, place_of}
use Rattle.graph.proofs.Keys.{Ahead, Lex, LexCases, further, lex_compare, lex_trans}
use Rattle.graph.proofs.Places.{place_below, place_new, place_old}

-- the nodes entered, by place, and the place and node of the last step: the next step must come after these
pub record State : Type 0 where
  pub entered : List ℕ
  pub place : ℕ
  pub node : ℕ

abbrev pub after : State → Key → State
after s k = record { entered = s.entered ++ (k.node ∷ []); place = k.place; node = k.node }

-- the same nodes entered, with another bound
abbrev pub bound : State → ℕ → ℕ → State
bound s p j = record { entered = s.entered; place = p; node = j }

-- the bound moved up to k
abbrev pub past : State → Key → State
past s k = bound s k.place k.node

abbrev pub start : Graph → State
start g = record { entered = g.plant ∷ []; place = 0; node = 0 }

pub data Joins (g : Graph) (r u v : ℕ) : Type 0 where
  forth : first_end g r ≡ u → second_end g r ≡ v → Joins g r u v
  back : first_end g r ≡ v → second_end g r ≡ u → Joins g r u v

pub joins_sym : {g : Graph} {r u v : ℕ} → Joins g r u v → Joins g r v u
joins_sym (forth a b) = back a b
joins_sym (back a b) = forth a b

-- k is a step from an entered node, the pivot, to a node that is not entered
pub record Step (g : Graph) (entered : List ℕ) (k : Key) : Type 0 where
  pub pivot : ℕ
  pub joined : Joins g k.row pivot k.node
  pub leaves : pivot ∈ entered
  pub enters : k.node ∈ g.nodes
  pub fresh : ¬ (k.node ∈ entered)
  pub stands : k.place ≡ place_of entered pivot

-- it may come next: its row is usable, and it comes after the last step
pub record Legal (g : Graph) (rs : List ℕ) (s : State) (k : Key) : Type 0 where
  pub step : Step g s.entered k
  pub usable : k.row ∈ rs
  pub above : Lex s.place s.node k.place k.node

-- a node that is not entered, and that a legal step enters, or a row leads to from another such node
pub data Reaches (g : Graph) (rs : List ℕ) (s : State) : ℕ → Type 0 where
  direct : {k : Key} {v : ℕ} → Legal g rs s k → k.node ≡ v → Reaches g rs s v
  onward : {r u v : ℕ} → Reaches g rs s u → r ∈ rs → Joins g r u v → v ∈ g.nodes → ¬ (v ∈ s.entered) → Reaches g rs s v

abbrev pub Live : Graph → List ℕ → State → Type 0
Live g rs s = (v : ℕ) → v ∈ g.nodes → ¬ (v ∈ s.entered) → Reaches g rs s v

-- legal steps one after the other, until all nodes are entered
abbrev pub Completion : Graph → List ℕ → State → List Key → Type 0
Completion g rs s [] = (v : ℕ) → v ∈ g.nodes → v ∈ s.entered
Completion g rs s (k ∷ ks) = Legal g rs s k × Completion g rs (after s k) ks

-- the rows of a path, read off its keys
abbrev pub rows_of : List Key → List ℕ
rows_of [] = []
rows_of (k ∷ ks) = k.row ∷ rows_of ks

pub rows_of_length : (ks : List Key) → length (rows_of ks) ≡ length ks
rows_of_length [] = refl
rows_of_length (k ∷ ks) = ap suc (rows_of_length ks)

-- no legal step has a smaller place and node
abbrev pub Lowest : Graph → List ℕ → State → Key → Type 0
Lowest g rs s k = (l : Key) → Legal g rs s l → ¬ Ahead l k

-- a legal step stays one with other rows that have its own, and another bound that it passes
pub legal_with : {g : Graph} {rs qs : List ℕ} {s : State} {k : Key} (p j : ℕ)
    → Legal g rs s k → k.row ∈ qs → Lex p j k.place k.node → Legal g qs (bound s p j) k
legal_with p j h i a = record { step = h.step; usable = i; above = a }

module _ (g : Graph) (rs : List ℕ) (s : State) where
  -- the last step's pivot stands below the place of a node entered next
  pub pivot_below : (k : Key) → Legal g rs s k → k.place < length s.entered
  pivot_below k h = omega (arith, h.step.stands, place_below s.entered h.step.leaves)

  -- a legal step stays legal when another node is entered, if it comes after that step
  pub stays_legal : (k l : Key) → Legal g rs s l → ¬ (l.node ≡ k.node) → Ahead k l → Legal g rs (after s k) l
  stays_legal k l h n a = record {
    step = record {
      pivot = h.step.pivot;
      joined = h.step.joined;
      leaves = snoc_old k.node h.step.leaves;
      enters = h.step.enters;
      fresh = not_snoc s.entered h.step.fresh n;
      stands = h.step.stands ∙ sym (place_old s.entered k.node h.step.leaves);
    };
    usable = h.usable;
    above = a;
  }

  -- from the node entered last, every step is legal
  pub from_last : (k : Key) {r v : ℕ} → Legal g rs s k → r ∈ rs → Joins g r k.node v → v ∈ g.nodes → ¬ (v ∈ s.entered) → ¬ (v ≡ k.node)
      → Legal g rs (after s k) (record { place = length s.entered; node = v; row = r })
  from_last k h i j m f n = record {
    step = record {
      pivot = k.node;
      joined = j;
      leaves = snoc_new s.entered k.node;
      enters = m;
      fresh = not_snoc s.entered f n;
      stands = sym (place_new s.entered k.node h.step.fresh);
    };
    usable = i;
    above = further (pivot_below k h);
  }

  -- GREEDY: what is reached stays reached when a lowest legal step is taken
  pub greedy_reaches : (k : Key) → Legal g rs s k → Lowest g rs s k → {v : ℕ} → Reaches g rs s v → ¬ (v ≡ k.node) → Reaches g rs (after s k) v
  greedy_reaches k h low (direct {k = l} i e) n =
      direct (stays_legal k l i (λ d. n (sym e ∙ d)) (climb (lex_compare k.place k.node l.place l.node))) e
    where
      climb : LexCases k.place k.node l.place l.node → Ahead k l
      climb (inl a) = a
      climb (inr (inl a)) = absurd (n (sym e ∙ sym a.1))
      climb (inr (inr a)) = absurd (low l i a)
  greedy_reaches k h low (onward {r = r} {u = u} {v = v} x i j m f) n = elim (ℕ_discrete u k.node) [
    | yes e ↦ direct (from_last k h i (rw e at j) m f n) refl
    | no d ↦ onward (greedy_reaches k h low x d) i j m (not_snoc s.entered f n)
  ]

  pub greedy_live : (k : Key) → Legal g rs s k → Lowest g rs s k → Live g rs s → Live g rs (after s k)
  greedy_live k h low live v m f =
      greedy_reaches k h low (live v m (λ i. f (snoc_old k.node i)))
      (λ e. f (subst (λ (x : ℕ). x ∈ s.entered ++ (k.node ∷ [])) (sym e) (snoc_new s.entered k.node)))

  -- where something is reached there is a legal step
  pub some_step : {v : ℕ} → Reaches g rs s v → (k : Key) × Legal g rs s k
  some_step (direct {k = k} h e) = (k, h)
  some_step (onward x i j m f) = some_step x

  -- what is reached after the step k is reached with the same nodes entered but k's, and a bound that k's successors pass, if k's node is
  pub reaches_before : (k : Key) (p j : ℕ) → ((q w : ℕ) → Lex k.place k.node q w → Lex p j q w) → Reaches g rs (bound s p j) k.node → {v : ℕ}
      → Reaches g rs (after s k) v → Reaches g rs (bound s p j) v
  reaches_before k p j pass x (direct {k = l} {v = v} i e) = step (snoc_out s.entered i.step.leaves)
    where
      fresh : ¬ (l.node ∈ s.entered)
      fresh m = i.step.fresh (snoc_old k.node m)

      step : (i.step.pivot ∈ s.entered) ⊎ (i.step.pivot ≡ k.node) → Reaches g rs (bound s p j) v
      step (inl m) = direct {k = l} (record {
        step = record {
          pivot = i.step.pivot;
          joined = i.step.joined;
          leaves = m;
          enters = i.step.enters;
          fresh = fresh;
          stands = i.step.stands ∙ place_old s.entered k.node m;
        };
        usable = i.usable;
        above = pass l.place l.node i.above;
      }) e
      step (inr d) = subst (Reaches g rs (bound s p j)) e (onward x i.usable (rw d at i.step.joined) i.step.enters fresh)
  reaches_before k p j pass x (onward y i o m f) = onward (reaches_before k p j pass x y) i o m (λ t. f (snoc_old k.node t))

  -- so the state past k is live exactly if the state after k is, and k's node can still be reached
  pub past_reached : (k : Key) → Live g rs (after s k) → Reaches g rs (past s k) k.node → Live g rs (past s k)
  past_reached k live x v m f = elim (ℕ_discrete v k.node) [
    | yes e ↦ subst (Reaches g rs (past s k)) (sym e) x
    | no n ↦ reaches_before k k.place k.node (λ q w h. h) x (live v m (not_snoc s.entered f n))
  ]

-- NECESSARY: a state with a completion is live
pub necessary : (g : Graph) (rs : List ℕ) (s : State) (ks : List Key) → Completion g rs s ks → Live g rs s
necessary g rs s [] c v m f = absurd (f (c v m))
necessary g rs s (k ∷ ks) c v m f = elim (ℕ_discrete v k.node) [
  | yes e ↦ direct c.0 (sym e)
  | no n ↦ reaches_before g rs s k s.place s.node (λ q w. lex_trans c.0.above)
      (direct c.0 refl) (necessary g rs (after s k) ks c.1 v m (not_snoc s.entered f n))
]

-- The least legal step of a state (`Least`, `least_step`), and the least completion (`LeastCompletion`): a live state has one, by taking
-- the least legal step again and again (`least_cons`, `sufficient`); `complete` gives it or says that the state is not live.
use mathlib.Core.Path.{◌∙◌, ◌≡◌, ap, refl, subst, sym}
use mathlib.Core.Logic.{◌⊎◌, inl, inr, ⊎_elim}
use mathlib.Core.List.Memᴰ.{cases_cons as mem_cases}
use mathlib.Core.List.Memᴰ.{cast as mem_cast}
use mathlib.Core.List.Memᴰ.{head as here}
use mathlib.Core.List.Memᴰ.{not-nil as mem_nil}
use mathlib.Core.List.Memᴰ.{tail as there}
use mathlib.Core.List.{List, [], ◌∷◌}
use Prim.Native.Nat.{◌+◌, ◌<◌, ◌≤◌, suc, zero, ℕ}
use native.Mathlib.Decide.{ℕ_discrete}
use native.Mathlib.Omega.{arith}
use lib.ListN.{length}
use Rattle.lists.proofs.Distinct.{Distinct, mem?, pigeonhole, snoc_distinct, subset?}
use Rattle.lists.proofs.Members.{◌∈◌, ◌⊆◌, length_snoc, snoc_out}
use Rattle.graph.specs.Graph.{Graph, first_end, second_end}
use Rattle.graph.specs.Paths.{Key, place_of}
use Rattle.graph.proofs.Growth.{Completion, Joins, Legal, Live, State, after, back, forth, greedy_live, some_step}
use Rattle.graph.proofs.Keys.{KeyCases, KeyLess, KeysLe, LexCases, ahead, key_compare, key_irrefl, key_trans, lex_asym, lex_compare, lex_irrefl}

-- A row makes at most one step

pub joins_cases : {g : Graph} {r u v a b : ℕ} → Joins g r u v → Joins g r a b → ((u ≡ a) × (v ≡ b)) ⊎ ((u ≡ b) × (v ≡ a))
joins_cases (forth x y) (forth z w) = inl (sym x ∙ z, sym y ∙ w)
joins_cases (forth x y) (back z w) = inr (sym x ∙ z, sym y ∙ w)
joins_cases (back x y) (forth z w) = inr (sym y ∙ w, sym x ∙ z)
joins_cases (back x y) (back z w) = inl (sym y ∙ w, sym x ∙ z)

-- a legal step whose row joins an entered node u and w goes from u to w
pub row_step : (g : Graph) (rs : List ℕ) (s : State) (k : Key) {u w : ℕ} → Legal g rs s k → Joins g k.row u w → u ∈ s.entered
    → (k.node ≡ w) × (k.place ≡ place_of s.entered u)
row_step g rs s k {u} {w} h j i = step (joins_cases h.step.joined j)
  where
    step : ((h.step.pivot ≡ u) × (k.node ≡ w)) ⊎ ((h.step.pivot ≡ w) × (k.node ≡ u)) → (k.node ≡ w) × (k.place ≡ place_of s.entered u)
    step (inl e) = (e.1, h.step.stands ∙ ap (place_of s.entered) e.0)
    step (inr e) = absurd (h.step.fresh (mem_cast e.1 i))

pub row_key : (g : Graph) (rs : List ℕ) (s : State) (k l : Key) → Legal g rs s k → Legal g rs s l → k.row ≡ l.row → k ≡ l
row_key g rs s k l h i e =
    let o = row_step g rs s k {u = i.step.pivot} {w = l.node} h (rw e i.step.joined) i.step.leaves in
    λ x. record { place = (o.1 ∙ sym i.step.stands) x; node = o.0 x; row = e x }

-- The least legal step of those that a test C passes

pub record Least (g : Graph) (rs : List ℕ) (s : State) (C : Key → Type 0) (k : Key) : Type 0 where
  pub legal : Legal g rs s k
  pub passes : C k
  pub least : (m : Key) → Legal g rs s m → C m → ¬ KeyLess m k

module _ (g : Graph) (rs : List ℕ) (s : State) where
  -- a legal step by the row r
  abbrev pub StepBy : ℕ → Type 0
  StepBy r = (k : Key) × Legal g rs s k × (k.row ≡ r)

  -- no legal step by the row r goes from u to v
  abbrev NotBy : ℕ → ℕ → ℕ → Type 0
  NotBy r u v = (k : Key) (h : Legal g rs s k) → k.row ≡ r → h.step.pivot ≡ u → k.node ≡ v → ⊥

  attempt : (r u v : ℕ) → r ∈ rs → Joins g r u v → StepBy r ⊎ NotBy r u v
  attempt r u v i j =
      step (mem? ℕ_discrete u s.entered) (mem? ℕ_discrete v g.nodes) (mem? ℕ_discrete v s.entered)
      (lex_compare s.place s.node (place_of s.entered u) v)
    where
      step : Dec (u ∈ s.entered) → Dec (v ∈ g.nodes) → Dec (v ∈ s.entered) → LexCases s.place s.node (place_of s.entered u) v → StepBy r ⊎ NotBy r u v
      step (no a) b c d = inr (λ k h e p q. a (mem_cast (sym p) h.step.leaves))
      step (yes a) (no b) c d = inr (λ k h e p q. b (mem_cast (sym q) h.step.enters))
      step (yes a) (yes b) (yes c) d = inr (λ k h e p q. h.step.fresh (mem_cast q c))
      step (yes a) (yes b) (no c) (inl d) =
          inl (
            record { place = place_of s.entered u; node = v; row = r },
            record { step = record { pivot = u; joined = j; leaves = a; enters = b; fresh = c; stands = refl }; usable = i; above = d },
            refl,
          )
      step (yes a) (yes b) (no c) (inr (inl d)) =
          inr (λ k h e p q. lex_irrefl (d.0 ∙ sym (h.step.stands ∙ ap (place_of s.entered) p)) (d.1 ∙ sym q) h.above)
      step (yes a) (yes b) (no c) (inr (inr d)) = inr (λ k h e p q. lex_asym h.above (rw (h.step.stands ∙ ap (place_of s.entered) p, q) d))

  -- the legal step of a row, if it makes one
  pub step_of_row : (r : ℕ) → r ∈ rs → StepBy r ⊎ ((k : Key) → Legal g rs s k → ¬ (k.row ≡ r))
  step_of_row r i = step (attempt r (first_end g r) (second_end g r) i (forth refl refl)) (attempt r (second_end g r) (first_end g r) i (back refl refl))
    where
      step : StepBy r ⊎ NotBy r (first_end g r) (second_end g r) → StepBy r ⊎ NotBy r (second_end g r) (first_end g r) → StepBy r ⊎ ((k : Key) → Legal g rs s k → ¬ (k.row ≡ r))
      step (inl a) b = inl a
      step (inr a) (inl b) = inl b
      step (inr a) (inr b) =
          inr (λ k h e. ⊎_elim (λ c. a k h e c.0 c.1) (λ c. b k h e c.0 c.1) (joins_cases h.step.joined (rw e (forth refl refl))))

  module _ (C : Key → Type 0) (dec_c : (k : Key) → Dec (C k)) where
    abbrev Found : List ℕ → Type 0
    Found l =
        ((k : Key) × Legal g rs s k × C k × ((m : Key) → Legal g rs s m → C m → m.row ∈ l → ¬ KeyLess m k)) ⊎
        ((m : Key) → Legal g rs s m → C m → ¬ (m.row ∈ l))

    least_of_lem : (l : List ℕ) → l ⊆ rs → Found l
    least_of_lem [] w = inr (λ m h c. mem_nil)
    least_of_lem (r ∷ l) w = first (step_of_row r (w r (here refl))) (least_of_lem l (λ v i. w v (there i)))
      where
        skip_row : ((m : Key) → Legal g rs s m → C m → ¬ (m.row ≡ r)) → Found l → Found (r ∷ l)
        skip_row n (inl t) = inl (t.0, t.1, t.2, λ m h c i. ⊎_elim (λ e. absurd (n m h c e)) (λ j. t.3 m h c j) (mem_cases i))
        skip_row n (inr f) = inr (λ m h c i. ⊎_elim (λ e. n m h c e) (λ j. f m h c j) (mem_cases i))

        better : (k : Key) → Legal g rs s k → k.row ≡ r → C k → Found l → Found (r ∷ l)
        better k h e c (inr f) =
            inl
            (k, h, c, λ m i d o. ⊎_elim (λ a. λ b. key_irrefl (rw (row_key g rs s m k i h (a ∙ sym e)) at b)) (λ a. absurd (f m i d a)) (mem_cases o))
        better k h e c (inl t) = choose (key_compare k t.0)
          where
            choose : KeyCases k t.0 → Found (r ∷ l)
            choose (inl b) =
                inl
                (k, h, c, λ m i d o q. ⊎_elim (λ a. key_irrefl (rw (row_key g rs s m k i h (a ∙ sym e)) at q)) (λ a. t.3 m i d a (key_trans q b)) (mem_cases o))
            choose (inr (inl b)) =
                inl
                (k, h, c, λ m i d o q. ⊎_elim (λ a. key_irrefl (rw (row_key g rs s m k i h (a ∙ sym e)) at q)) (λ a. t.3 m i d a (rw b at q)) (mem_cases o))
            choose (inr (inr b)) =
                inl
                (t.0, t.1, t.2, λ m i d o q. ⊎_elim (λ a. key_irrefl (key_trans b (rw (row_key g rs s m k i h (a ∙ sym e)) at q))) (λ a. t.3 m i d a q) (mem_cases o))

        first : StepBy r ⊎ ((k : Key) → Legal g rs s k → ¬ (k.row ≡ r)) → Found l → Found (r ∷ l)
        first (inr n) f = skip_row (λ m h c. n m h) f
        first (inl t) f = elim (dec_c t.0) [
          | yes c ↦ better t.0 t.1 t.2 c f
          | no n ↦ skip_row (λ m h c e. n (subst C (row_key g rs s m t.0 h t.1 (e ∙ sym t.2)) c)) f
        ]

    pub least_step : ((k : Key) × Least g rs s C k) ⊎ ((m : Key) → Legal g rs s m → ¬ C m)
    least_step = elim (least_of_lem rs (λ v i. i)) [
      | inl t ↦ inl (t.0, record { legal = t.1; passes = t.2; least = λ m h c. t.3 m h c h.usable })
      | inr f ↦ inr (λ m h c. f m h c h.usable)
    ]

abbrev pub AnyKey : Key → Type 0
AnyKey k = Unit {0}

-- Entered nodes are nodes, each once

pub record Sound (g : Graph) (s : State) : Type 0 where
  pub once : Distinct s.entered
  pub nodes : s.entered ⊆ g.nodes

pub sound_after : (g : Graph) (rs : List ℕ) (s : State) (k : Key) → Sound g s → Legal g rs s k → Sound g (after s k)
sound_after g rs s k o h = record {
  once = snoc_distinct s.entered o.once h.step.fresh;
  nodes = λ v i. ⊎_elim (λ a. o.nodes v a) (λ e. mem_cast e h.step.enters) (snoc_out s.entered i);
}

-- a node that is not entered leaves room
pub sound_room : (g : Graph) (s : State) {v : ℕ} → Sound g s → v ∈ g.nodes → ¬ (v ∈ s.entered) → length s.entered < length g.nodes
sound_room g s {v} o m f = pigeonhole (v ∷ s.entered) (f, o.once) (λ y i. ⊎_elim (λ e. mem_cast e m) (λ a. o.nodes y a) (mem_cases i))

pub record LeastCompletion (g : Graph) (rs : List ℕ) (s : State) (ks : List Key) : Type 0 where
  pub completes : Completion g rs s ks
  pub least : (ls : List Key) → Completion g rs s ls → KeysLe ks ls

-- the least legal step, then the least completion of what follows
pub least_cons : (g : Graph) (rs : List ℕ) (s : State) (k : Key) (ks : List Key) → Least g rs s AnyKey k → LeastCompletion g rs (after s k) ks
    → LeastCompletion g rs s (k ∷ ks)
least_cons g rs s k ks a b = record { completes = (a.legal, b.completes); least = compare }
  where
    step : (l : Key) (ls : List Key) → Completion g rs s (l ∷ ls) → KeyCases k l → KeysLe (k ∷ ks) (l ∷ ls)
    step l ls c (inl h) = inl h
    step l ls c (inr (inl e)) = inr (e, b.least ls (subst (λ (x : Key). Completion g rs (after s x) ls) (sym e) c.1))
    step l ls c (inr (inr h)) = absurd (a.least l c.0 tt h)

    compare : (ls : List Key) → Completion g rs s ls → KeysLe (k ∷ ks) ls
    compare [] c = absurd (a.legal.step.fresh (c k.node a.legal.step.enters))
    compare (l ∷ ls) c = step l ls c (key_compare k l)

-- each state has a least completion, or is not live
complete_in : (n : ℕ) (g : Graph) (rs : List ℕ) (s : State) → Sound g s → length g.nodes ≤ n + length s.entered
    → ((ks : List Key) × LeastCompletion g rs s ks) ⊎ ¬ Live g rs s
complete_in zero g rs s o b = elim (subset? ℕ_discrete g.nodes s.entered) [
  | inr t ↦ absurd (omega (arith, sound_room g s o t.1 t.2))
  | inl w ↦ inl ([], record { completes = w; least = λ ls c. tt })
]
complete_in (suc n) g rs s o b =
    step (subset? ℕ_discrete g.nodes s.entered) (least_step g rs s AnyKey (λ k. yes tt))
    (λ k h. complete_in n g rs (after s k) (sound_after g rs s k o h) (omega (arith, length_snoc s.entered k.node)))
  where
    grow : (k : Key) → Least g rs s AnyKey k → ((ks : List Key) × LeastCompletion g rs (after s k) ks) ⊎ ¬ Live g rs (after s k)
        → ((ks : List Key) × LeastCompletion g rs s ks) ⊎ ¬ Live g rs s
    grow k a (inl t) = inl (k ∷ t.0, least_cons g rs s k t.0 a t.1)
    grow k a (inr n) = inr (λ live. n (greedy_live g rs s k a.legal (λ l h x. a.least l h tt (ahead x)) live))

    step : (g.nodes ⊆ s.entered) ⊎ ((v : ℕ) × (v ∈ g.nodes) × (¬ (v ∈ s.entered)))
        → ((k : Key) × Least g rs s AnyKey k) ⊎ ((m : Key) → Legal g rs s m → ¬ AnyKey m)
        → ((k : Key) → Legal g rs s k → ((ks : List Key) × LeastCompletion g rs (after s k) ks) ⊎ ¬ Live g rs (after s k))
        → ((ks : List Key) × LeastCompletion g rs s ks) ⊎ ¬ Live g rs s
    step (inl w) a f = inl ([], record { completes = w; least = λ ls c. tt })
    step (inr t) (inl a) f = grow a.0 a.1 (f a.0 a.1.legal)
    step (inr t) (inr n) f = inr (λ live. let x = some_step g rs s (live t.0 t.1 t.2) in n x.0 x.1 tt)

pub complete : (g : Graph) (rs : List ℕ) (s : State) → Sound g s → ((ks : List Key) × LeastCompletion g rs s ks) ⊎ ¬ Live g rs s
complete g rs s o = complete_in (length g.nodes) g rs s o (omega arith)

-- SUFFICIENT: a live state has a least completion
pub sufficient : (g : Graph) (rs : List ℕ) (s : State) → Sound g s → Live g rs s → (ks : List Key) × LeastCompletion g rs s ks
sufficient g rs s o live = elim (complete g rs s o) [ inl t ↦ t | inr n ↦ absurd (n live) ]

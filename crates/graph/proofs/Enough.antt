-- `runs` with as many rows as there are nodes is a run of any length (`runs_enough`), so what it reaches is what the start reaches (`reached_runs`).
use mathlib.Core.Path.{◌≡◌, refl, subst, sym}
use mathlib.Core.Logic.{◌↔◌, ◌⊎◌, inl, inr, ⊎_elim}
use mathlib.Core.List.Memᴰ.{eq_of_singleton}
use mathlib.Core.List.Memᴰ.{not-nil as mem_nil}
use mathlib.Core.List.{List, [], ◌∷◌}
use Prim.Native.Nat.{◌+◌, ◌<◌, suc, zero, ℕ}
use native.Mathlib.Decide.{ℕ_discrete}
use native.Mathlib.Omega.{arith}
use lib.ListN.{length}
use Rattle.lists.specs.Lists.{filter_b}
use Rattle.lists.proofs.Distinct.{Distinct, filter_distinct, pigeonhole, pigeonhole_one, subset?}
use Rattle.lists.proofs.Members.{◌∈◌, ◌⊆◌, cons_⊆, filter_in, filter_out, nil_⊆}
use Rattle.graph.specs.Graph.{Graph, runs}
use Rattle.graph.proofs.Growth.{Joins, Reaches, direct, onward, start}
use Rattle.graph.proofs.Minimal.{WellFormed}
use Rattle.graph.proofs.Runs.{Led, Run, led_by_run, run_in, run_more, run_on, run_out}

-- the last row of a run
record LastRow (g : Graph) (rs : List ℕ) (n a v : ℕ) : Type 0 where
  from : ℕ
  row : ℕ
  before : Run g rs n a from
  usable : row ∈ rs
  joined : Joins g row from v
  enters : v ∈ g.nodes
  known : (a ≡ from) ⊎ (from ∈ g.nodes)

run_last : (g : Graph) (rs : List ℕ) (n a v : ℕ) → Run g rs (suc n) a v → (a ≡ v) ⊎ LastRow g rs n a v
run_last g rs zero a v (inl e) = inl e
run_last g rs zero a v (inr t) = inr (record {
  from = a;
  row = t.1;
  before = refl;
  usable = t.3;
  joined = subst (Joins g t.1 a) t.5 t.4;
  enters = subst (λ (x : ℕ). x ∈ g.nodes) t.5 t.2;
  known = inl refl;
})
run_last g rs (suc n) a v (inl e) = inl e
run_last g rs (suc n) a v (inr t) = inr (go (run_last g rs n t.0 v t.5))
  where
    go : (t.0 ≡ v) ⊎ LastRow g rs n t.0 v → LastRow g rs (suc n) a v
    go (inl e) = record {
      from = a;
      row = t.1;
      before = inl refl;
      usable = t.3;
      joined = subst (Joins g t.1 a) e t.4;
      enters = subst (λ (x : ℕ). x ∈ g.nodes) e t.2;
      known = inl refl;
    }
    go (inr l) = record {
      from = l.from;
      row = l.row;
      before = inr (t.0, t.1, t.2, t.3, t.4, l.before);
      usable = l.usable;
      joined = l.joined;
      enters = l.enters;
      known = inr (⊎_elim (λ e. subst (λ (x : ℕ). x ∈ g.nodes) e t.2) (λ m. m) l.known);
    }

module _ (g : Graph) (wf : WellFormed g) (rs : List ℕ) where
  -- the nodes to which at most s rows lead
  abbrev within : ℕ → List ℕ
  within s = filter_b (λ v. runs g rs s g.plant v) g.nodes

  within_out : (s : ℕ) {v : ℕ} → v ∈ within s → (v ∈ g.nodes) × Run g rs s g.plant v
  within_out s {v} m = let r = filter_out (λ v. runs g rs s g.plant v) g.nodes m in (r.0, run_out g rs s g.plant v r.1)

  within_in : (s : ℕ) {v : ℕ} → v ∈ g.nodes → Run g rs s g.plant v → v ∈ within s
  within_in s {v} m r = filter_in (λ v. runs g rs s g.plant v) m (run_in g rs s g.plant v r)

  within_more : (s : ℕ) → within s ⊆ within (suc s)
  within_more s v m = let r = within_out s m in within_in (suc s) r.0 (run_more g rs s g.plant v r.1)

  within_distinct : (s : ℕ) → Distinct (within s)
  within_distinct s = filter_distinct (λ v. runs g rs s g.plant v) g.nodes wf.once

  -- one row more leads nowhere new
  abbrev Closed : ℕ → Type 0
  Closed s = within (suc s) ⊆ within s

  closed_next : (s : ℕ) → Closed s → Closed (suc s)
  closed_next s c v m = let r = within_out (suc (suc s)) m in go r.0 (run_last g rs (suc s) g.plant v r.1)
    where
      go : v ∈ g.nodes → (g.plant ≡ v) ⊎ LastRow g rs (suc s) g.plant v → v ∈ within (suc s)
      go i (inl e) = within_in (suc s) i (inl e)
      go i (inr l) =
          let node : l.from ∈ g.nodes = ⊎_elim (λ e. subst (λ (x : ℕ). x ∈ g.nodes) e wf.plant) (λ m. m) l.known in
          let near = within_out s (c l.from (within_in (suc s) node l.before)) in
          within_in (suc s) i (run_on g rs s g.plant l.from v l.row near.1 l.usable l.joined l.enters)

  closed_after : (s d : ℕ) → Closed s → within (d + s) ⊆ within s
  closed_after s zero c v m = rw (zero_plus s) at m
    where
      zero_plus : (n : ℕ) → zero + n ≡ n
      zero_plus n = omega arith
  closed_after s (suc d) c v m = closed_after s d c v (closed_on d (d + s) refl v (subst (λ (x : ℕ). v ∈ within x) (shift d) m))
    where
      shift : (d : ℕ) → suc d + s ≡ suc (d + s)
      shift d = omega arith

      closed_on : (d n : ℕ) → n ≡ d + s → Closed n
      closed_on zero n e = subst Closed {x = s} {y = n} (omega arith) c
      closed_on (suc d) n e = subst Closed {x = suc (d + s)} {y = n} (omega arith) (closed_next (d + s) (closed_on d (d + s) refl))

  -- each row more leads to a node more, until it is closed
  closed_or_long : (s : ℕ) → Closed s ⊎ (s < length (within s))
  closed_or_long zero = inr (pigeonhole (g.plant ∷ []) {m = within zero} (mem_nil, tt) (cons_⊆ (within_in zero wf.plant refl) (nil_⊆ (within zero))))
  closed_or_long (suc s) = go (closed_or_long s) (subset? ℕ_discrete (within (suc s)) (within s))
    where
      go : Closed s ⊎ (s < length (within s)) → (within (suc s) ⊆ within s) ⊎ ((a : ℕ) × (a ∈ within (suc s)) × (¬ (a ∈ within s)))
          → Closed (suc s) ⊎ (suc s < length (within (suc s)))
      go (inl c) d = inl (closed_next s c)
      go (inr h) (inl c) = inl (closed_next s c)
      go (inr h) (inr t) = inr (omega (arith, pigeonhole_one (within s) {m = within (suc s)} {a = t.0} (within_distinct s) (within_more s) t.1 t.2))

  closed_all : Closed (length g.nodes)
  closed_all = ⊎_elim
      (λ c. c)
      (λ h. absurd (omega (arith, h, pigeonhole (within (length g.nodes)) {m = g.nodes} (within_distinct (length g.nodes)) (λ v m. (within_out (length g.nodes) m).0))))
      (closed_or_long (length g.nodes))

  run_longer : (d n v : ℕ) → Run g rs n g.plant v → Run g rs (n + d) g.plant v
  run_longer zero n v r = subst (λ (x : ℕ). Run g rs x g.plant v) {x = n} {y = n + zero} (omega arith) r
  run_longer (suc d) n v r = subst (λ (x : ℕ). Run g rs x g.plant v) {x = suc (n + d)} {y = n + suc d} (omega arith) (run_more g rs (n + d) g.plant v (run_longer d n v r))

  -- a run of any length is one of at most as many rows as there are nodes
  pub runs_enough : (n v : ℕ) → v ∈ g.nodes → Run g rs n g.plant v → Run g rs (length g.nodes) g.plant v
  runs_enough n v m r =
      (within_out (length g.nodes) (closed_after (length g.nodes) n closed_all v (within_in (n + length g.nodes) m (run_longer (length g.nodes) n v r)))).1

  reaches_run : {v : ℕ} → Reaches g rs (start g) v → (n : ℕ) × (v ∈ g.nodes) × Run g rs n g.plant v
  reaches_run (direct {k} h e) = (
    1,
    subst (λ (x : ℕ). x ∈ g.nodes) e h.step.enters,
    subst (Run g rs 1 g.plant) e (inr (
      k.node,
      k.row,
      h.step.enters,
      h.usable,
      subst (λ (x : ℕ). Joins g k.row x k.node) (eq_of_singleton h.step.leaves) h.step.joined,
      refl,
    )),
  )
  reaches_run (onward {r} {u} {v} x i j m f) = let t = reaches_run x in (suc t.0, m, run_on g rs t.0 g.plant u v r t.2 i j m)

  -- what `runs` reaches is the plant and what the start reaches
  pub reached_runs : (v : ℕ) → v ∈ g.nodes → Run g rs (length g.nodes) g.plant v ↔ Led g wf rs v
  reached_runs v m = (
    λ r. led_by_run g wf rs (length g.nodes) g.plant v (inl refl) r,
    λ l. ⊎_elim (λ e. runs_enough 0 v m (sym e)) (λ x. let t = reaches_run x in runs_enough t.0 v m t.2) l,
  )

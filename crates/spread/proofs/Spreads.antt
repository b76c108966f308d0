-- What is computed with words is what the graph says: the nodes that legal steps enter (`seeds_legal`), what a state
-- reaches (`spread_reaches`).
use mathlib.Core.Path.{◌∙◌, ◌≡◌, ap, refl, sym}
use mathlib.Core.Logic.{◌↔◌, inl, inr, ⊎_elim}
use mathlib.Core.List.{List}
use Prim.Native.Nat.{◌+◌, ◌-◌, ◌<◌, ◌^◌, ◌≤◌, suc, zero, ℕ}
use native.Mathlib.Decide.{ℕ_discrete}
use native.Mathlib.Omega.{arith}
use lib.Dec.{T, eqb, ltb, ltb→lt, lt→ltb}
use lib.ListN.{get_or, length}
use borrow.Author.Tests.{lt-ltb}
use Rattle.lists.proofs.Ascending.{get_or_mem}
use Rattle.lists.proofs.Members.{◌∈◌, range_in, range_out}
use Rattle.lists.proofs.Tests.{T-both, T-either, T_true, pick_elim}
use Rattle.graph.specs.Graph.{Graph, row_numbers}
use Rattle.graph.specs.Paths.{Key}
use Rattle.graph.proofs.Growth.{Joins, Legal, Reaches, State, direct, onward}
use Rattle.graph.proofs.Keys.{Lex, further, level}
use Rattle.graph.proofs.Places.{node_at, place_at, place_below}
use Rattle.graph.proofs.Walk.{reached_in}
use Rattle.words.specs.Words.{has}
use Rattle.words.proofs.Words.{has_above, has_and, has_or, has_zero, words_below}
use Rattle.spread.specs.Spread.{bring, open_at, open_from, seeds_of, spread_of, spread_up_to, sweep_from, sweep_of}
use Rattle.chart.proofs.Charts.{Charted, Ready}
use Rattle.spread.proofs.Sweeps.{spread_fixed}

-- The spread as a set. `nb` and `fresh` are any words, below 2 ^ 64 where it is said.

module _ (nb : List ℕ) (fresh : ℕ) where
  pub open_out : (u v : ℕ) → T (has (open_at nb fresh u) v) → T (has (get_or nb u 0) v) × T (has fresh v)
  unfolding open_at
  open_out u v t = simp (has_and, T-both) at t

  pub open_in_lem : (u v : ℕ) → T (has (get_or nb u 0) v) → T (has fresh v) → T (has (open_at nb fresh u) v)
  unfolding open_at
  open_in_lem u v a b = simp (has_and, T-both) (a, b)

  bring_old : (word u v : ℕ) → T (has word v) → T (has (bring nb fresh word u) v)
  unfolding bring
  bring_old word u v t = pick_elim (λ (w : ℕ). T (has w v)) (has word u) (λ a. simp (has_or, T-either) (inl t)) (λ n. t)

  bring_new : (word u v : ℕ) → T (has word u) → T (has (get_or nb u 0) v) → T (has fresh v) → T (has (bring nb fresh word u) v)
  unfolding bring
  bring_new word u v m a b = rw ((T_true (has word u)).0 m) (simp (has_or, T-either) (inr (open_in_lem u v a b)))

  sweep_old : (k u word v : ℕ) → T (has word v) → T (has (sweep_from nb fresh k u word) v)
  unfolding sweep_from
  sweep_old zero u word v t = t
  sweep_old (suc k) u word v t = sweep_old k (suc u) (bring nb fresh word u) v (bring_old word u v t)

  sweep_new : (k from word u v : ℕ) → from ≤ u → u < from + k → T (has word u) → T (has (get_or nb u 0) v) → T (has fresh v)
      → T (has (sweep_from nb fresh k from word) v)
  unfolding sweep_from
  sweep_new zero from word u v h i m a b = absurd (omega arith)
  sweep_new (suc k) from word u v h i m a b = elim (ℕ_discrete u from) [
    | yes e ↦ sweep_old k (suc from) (bring nb fresh word from) v (bring_new word from v (rw e at m) (rw e at a) b)
    | no d ↦ sweep_new k (suc from) (bring nb fresh word from) u v (omega arith) (omega arith) (bring_old word from u m) a b
  ]

  module _ (limit : ℕ) where
    -- what has the members of the start, and with a member its open neighbours, has all that come in
    module _ (X : ℕ → Type 0) (closed : (u v : ℕ) → 1 ≤ u → u ≤ limit → X u → T (has (get_or nb u 0) v) → T (has fresh v) → X v) where
      bring_in : (word u : ℕ) → 1 ≤ u → u ≤ limit → ((v : ℕ) → T (has word v) → X v) → (v : ℕ) → T (has (bring nb fresh word u) v) → X v
      unfolding bring
      bring_in word u p q h v = pick_elim (λ (w : ℕ). T (has w v) → X v) (has word u)
          (λ m t. ⊎_elim (λ t. h v t) (λ t. let (a, b) = open_out u v t in closed u v p q (h u m) a b) (simp (has_or, T-either) at t)) (λ n t. h v t)

      sweep_in : (k u word : ℕ) → 1 ≤ u → u + k ≤ suc limit → ((v : ℕ) → T (has word v) → X v) → (v : ℕ) → T (has (sweep_from nb fresh k u word) v) → X v
      unfolding sweep_from
      sweep_in zero u word p q h = h
      sweep_in (suc k) u word p q h = sweep_in k (suc u) (bring nb fresh word u) (omega arith) (omega arith) (bring_in word u p (omega arith) h)

      up_in : (k word : ℕ) → ((v : ℕ) → T (has word v) → X v) → (v : ℕ) → T (has (spread_up_to k nb limit fresh word) v) → X v
      unfolding spread_up_to sweep_of
      up_in zero word h v = h v
      up_in (suc k) word h v = let next = sweep_of nb limit fresh word in
          pick_elim (λ (w : ℕ). T (has w v) → X v) (eqb next word) (λ e. h v)
          (λ n. up_in k next (sweep_in limit 1 word (omega arith) (omega arith) h) v)

      pub spread_least : (word : ℕ) → ((v : ℕ) → T (has word v) → X v) → (v : ℕ) → T (has (spread_of nb limit fresh word) v) → X v
      unfolding spread_of
      spread_least word h = up_in (2 ^ 64 - word) word h

    up_old : (k word v : ℕ) → T (has word v) → T (has (spread_up_to k nb limit fresh word) v)
    unfolding spread_up_to sweep_of
    up_old zero word v t = t
    up_old (suc k) word v t = let next = sweep_of nb limit fresh word in
        pick_elim (λ (w : ℕ). T (has w v)) (eqb next word) (λ e. t) (λ n. up_old k next v (sweep_old limit 1 word v t))

    pub spread_start : (word v : ℕ) → T (has word v) → T (has (spread_of nb limit fresh word) v)
    unfolding spread_of
    spread_start word v t = up_old (2 ^ 64 - word) word v t

    pub spread_closed : (word u v : ℕ) → fresh < 2 ^ 64 → word < 2 ^ 64 → 1 ≤ u → u ≤ limit → T (has (spread_of nb limit fresh word) u)
        → T (has (get_or nb u 0) v) → T (has fresh v) → T (has (spread_of nb limit fresh word) v)
    unfolding sweep_of
    spread_closed word u v room h p q m a b =
        rw (spread_fixed nb fresh room limit word h) at (sweep_new limit 1 (spread_of nb limit fresh word) u v p (omega arith) m a b)

  -- The seeds, by places

  module _ (entered : List ℕ) where
    from_out : (k i v : ℕ) → T (has (open_from nb fresh entered k i) v)
        → (j : ℕ) × (i ≤ j) × (j < i + k) × T (has (open_at nb fresh (get_or entered j 0)) v)
    unfolding open_from
    from_out zero i v t = absurd (rw has_zero at t)
    from_out (suc k) i v t = ⊎_elim (λ t. (i, omega arith, omega arith, t))
        (λ t. let (j, h, l, t) = from_out k (suc i) v t in (j, omega arith, omega arith, t)) (simp (has_or, T-either) at t)

    from_in_lem : (k i j v : ℕ) → i ≤ j → j < i + k → T (has (open_at nb fresh (get_or entered j 0)) v) → T (has (open_from nb fresh entered k i) v)
    unfolding open_from
    from_in_lem zero i j v h l t = absurd (omega arith)
    from_in_lem (suc k) i j v h l t = elim (ℕ_discrete j i) [
      | yes e ↦ simp (has_or, T-either) (inl (rw e at t))
      | no d ↦ simp (has_or, T-either) (inr (from_in_lem k (suc i) j v (omega arith) (omega arith) t))
    ]

    pub seeds_out : (place node v : ℕ) → T (has (seeds_of nb fresh entered place node) v)
        → (i : ℕ) × (i < length entered) × T (has (open_at nb fresh (get_or entered i 0)) v) × Lex place node i v
    unfolding seeds_of
    seeds_out place node v = pick_elim (λ (w : ℕ). T (has w v) → (i : ℕ) × (i < length entered) × T (has (open_at nb fresh (get_or entered i 0)) v) × Lex place node i v)
        (ltb place (length entered))
        (λ h t. let below = ltb→lt place (length entered) h in
        ⊎_elim
        (λ t. let (t, l) = simp (has_above, T-both) at t in (place, below, t, level refl (ltb→lt node v l)))
        (λ t. let (j, a, b, t) = from_out (length entered - suc place) (suc place) v t in (j, omega arith, t, further (omega arith)))
        (simp (has_or, T-either) at t))
        (λ n t. absurd (rw has_zero at t))

    pub seeds_in : (place node i v : ℕ) → i < length entered → T (has (open_at nb fresh (get_or entered i 0)) v) → Lex place node i v
        → T (has (seeds_of nb fresh entered place node) v)
    unfolding seeds_of
    seeds_in place node i v h t (further l) =
        rw (lt-ltb place (length entered) (omega arith))
        (simp (has_or, T-either) (inr (from_in_lem (length entered - suc place) (suc place) i v (omega arith) (omega arith) t)))
    seeds_in place node i v h t (level e l) =
        rw (lt-ltb place (length entered) (omega arith))
        (simp (has_or, T-either) (inl (simp (has_above, T-both) (rw (← e) at t, lt→ltb node v l))))

-- What a state reaches

reached_out : (g : Graph) (rs : List ℕ) (s : State) {v : ℕ} → Reaches g rs s v → (v ∈ g.nodes) × (¬ (v ∈ s.entered))
reached_out g rs s x =
    reached_in g rs s (λ v. (v ∈ g.nodes) × (¬ (v ∈ s.entered))) (λ k h. (h.step.enters, h.step.fresh)) (λ r u v x i j m f. (m, f)) x

module _ (g : Graph) (nb : List ℕ) (limit : ℕ) (c : Charted g nb limit) (s : State) (fresh : ℕ) (ready : Ready g s fresh) where
  -- a row joins two nodes exactly if one is in the other's word
  joins_row : (u v : ℕ) → u ∈ g.nodes → v ∈ g.nodes → T (has (get_or nb u 0) v) → (r : ℕ) × (r ∈ row_numbers g) × Joins g r u v
  joins_row u v m n t = let (r, h, j) = (c.joined u v m n).0 t in (r, range_in 0 (length g.first_ends) r (omega arith) (omega arith), j)

  row_joins : (u v r : ℕ) → u ∈ g.nodes → v ∈ g.nodes → r ∈ row_numbers g → Joins g r u v → T (has (get_or nb u 0) v)
  row_joins u v r m n i j = (c.joined u v m n).1 (r, omega (arith, range_out 0 (length g.first_ends) i), j)

  pub seeds_legal : (v : ℕ) → T (has (seeds_of nb fresh s.entered s.place s.node) v) ↔ ((k : Key) × Legal g (row_numbers g) s k × (k.node ≡ v))
  seeds_legal v = (out, into)
    where
      out : T (has (seeds_of nb fresh s.entered s.place s.node) v) → (k : Key) × Legal g (row_numbers g) s k × (k.node ≡ v)
      out t =
          let (i, h, t, l) = seeds_out nb fresh s.entered s.place s.node v t in
          let (a, b) = open_out nb fresh (get_or s.entered i 0) v t in
          let (m, n) = (ready.unentered v).0 b in
          let pivot = get_or_mem s.entered i 0 h in
          let (r, q, j) = joins_row (get_or s.entered i 0) v (ready.sound.nodes (get_or s.entered i 0) pivot) m a in (
            record { place = i; node = v; row = r },
            record {
              step = record {
                pivot = get_or s.entered i 0;
                joined = j;
                leaves = pivot;
                enters = m;
                fresh = n;
                stands = sym (place_at s.entered i ready.sound.once h);
              };
              usable = q;
              above = l;
            },
            refl,
          )

      into : (k : Key) × Legal g (row_numbers g) s k × (k.node ≡ v) → T (has (seeds_of nb fresh s.entered s.place s.node) v)
      into (k, h, e) =
          let p = h.step.pivot in
          let at : get_or s.entered k.place 0 ≡ p = ap (λ (i : ℕ). get_or s.entered i 0) h.step.stands ∙ node_at s.entered h.step.leaves in
          let a = row_joins p k.node k.row (ready.sound.nodes p h.step.leaves) h.step.enters h.usable h.step.joined in
          let b = (ready.unentered k.node).1 (h.step.enters, h.step.fresh) in
          rw e at (seeds_in nb fresh s.entered s.place s.node k.place k.node
          (omega (arith, h.step.stands, place_below s.entered h.step.leaves)) (rw at (open_in_lem nb fresh p k.node a b)) h.above)

  -- both words have room
  fresh_lt : fresh < 2 ^ 64
  fresh_lt = words_below 64 fresh (λ v t. omega (arith, c.small, c.low v ((ready.unentered v).0 t).0))

  seeds_lt : seeds_of nb fresh s.entered s.place s.node < 2 ^ 64
  seeds_lt = words_below 64 (seeds_of nb fresh s.entered s.place s.node)
      (λ v t. let (k, h, e) = (seeds_legal v).0 t in omega (arith, c.small, e, c.low k.node h.step.enters))

  pub spread_reaches : (v : ℕ) → T (has (spread_of nb limit fresh (seeds_of nb fresh s.entered s.place s.node)) v) ↔ Reaches g (row_numbers g) s v
  spread_reaches v = (out v, into)
    where
      seeds : ℕ
      seeds = seeds_of nb fresh s.entered s.place s.node

      out : (v : ℕ) → T (has (spread_of nb limit fresh seeds) v) → Reaches g (row_numbers g) s v
      out = spread_least nb fresh limit (Reaches g (row_numbers g) s)
          (λ u v p q x a b.
          let (m, f) = (ready.unentered v).0 b in
          let (r, i, j) = joins_row u v (reached_out g (row_numbers g) s x).0 m a in
          onward x i j m f)
          seeds (λ v t. let (k, h, e) = (seeds_legal v).0 t in direct h e)

      into : Reaches g (row_numbers g) s v → T (has (spread_of nb limit fresh seeds) v)
      into = reached_in g (row_numbers g) s (λ v. T (has (spread_of nb limit fresh seeds) v))
          (λ k h. spread_start nb fresh limit seeds k.node ((seeds_legal k.node).1 (k, h, refl)))
          (λ r u v x i j m f.
          let n = (reached_out g (row_numbers g) s (out u x)).0 in
          let some : 1 ≤ u = elim (ℕ_discrete u 0) [ yes e ↦ absurd (c.formed.no_zero (rw e at n)) | no d ↦ omega arith ] in
          spread_closed nb fresh limit seeds u v fresh_lt seeds_lt some (c.low u n) x (row_joins u v r n m i j) ((ready.unentered v).1 (m, f)))

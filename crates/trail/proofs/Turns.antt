-- The walk back along a path that is held in arrays, at each step with the nodes that are not entered yet as one word (`fresh_back`, `turn_back`), and whether
-- a node is still reached behind the step to it, asked first of the nodes entered later (`open_beyond_lem`).
use mathlib.Core.Path.{◌∙◌, ◌≡◌, ap, refl, subst, sym}
use mathlib.Core.Logic.{◌↔◌, ⊎_elim}
use mathlib.Core.Bool.{Bool, false}
use mathlib.Core.List.Memᴰ.{cases_cons as mem_cases}
use mathlib.Core.List.Memᴰ.{cast as mem_cast}
use mathlib.Core.List.Memᴰ.{not-nil as mem_nil}
use mathlib.Core.List.{List, [], ◌∷◌}
use Prim.Native.Nat.{◌-◌, ◌<◌, ◌≤◌, ◌^◌, suc, zero, ℕ}
use native.Mathlib.Decide.{dec_lt, ℕ_discrete}
use native.Mathlib.Omega.{arith}
use lib.Bits.{bit_and, bit_or}
use lib.Dec.{T, T_not, eqb, eqb→eq, not_T}
use lib.ListN.{drop, get_or, length, length-take, take, take-append-drop}
use lib.Seq.{get_or-take, length-take-le, split_at, take-suc, take-take}
use Rattle.lists.proofs.Ascending.{get_or_mem}
use Rattle.lists.proofs.Members.{◌∈◌, ◌⊆◌, range_in, range_out}
use Rattle.lists.proofs.Tests.{T-both, T_false, T-same, T_true, eq→eqb, pick_elim}
use Rattle.graph.specs.Graph.{Graph, row_numbers}
use Rattle.graph.specs.Paths.{Key, place_of}
use Rattle.graph.proofs.Growth.{Joins, Legal, Reaches, State, after, bound, direct, joins_sym, pivot_below, start}
use Rattle.graph.proofs.Keys.{Lex, further, level}
use Rattle.graph.proofs.Places.{node_at, place_below, place_here, place_there}
use Rattle.graph.proofs.Walk.{Legals, reached_in, state_after, state_after_snoc}
use Rattle.states.proofs.Beyond.{full_part}
use Rattle.states.proofs.Full.{Full}
use Rattle.words.specs.Words.{bit, has, lowest, minus}
use Rattle.words.proofs.Words.{has_and, has_minus, has_zero, lowest_in, words_below, words_same}
use Rattle.chart.proofs.Charts.{Charts, Ready}
use Rattle.chart.specs.Chart.{graph_in, limit_in, musts_in, near_in, nodes_in, width_in}
use Rattle.spread.specs.Spread.{seeds_of, spread_of}
use Rattle.search.specs.Search.{or_else}
use Rattle.paths.specs.Path.{entered_by, no_key}
use Rattle.grow.specs.Grow.{fresh_after, open_past}
use Rattle.grow.proofs.Grow.{entered_after, fresh_ready, open_past_lem, ready_back}
use Rattle.walk.specs.Walk.{after_from, skip_of}
use Rattle.trail.specs.Trail.{open_beyond, set_of}
use Rattle.trail.proofs.Sets.{entered_length, entered_take, set_in, set_out}

-- PLACES: a node stands below place n exactly if it is one of the first n

pub place_taken : {v : ℕ} (n : ℕ) (l : List ℕ) → v ∈ take n l → place_of l v < n
place_taken zero l m = absurd (mem_nil m)
place_taken (suc n) [] m = absurd (mem_nil m)
place_taken {v} (suc n) (u ∷ l) m = elim (ℕ_discrete u v) [
  | yes e ↦ omega (arith, place_here u v l e)
  | no d ↦ omega (arith, place_there u v l d, place_taken n l (⊎_elim (λ e. absurd (d (sym e))) (λ t. t) (mem_cases m)))
]

pub taken_place : {v : ℕ} (n : ℕ) (l : List ℕ) → v ∈ l → place_of l v < n → v ∈ take n l
taken_place {v} n l m h =
    let b = place_below l m in
    mem_cast (sym (get_or-take n l (place_of l v) 0 h ∙ node_at l m)) (get_or_mem (take n l) (place_of l v) 0 (omega (arith, length-take n l)))

-- WORDS

-- a word that is not empty has a member
some_member : (w : ℕ) → w < 2 ^ 64 → ¬ (w ≡ 0) → (v : ℕ) × T (has w v)
some_member w b n = (lowest w, lowest_in w (omega arith) b)

no_member : (a b v : ℕ) → bit_and a b ≡ 0 → T (has a v) → ¬ T (has b v)
no_member a b v e t s = subst T (ap (λ (w : ℕ). has w v) e ∙ has_zero v) (rw has_and ((T-both (has a v) (has b v)).1 (t, s)))

-- a step to the same node as the bound's comes from a later place
place_up : {p j q v : ℕ} → Lex p j q v → v ≡ j → p < q
place_up (further h) e = h
place_up (level d h) e = absurd (omega arith)

-- two words of the same fresh nodes are one
ready_same : {g : Graph} {s : State} {a b : ℕ} → Ready g s a → Ready g s b → a ≡ b
ready_same {g} {s} {a} {b} p q =
    words_same a b (λ v. T-same (has a v) (has b v) (λ t. (q.unentered v).1 ((p.unentered v).0 t)) (λ t. (p.unentered v).1 ((q.unentered v).0 t)))

module _ {c : List ℕ} (right : Charts c) (keys : List Key) (f : Full (graph_in c) (start (graph_in c)) (musts_in c) keys) where
  abbrev g : Graph
  g = graph_in c

  abbrev state_at : ℕ → State
  state_at i = state_after (start g) (take i keys)

  abbrev step_at : ℕ → Key
  step_at i = get_or keys i no_key

  -- the nodes entered after the first i steps, and those that are not
  abbrev entered_at : ℕ → List ℕ
  entered_at i = entered_by g.plant (take i keys)

  abbrev fresh_at : ℕ → ℕ
  fresh_at i = fresh_after (nodes_in c) (entered_at i)

  legals_at : (i : ℕ) → Legals g (row_numbers g) (start g) (take i keys)
  legals_at i = (full_part {g = g} (start g) (musts_in c) (take i keys) (drop i keys) (rw take-append-drop f)).0

  legal_at : (i : ℕ) → i < length keys → Legal g (row_numbers g) (state_at i) (step_at i)
  legal_at i h = (full_part {g = g} (start g) (musts_in c) (take i keys) (step_at i ∷ drop (suc i) keys) (subst (Full g (start g) (musts_in c)) (split_at keys i no_key h) f)).1.completes.0

  ready_at : (i : ℕ) → Ready g (state_at i) (fresh_at i)
  ready_at i = fresh_ready right.charted (nodes_in c) (take i keys) right.all (legals_at i)

  -- BACK: one node more is fresh
  pub fresh_back : (i : ℕ) → i < length keys → bit_or (fresh_after (nodes_in c) (entered_by (graph_in c).plant (take (suc i) keys))) (bit (get_or keys i no_key).node)
      ≡ fresh_after (nodes_in c) (entered_by (graph_in c).plant (take i keys))
  fresh_back i h =
      let step : state_at (suc i) ≡ after (state_at i) (step_at i) = ap (state_after (start g)) (take-suc keys i no_key h) ∙ state_after_snoc (start g) (take i keys) (step_at i) in
      ready_same (ready_back right.charted (ready_at i).sound (legal_at i h) (subst (λ (s : State). Ready g s (fresh_at (suc i))) step (ready_at (suc i)))) (ready_at i)

  pub turn_back : (i : ℕ) → i < length keys → after_from c (graph_in c).plant (suc i) (fresh_after (nodes_in c) (entered_by (graph_in c).plant (take (suc i) keys))) keys
      ≡ or_else (skip_of c (graph_in c).plant (width_in c - i) (fresh_after (nodes_in c) (entered_by (graph_in c).plant (take i keys))) (take i keys) (get_or keys i no_key))
      (after_from c (graph_in c).plant i (fresh_after (nodes_in c) (entered_by (graph_in c).plant (take i keys))) keys)
  unfolding after_from
  turn_back i h = rw (fresh_back i h)

  -- OPEN: whether the node of step i is still reached with the bound moved up to it
  module _ (i : ℕ) (h : i < length keys) where
    abbrev s : State
    s = state_at i

    abbrev k : Key
    k = step_at i

    abbrev near : ℕ
    near = get_or (near_in false c) k.node 0

    -- the nodes entered behind its pivot
    abbrev later : ℕ
    later = minus (set_of (entered_at i)) (set_of (entered_at k.place))

    entered_same : s.entered ≡ entered_at i
    entered_same = entered_after g (take i keys)

    legal : Legal g (row_numbers g) s k
    legal = legal_at i h

    sound : s.entered ⊆ g.nodes
    sound = (ready_at i).sound.nodes

    pub place_low : (get_or keys i no_key).place ≤ i
    place_low = omega (arith, pivot_below g (row_numbers g) s k legal, ap length entered_same, entered_length g.plant (take i keys), length-take-le i keys (omega arith))

    -- the nodes at places up to the pivot's are those entered after so many steps
    front : take (suc k.place) s.entered ≡ entered_at k.place
    front = ap (take (suc k.place)) entered_same ∙ entered_take g.plant k.place (take i keys) ∙ ap (entered_by g.plant) (take-take k.place i keys place_low)

    word_low : (v : ℕ) → v ∈ s.entered → v < 64
    word_low v m = omega (arith, right.charted.small, right.charted.low v (sound v m))

    later_out : (v : ℕ) → T (has later v) → (v ∈ s.entered) × (k.place < place_of s.entered v)
    later_out v t =
        let (a, n) = (T-both (has (set_of (entered_at i)) v) _).0 (rw has_minus at t) in
        let m : v ∈ s.entered = rw entered_same (set_out (entered_at i) v a) in (
          m,
          elim (dec_lt k.place (place_of s.entered v)) [
            | yes b ↦ b
            | no b ↦ absurd (T_not (has (set_of (entered_at k.place)) v) n (set_in (entered_at k.place) v (word_low v m)
                (subst (λ (l : List ℕ). v ∈ l) front (taken_place (suc k.place) s.entered m (omega arith)))))
          ],
        )

    later_in : (v : ℕ) → v ∈ s.entered → k.place < place_of s.entered v → T (has later v)
    later_in v m b = rw has_minus ((T-both (has (set_of (entered_at i)) v) _).1 (
      set_in (entered_at i) v (word_low v m) (subst (λ (l : List ℕ). v ∈ l) entered_same m),
      not_T (has (set_of (entered_at k.place)) v) (λ t.
          let low = place_taken (suc k.place) s.entered (subst (λ (l : List ℕ). v ∈ l) (sym front) (set_out (entered_at k.place) v t)) in
          omega arith),
    ))

    -- a node is joined to that of the step exactly if it is a neighbour
    joined_near : (v r : ℕ) → v ∈ g.nodes → r ∈ row_numbers g → Joins g r v k.node → T (has near v)
    joined_near v r m u j = (right.charted.joined k.node v legal.step.enters m).1 (r, omega (arith, range_out 0 (length g.first_ends) u), joins_sym j)

    abbrev Open : Type 0
    Open = Reaches g (row_numbers g) (bound s k.place k.node) k.node

    -- from a node entered later it is reached directly
    open_from_lem : (v : ℕ) → T (has near v) → T (has later v) → Open
    open_from_lem v t l =
        let (m, b) = later_out v l in
        let (r, u, j) = (right.charted.joined k.node v legal.step.enters (sound v m)).0 t in
        direct {k = record { place = place_of s.entered v; node = k.node; row = r }} (record {
          step = record { pivot = v; joined = joins_sym j; leaves = m; enters = legal.step.enters; fresh = legal.step.fresh; stands = refl };
          usable = range_in 0 (length g.first_ends) r (omega arith) (omega arith);
          above = further b;
        }) refl

    open_later : ¬ (bit_and near later ≡ 0) → Open
    open_later n =
        let parts : (v : ℕ) → T (has (bit_and near later) v) → T (has near v) × T (has later v) = λ v t. (T-both (has near v) (has later v)).0 (rw has_and at t) in
        let below = words_below 64 (bit_and near later) (λ v t. word_low v (later_out v (parts v t).1).0) in
        let (v, t) = some_member (bit_and near later) below n in
        open_from_lem v (parts v t).0 (parts v t).1

    -- with no neighbour entered later and none that is fresh it is not reached
    shut : bit_and near later ≡ 0 → bit_and near (fresh_at i) ≡ 0 → ¬ Open
    shut none_later none_fresh x = (reached_in g (row_numbers g) (bound s k.place k.node) (λ v. ((v ∈ g.nodes) × (¬ (v ∈ s.entered))) × (¬ (v ≡ k.node)))
        (λ l a. (
          (a.step.enters, a.step.fresh),
          λ e.
              no_member near later a.step.pivot none_later
              (joined_near a.step.pivot l.row (sound a.step.pivot a.step.leaves) a.usable (rw e at a.step.joined))
              (later_in a.step.pivot a.step.leaves (omega (arith, a.step.stands, place_up a.above e))),
        ))
        (λ r u v y q j m n. (
          (m, n),
          λ e.
              no_member near (fresh_at i) u none_fresh (joined_near u r y.0.0 q (rw e at j)) (((ready_at i).unentered u).1 y.0),
        ))
        x).1 refl

    opens : T (open_past c g.plant (fresh_at i) (take i keys) k.place k.node) ↔ Open
    opens = open_past_lem right (take i keys) k.place k.node entered_same (ready_at i)

    abbrev asked : Bool
    asked = open_past c g.plant (fresh_at i) (take i keys) k.place k.node

    by_spread : has (spread_of (near_in false c) (limit_in c) (fresh_at i) (seeds_of (near_in false c) (fresh_at i) (entered_at i) k.place k.node)) k.node ≡ asked
    unfolding open_past
    by_spread = refl

    pub open_beyond_lem : open_beyond c (fresh_after (nodes_in c) (entered_by (graph_in c).plant (take i keys)))
        (minus (set_of (entered_by (graph_in c).plant (take i keys))) (set_of (entered_by (graph_in c).plant (take (get_or keys i no_key).place keys))))
        (entered_by (graph_in c).plant (take i keys)) (get_or keys i no_key).place (get_or keys i no_key).node
        ≡ open_past c (graph_in c).plant (fresh_after (nodes_in c) (entered_by (graph_in c).plant (take i keys))) (take i keys) (get_or keys i no_key).place (get_or keys i no_key).node
    unfolding open_beyond
    open_beyond_lem = pick_elim (λ b. b ≡ asked) (eqb (bit_and near later) 0)
        (λ a. pick_elim (λ b. b ≡ asked) (eqb (bit_and near (fresh_at i)) 0) (λ b. sym ((T_false asked).0 (λ t. shut (eqb→eq _ _ a) (eqb→eq _ _ b) (opens.0 t)))) (λ n. by_spread))
        (λ n. sym ((T_true asked).0 (opens.1 (open_later (λ e. n (eq→eqb _ _ e))))))

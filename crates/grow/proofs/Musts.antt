-- Growing with must rows in the theory of growing paths: `claimed_of` is what must rows reach (`claimed_reaches`), `accepted_of` the least accepted step (`accepted_least`,
-- `accepted_none`), so `grow_with` adds least accepted steps (`grow_accepts`): where there is a completion with all must rows, the least of them (`grow_full`),
-- and where no row is a must row, least legal steps (`free_grown`).
use mathlib.Core.Path.{◌∙◌, ◌≡◌, ap, refl, subst, sym}
use mathlib.Core.Logic.{◌↔◌, ◌⊎◌, inl, inr, ⊎_elim}
use mathlib.Core.Bool.{false, not, true}
use mathlib.Core.Option.{Option, none, some}
use mathlib.Core.List.Memᴰ.{cast as mem_cast}
use mathlib.Core.List.Memᴰ.{not-nil as mem_nil}
use mathlib.Core.List.{List, [], ◌++◌, ◌∷◌, append-nil}
use Prim.Native.Nat.{◌+◌, ◌-◌, ◌<◌, ◌≤◌, suc, zero, ℕ}
use native.Mathlib.Decide.{ℕ_discrete}
use native.Mathlib.Omega.{arith}
use lib.Dec.{T, T_not, eqb, eqb→eq, not_T}
use lib.ListN.{length, length-append}
use lib.Seq.{append_snoc}
use Rattle.lists.specs.Lists.{filter_b, member}
use Rattle.lists.proofs.Distinct.{Distinct, filled, filter_distinct}
use Rattle.lists.proofs.Members.{◌∈◌, ◌⊆◌, filter_in, filter_out, member_in, member_out, range_out}
use Rattle.lists.proofs.Tests.{T-both, decide, pick_elim}
use Rattle.graph.specs.Graph.{Graph, row_numbers}
use Rattle.graph.specs.Paths.{Key, follows}
use Rattle.graph.proofs.Growth.{Joins, Legal, Reaches, State, after, back, direct, forth, legal_with, onward}
use Rattle.graph.proofs.Keys.{KeyCases, KeyLess, ahead, beside, follows_in, follows_out, key_compare, key_trans}
use Rattle.graph.proofs.Least.{Least}
use Rattle.graph.proofs.Masked.{joins_kept, joins_own, masked_legal, masked_reaches, reaches_masked}
use Rattle.graph.proofs.Minimal.{row_numbers_in}
use Rattle.graph.proofs.Walk.{Leasts, state_after, state_after_length}
use Rattle.states.proofs.Rest.{Begun}
use Rattle.states.proofs.Full.{Accepted, Full, LeastFull, begun_after}
use Rattle.states.proofs.Due.{Accepts, Due, accepts_end, accepts_least, accepts_legal, begun_walk}
use Rattle.words.specs.Words.{bit, has, minus}
use Rattle.words.proofs.Words.{has_minus, has_zero}
use Rattle.spread.specs.Spread.{open_at}
use Rattle.chart.proofs.Charts.{Charted, Charts, Ready, few, masked, must_graph_in, musts_known, musts_long, spared}
use Rattle.chart.specs.Chart.{firsts_in, graph_in, head_in, limit_in, musts_in, near_in, seconds_in}
use Rattle.spread.proofs.Spreads.{open_in_lem, spread_reaches}
use Rattle.search.specs.Search.{step_in}
use Rattle.search.proofs.First.{Headed, first_least, first_none}
use Rattle.paths.specs.Path.{entered_by, extended_by}
use Rattle.grow.specs.Grow.{kept}
use Rattle.grow.specs.Musts.{accepted_of, claimed_of, claiming_of, earlier_of, grow_with}
use Rattle.grow.proofs.Grow.{entered_step, ready_after, step_kept}

module _ {c : List ℕ} (right : Charts c) {s : State} (b : Begun (graph_in c) s) {fresh : ℕ} (ready : Ready (graph_in c) s fresh) where
  abbrev g : Graph
  g = graph_in c

  abbrev musts : List ℕ
  musts = musts_in c

  abbrev h : Graph
  h = must_graph_in c

  abbrev nb : List ℕ
  nb = near_in false c

  abbrev must_nb : List ℕ
  must_nb = near_in true c

  abbrev must_firsts : List ℕ
  must_firsts = firsts_in true c

  abbrev must_seconds : List ℕ
  must_seconds = seconds_in true c

  spared_iff : (r : ℕ) → r < length g.first_ends → (r ∈ musts) ↔ (¬ T (spared musts r))
  spared_iff r l = (
    λ i t. T_not (member r musts) t (member_in i),
    λ n. ⊎_elim (λ t. member_out r musts t) (λ m. absurd (n (not_T (member r musts) m))) (decide (member r musts)),
  )

  must_ready : Ready h s fresh
  must_ready = record { sound = record { once = b.sound.once; nodes = b.sound.nodes }; unentered = ready.unentered }

  -- CLAIMED
  abbrev claimed : ℕ
  claimed = claimed_of c fresh s.entered s.place s.node

  pub claimed_reaches : (v : ℕ) → T (has (claimed_of c fresh s.entered s.place s.node) v) ↔ Reaches (graph_in c) (musts_in c) s v
  unfolding claimed_of
  claimed_reaches v =
      let i = spread_reaches h must_nb (limit_in c) right.must_charted s fresh must_ready v in (
        λ t. masked_reaches g right.charted.formed (spared musts) must_firsts must_seconds (masked c) musts spared_iff (musts_known c) (musts_long c) s b.sound.nodes (i.0 t),
        λ x. i.1 (reaches_masked g right.charted.formed (spared musts) must_firsts must_seconds (masked c) musts spared_iff (musts_known c) (musts_long c) s b.sound.nodes x),
      )

  -- By a must row

  must_legal : (k : Key) → Legal h (row_numbers h) s k ↔ (Legal g (row_numbers g) s k × (k.row ∈ musts))
  must_legal k =
      let i = masked_legal g right.charted.formed (spared musts) must_firsts must_seconds (masked c) musts spared_iff (musts_known c) (musts_long c) s b.sound.nodes k in (
        λ l. let m = i.0 l in (legal_with s.place s.node m (row_numbers_in g k.row (musts_known c k.row m.usable)) m.above, m.usable),
        λ (l, j). i.1 (legal_with s.place s.node l j l.above),
      )

  -- To a node that is not claimed: in the graph without the claimed nodes

  abbrev unclaimed : Graph
  unclaimed = record { plant = g.plant; nodes = filter_b (λ v. not (has claimed v)) g.nodes; first_ends = g.first_ends; second_ends = g.second_ends }

  entered_unclaimed : (v : ℕ) → v ∈ s.entered → ¬ T (has claimed v)
  entered_unclaimed v i t = reached_new ((claimed_reaches v).0 t) i
    where
      reached_new : {v : ℕ} → Reaches g musts s v → ¬ (v ∈ s.entered)
      reached_new (direct {k} l e) j = l.step.fresh (mem_cast e j)
      reached_new (onward x i o m f) j = f j

  node_in : (v : ℕ) → v ∈ g.nodes → ¬ T (has claimed v) → v ∈ unclaimed.nodes
  node_in v m n = filter_in (λ v. not (has claimed v)) m (not_T (has claimed v) n)

  node_out : (v : ℕ) → v ∈ unclaimed.nodes → (v ∈ g.nodes) × (¬ T (has claimed v))
  node_out v m = let (i, t) = filter_out (λ v. not (has claimed v)) g.nodes m in (i, T_not (has claimed v) t)

  joins_down : {r u v : ℕ} → Joins g r u v → Joins unclaimed r u v
  joins_down (forth p q) = forth p q
  joins_down (back p q) = back p q

  joins_up : {r u v : ℕ} → Joins unclaimed r u v → Joins g r u v
  joins_up (forth p q) = forth p q
  joins_up (back p q) = back p q

  unclaimed_charted : Charted unclaimed nb (limit_in c)
  unclaimed_charted = record {
    formed = record {
      once = filter_distinct (λ v. not (has claimed v)) g.nodes right.charted.formed.once;
      plant = node_in g.plant right.charted.formed.plant (entered_unclaimed g.plant b.plant);
      no_zero = λ m. right.charted.formed.no_zero (node_out 0 m).0;
    };
    low = λ v m. right.charted.low v (node_out v m).0;
    small = right.charted.small;
    joined = λ u v m n.
        let i = right.charted.joined u v (node_out u m).0 (node_out v n).0 in
        (λ t. let (r, l, j) = i.0 t in (r, l, joins_down j), λ (r, l, j). i.1 (r, l, joins_up j));
  }

  unclaimed_headed : Headed unclaimed (head_in c)
  unclaimed_headed u v r m n l j = right.headed u v r (node_out u m).0 (node_out v n).0 l (joins_up j)

  -- a must row joins what it joins in the graph
  must_joins : {r u v : ℕ} → u ∈ g.nodes → v ∈ g.nodes → Joins h r u v → Joins g r u v
  must_joins m n j =
      let formed = right.charted.formed in
      let own = joins_kept g formed (spared musts) must_firsts must_seconds (masked c) j m n in
      joins_own g formed (spared musts) must_firsts must_seconds (masked c) own j

  must_headed : Headed h (head_in c)
  must_headed u v r m n l j = right.headed u v r m n l (must_joins m n j)

  unclaimed_ready : Ready unclaimed s (minus fresh claimed)
  unclaimed_ready = record {
    sound = record { once = b.sound.once; nodes = λ v i. node_in v (b.sound.nodes v i) (entered_unclaimed v i) };
    unentered = λ v. (
      λ t. let (old, new) = (T-both (has fresh v) (not (has claimed v))).0 (rw has_minus at t) in
          let (m, n) = (ready.unentered v).0 old in
          (node_in v m (T_not (has claimed v) new), n),
      λ (m, n). let (i, d) = node_out v m in rw has_minus ((T-both (has fresh v) (not (has claimed v))).1 ((ready.unentered v).1 (i, n), not_T (has claimed v) d)),
    );
  }

  unclaimed_legal : (k : Key) → Legal unclaimed (row_numbers unclaimed) s k ↔ (Legal g (row_numbers g) s k × (¬ Reaches g musts s k.node))
  unclaimed_legal k = (
    λ l. let (m, n) = node_out k.node l.step.enters in (
      record {
        step = record { pivot = l.step.pivot; joined = joins_up l.step.joined; leaves = l.step.leaves; enters = m; fresh = l.step.fresh; stands = l.step.stands };
        usable = l.usable;
        above = l.above;
      },
      λ x. n ((claimed_reaches k.node).1 x),
    ),
    λ (l, n). record {
      step = record {
        pivot = l.step.pivot;
        joined = joins_down l.step.joined;
        leaves = l.step.leaves;
        enters = node_in k.node l.step.enters (λ t. n ((claimed_reaches k.node).0 t));
        fresh = l.step.fresh;
        stands = l.step.stands;
      };
      usable = l.usable;
      above = l.above;
    },
  )

  -- ACCEPTED

  abbrev any : Option Key
  any = step_in c false (minus fresh claimed) s.entered s.place s.node

  abbrev must : Option Key
  must = step_in c true fresh s.entered s.place s.node

  -- what two searches tell of the step that is accepted first
  abbrev Told : Option Key → Type 0
  Told none = (m : Key) → Legal g (row_numbers g) s m → ¬ Accepted g s musts m
  Told (some k) = Least g (row_numbers g) s (Accepted g s musts) k

  any_not : (a : Key) → any ≡ some a → (m : Key) → Legal g (row_numbers g) s m → ¬ Reaches g musts s m.node → ¬ KeyLess m a
  any_not a e m l n = (first_least unclaimed_charted unclaimed_headed unclaimed_ready a e).least m ((unclaimed_legal m).1 (l, n)) tt

  must_not : (k : Key) → must ≡ some k → (m : Key) → Legal g (row_numbers g) s m → m.row ∈ musts → ¬ KeyLess m k
  must_not k e m l i = (first_least right.must_charted must_headed must_ready k e).least m ((must_legal m).1 (l, i)) tt

  told : (o p : Option Key) → any ≡ o → must ≡ p → Told (earlier_of o p)
  told none none e d = λ m l a. ⊎_elim
      (λ i. first_none right.must_charted must_headed must_ready d m ((must_legal m).1 (l, i)))
      (λ n. first_none unclaimed_charted unclaimed_headed unclaimed_ready e m ((unclaimed_legal m).1 (l, n))) a
  told none (some k) e d =
      let (l, i) = (must_legal k).0 (first_least right.must_charted must_headed must_ready k d).legal in
      record {
        legal = l;
        passes = inl i;
        least = λ m x a. ⊎_elim (λ j. must_not k d m x j) (λ n. absurd (first_none unclaimed_charted unclaimed_headed unclaimed_ready e m ((unclaimed_legal m).1 (x, n)))) a;
      }
  told (some a) none e d =
      let (l, n) = (unclaimed_legal a).0 (first_least unclaimed_charted unclaimed_headed unclaimed_ready a e).legal in
      record {
        legal = l;
        passes = inr n;
        least = λ m x p. ⊎_elim (λ j. absurd (first_none right.must_charted must_headed must_ready d m ((must_legal m).1 (x, j)))) (λ q. any_not a e m x q) p;
      }
  told (some a) (some k) e d =
      let (l, n) = (unclaimed_legal a).0 (first_least unclaimed_charted unclaimed_headed unclaimed_ready a e).legal in
      let (x, i) = (must_legal k).0 (first_least right.must_charted must_headed must_ready k d).legal in
      pick_elim Told (follows k a)
      (λ t. record {
        legal = x;
        passes = inl i;
        least = λ m y p. ⊎_elim (λ j. must_not k d m y j) (λ q z. any_not a e m y q (key_trans z (ahead (follows_out k a t)))) p;
      })
      (λ f. record {
        legal = l;
        passes = inr n;
        least = λ m y p. ⊎_elim (λ j z. later n x i f (key_compare k a) m y j z) (λ q. any_not a e m y q) p;
      })
    where
      -- a must step is not before the other, so it is behind it
      later : (¬ Reaches g musts s a.node) → Legal g (row_numbers g) s k → k.row ∈ musts → ¬ T (follows k a) → KeyCases k a
          → (m : Key) → Legal g (row_numbers g) s m → m.row ∈ musts → ¬ KeyLess m a
      later n x i f (inl (ahead y)) m z j q = f (follows_in k a y)
      later n x i f (inl (beside y)) m z j q = n (subst (Reaches g musts s) y.node (direct (legal_with s.place s.node x i x.above) refl))
      later n x i f (inr (inl y)) m z j q = n (subst (λ (o : Key). Reaches g musts s o.node) y (direct (legal_with s.place s.node x i x.above) refl))
      later n x i f (inr (inr y)) m z j q = must_not k d m z j (key_trans q y)

  -- IDLE: no must row leads to a fresh node

  into : {u v : ℕ} → v ∈ g.nodes → ¬ (v ∈ s.entered) → (r : ℕ) × (r ∈ row_numbers h) × Joins h r u v → T (has (open_at must_nb fresh 0) v)
  into {u} {v} m f (r, i, j) =
      let below : r < length h.first_ends = omega (arith, range_out 0 (length h.first_ends) i) in
      open_in_lem must_nb fresh 0 v (right.must_ends u v r m below j) ((ready.unentered v).1 (m, f))

  led : {v : ℕ} → Reaches h (row_numbers h) s v → T (has (open_at must_nb fresh 0) v)
  led (direct {k} l e) = subst (λ (v : ℕ). T (has (open_at must_nb fresh 0) v)) e
      (into l.step.enters l.step.fresh (k.row, l.usable, l.step.joined))
  led (onward {r} x i o m f) = into m f (r, i, o)

  idle : open_at must_nb fresh 0 ≡ 0 → (v : ℕ) → ¬ Reaches g musts s v
  idle e v x =
      let t = led (reaches_masked g right.charted.formed (spared musts) must_firsts must_seconds (masked c) musts spared_iff (musts_known c) (musts_long c) s b.sound.nodes x) in
      absurd (rw (e, has_zero) at t)

  -- then the first legal step is accepted
  plain_told : open_at must_nb fresh 0 ≡ 0 → (o : Option Key) → step_in c false fresh s.entered s.place s.node ≡ o → Told o
  plain_told z none e = λ m l a. first_none right.charted right.headed ready e m l
  plain_told z (some k) e =
      let f = first_least right.charted right.headed ready k e in
      record { legal = f.legal; passes = inr (idle z k.node); least = λ m l a. f.least m l tt }

  accepted_told : Told (accepted_of c fresh s.entered s.place s.node)
  unfolding accepted_of claiming_of
  accepted_told = pick_elim Told (eqb (open_at must_nb fresh 0) 0) (λ t. plain_told (eqb→eq _ _ t) _ refl) (λ n. told any must refl refl)

  pub accepted_least : (k : Key) → accepted_of c fresh s.entered s.place s.node ≡ some k
      → Least g (row_numbers g) s (Accepted g s musts) k
  accepted_least k e = subst Told e accepted_told

  pub accepted_none : accepted_of c fresh s.entered s.place s.node ≡ none
      → (m : Key) → Legal g (row_numbers g) s m → ¬ Accepted g s musts m
  accepted_none e = subst Told e accepted_told

-- A path that grows

-- `answer` is `keys` and least accepted steps behind them, as many as asked or up to where none is accepted
pub record GrownWith (g : Graph) (musts : List ℕ) (s : State) (keys answer : List Key) (steps : ℕ) : Type 0 where
  pub more : List Key
  pub whole : answer ≡ keys ++ more
  pub accepts : Accepts g musts s more
  pub ends : (length more ≡ steps) ⊎ ((m : Key) → Legal g (row_numbers g) (state_after s more) m → ¬ Accepted g (state_after s more) musts m)

-- `answer` is `keys` and the least completion with the rows ms behind them
pub record CompletedWith (g : Graph) (s : State) (ms : List ℕ) (keys answer : List Key) : Type 0 where
  pub more : List Key
  pub whole : answer ≡ keys ++ more
  pub least : LeastFull g s ms more

-- What a turn of the loop does to what is computed

module _ (c : List ℕ) (plant : ℕ) where
  pub grow_with_over : (left fresh : ℕ) (keys : List Key) (place node : ℕ) → left ≡ 0
      → grow_with c plant left fresh keys place node ≡ keys
  unfolding grow_with
  grow_with_over left fresh keys place node e = rw e

  pub grow_with_none : (left fresh : ℕ) (keys : List Key) (place node : ℕ) {entered : List ℕ} {o : Option Key} → 0 < left → entered ≡ entered_by plant keys
      → o ≡ accepted_of c fresh entered place node → o ≡ none
      → grow_with c plant left fresh keys place node ≡ keys
  unfolding grow_with
  grow_with_none zero fresh keys place node h e f o = refl
  grow_with_none (suc left) fresh keys place node h e f o = rw (← e, ← f, o, grow_with)

  pub grow_with_some : (left fresh : ℕ) (keys : List Key) (place node : ℕ) {entered : List ℕ} {o : Option Key} (k : Key) → 0 < left
      → entered ≡ entered_by plant keys → o ≡ accepted_of c fresh entered place node → o ≡ some k
      → grow_with c plant left fresh keys place node
      ≡ grow_with c plant (left - 1) (minus fresh (bit k.node)) (extended_by keys (kept k)) k.place k.node
  unfolding grow_with
  grow_with_some zero fresh keys place node k h e f o = absurd (omega arith)
  grow_with_some (suc left) fresh keys place node k h e f o = let d : suc left - 1 ≡ left = omega arith in rw (d, ← e, ← f, o, grow_with)

module _ {c : List ℕ} (right : Charts c) where
  short : length (graph_in c).first_ends ≤ 65536
  short = omega (arith, few c)

  abbrev grow : State → ℕ → ℕ → List Key → List Key
  grow s steps fresh keys = grow_with c (graph_in c).plant steps fresh keys s.place s.node

  abbrev find : State → ℕ → Option Key
  find s fresh = accepted_of c fresh s.entered s.place s.node

  grown_still : (s : State) (steps : ℕ) (keys answer : List Key) → answer ≡ keys
      → (0 ≡ steps) ⊎ ((m : Key) → Legal (graph_in c) (row_numbers (graph_in c)) s m → ¬ Accepted (graph_in c) s (musts_in c) m) → GrownWith (graph_in c) (musts_in c) s keys answer steps
  grown_still s steps keys answer e ends = record { more = []; whole = e ∙ sym (append-nil keys); accepts = tt; ends = ends }

  grown_cons : (s : State) (steps : ℕ) (keys answer : List Key) (k : Key) → Least (graph_in c) (row_numbers (graph_in c)) s (Accepted (graph_in c) s (musts_in c)) k
      → GrownWith (graph_in c) (musts_in c) (after s k) (keys ++ (k ∷ [])) answer steps → GrownWith (graph_in c) (musts_in c) s keys answer (suc steps)
  grown_cons s steps keys answer k h o = record {
    more = k ∷ o.more;
    whole = o.whole ∙ append_snoc keys k o.more;
    accepts = (h, o.accepts);
    ends = ⊎_elim (λ e. inl (ap suc e)) inr o.ends;
  }

  pub grow_accepts : (steps : ℕ) (keys : List Key) {s : State} {fresh : ℕ} → s.entered ≡ entered_by (graph_in c).plant keys → Begun (graph_in c) s → Ready (graph_in c) s fresh → length keys + steps ≤ 31
      → GrownWith (graph_in c) (musts_in c) s keys (grow_with c (graph_in c).plant steps fresh keys s.place s.node) steps
  grow_accepts zero keys {s} {fresh} e b r room = grown_still s 0 keys (grow s 0 fresh keys) (grow_with_over _ _ 0 fresh keys _ _ refl) (inl refl)
  grow_accepts (suc steps) keys {s} {fresh} e b r room =
      turn (find s fresh) refl
      (λ k h. grow_accepts steps (keys ++ (k ∷ [])) (entered_step keys k e) (begun_after b h) (ready_after right.charted r h) (omega (arith, length-append keys (k ∷ []))))
    where
      turn : (o : Option Key) → find s fresh ≡ o
          → ((k : Key) → Legal (graph_in c) (row_numbers (graph_in c)) s k
          → GrownWith (graph_in c) (musts_in c) (after s k) (keys ++ (k ∷ [])) (grow (after s k) steps (minus fresh (bit k.node)) (keys ++ (k ∷ []))) steps)
          → GrownWith (graph_in c) (musts_in c) s keys (grow s (suc steps) fresh keys) (suc steps)
      turn none d later =
          grown_still s (suc steps) keys (grow s (suc steps) fresh keys) (grow_with_none _ _ (suc steps) fresh keys _ _ (omega arith) e refl d)
          (inr (accepted_none right b r d))
      turn (some k) d later =
          let h = accepted_least right b r k d in
          let left : suc steps - 1 ≡ steps = omega arith in
          rw (grow_with_some _ _ (suc steps) fresh keys _ _ k (omega arith) e refl d, step_kept keys short e (omega arith) h.legal, left)
          (grown_cons s steps keys _ k h (later k h.legal))

  -- all nodes are entered, or no step is accepted: so the steps end
  module _ (steps : ℕ) {s : State} (b : Begun (graph_in c) s) (enough : length (graph_in c).nodes ≤ length s.entered + steps) {keys answer : List Key}
      (o : GrownWith (graph_in c) (musts_in c) s keys answer steps) where
    abbrev end : State
    end = state_after s o.more

    pub grown_ends : ((graph_in c).nodes ⊆ (state_after s o.more).entered)
        ⊎ ((m : Key) → Legal (graph_in c) (row_numbers (graph_in c)) (state_after s o.more) m → ¬ Accepted (graph_in c) (state_after s o.more) (musts_in c) m)
    grown_ends = ⊎_elim (λ e. inl (full e)) inr o.ends
      where
        full : length o.more ≡ steps → (graph_in c).nodes ⊆ end.entered
        full e =
            let sound = (begun_walk (graph_in c) (musts_in c) s o.more b (accepts_legal (graph_in c) (musts_in c) s o.more o.accepts)).sound in
            filled ℕ_discrete end.entered (graph_in c).nodes sound.once sound.nodes (omega (arith, state_after_length s o.more))

  -- enough steps from a state that has a completion with the rows that are due give the least of them
  pub grow_full : (steps : ℕ) (keys : List Key) {s : State} {fresh : ℕ} {ms : List ℕ} → s.entered ≡ entered_by (graph_in c).plant keys → Begun (graph_in c) s → Ready (graph_in c) s fresh
      → length keys + steps ≤ 31 → Distinct ms → Due (graph_in c) s (musts_in c) ms → (ls : List Key) → Full (graph_in c) s ms ls → length (graph_in c).nodes ≤ length s.entered + steps
      → CompletedWith (graph_in c) s ms keys (grow_with c (graph_in c).plant steps fresh keys s.place s.node)
  grow_full steps keys {s} {fresh} {ms} e b r room once d ls f enough =
      let o = grow_accepts steps keys e b r room in
      let all = ⊎_elim (λ w. w) (λ n. accepts_end (graph_in c) (musts_in c) right.charted.formed s ms b once d ls o.more f o.accepts n) (grown_ends steps b enough o) in
      record { more = o.more; whole = o.whole; least = accepts_least (graph_in c) (musts_in c) right.charted.formed s ms b once d ls o.more f o.accepts all }

-- WITHOUT MUST ROWS least accepted steps are least legal ones

-- `answer` is `keys` and least legal steps behind them, as many as asked or up to where there is none
pub record Grown (g : Graph) (s : State) (keys answer : List Key) (steps : ℕ) : Type 0 where
  pub more : List Key
  pub whole : answer ≡ keys ++ more
  pub least : Leasts g (row_numbers g) s more
  pub ends : (length more ≡ steps) ⊎ ((m : Key) → ¬ Legal g (row_numbers g) (state_after s more) m)

-- no row leads anywhere where there is none
none_reached : {g : Graph} {s : State} {v : ℕ} → ¬ Reaches g [] s v
none_reached (direct h e) = mem_nil h.usable
none_reached (onward p i j n f) = mem_nil i

free_leasts : (g : Graph) (s : State) (ks : List Key) → Accepts g [] s ks → Leasts g (row_numbers g) s ks
free_leasts g s [] a = tt
free_leasts g s (k ∷ ks) a = (record { legal = a.0.legal; passes = tt; least = λ m h p. a.0.least m h (inr none_reached) }, free_leasts g (after s k) ks a.1)

pub free_grown : {g : Graph} {s : State} {musts : List ℕ} {keys answer : List Key} {steps : ℕ} → musts ≡ [] → GrownWith g musts s keys answer steps → Grown g s keys answer steps
free_grown {g} {s} {musts} {keys} {answer} {steps} free with_all =
    let o = subst (λ (ms : List ℕ). GrownWith g ms s keys answer steps) free with_all in
    record {
      more = o.more;
      whole = o.whole;
      least = free_leasts g s o.more o.accepts;
      ends = ⊎_elim inl (λ n. inr (λ m h. n m h (inr none_reached))) o.ends;
    }

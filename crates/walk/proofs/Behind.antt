-- The laws of the walk over a right chart, by which other crates use it. What `after_of` answers, in the theory of growing paths: the least completion with all must rows
-- beyond the first steps of a path, or that there is none
-- (`after_beyond`, `none_beyond`). Of rows: the first tree with all must rows behind all that begin alike (`after_path`, `last_after`), and so the
-- next one (`next_path`, `last_path`). The first of all, or that there is none: `first_path_lem`, `some_path`, and as the code answers `first_some`, `first_none`.
use mathlib.Core.Path.{◌∙◌, ◌≡◌, ap, refl, subst, sym}
use mathlib.Core.Logic.{◌↔◌, ◌⊎◌}
use mathlib.Core.Bool.{Bool, true}
use mathlib.Core.Option.{Option, none, some}
use mathlib.Core.List.{List, [], ◌++◌, ◌∷◌, append_assoc, map}
use Prim.Native.Nat.{◌+◌, ◌-◌, ◌<◌, ◌≤◌, suc, zero, ℕ}
use native.Mathlib.Decide.{ℕ_discrete}
use native.Mathlib.Nat.{mod-eq_of_lt}
use native.Mathlib.Omega.{arith}
use lib.Bits.{bit_or}
use lib.Dec.{T, eqb, eqb→eq}
use lib.ListN.{drop, get_or, get_elem?, length, length-take, take, take-append-drop}
use lib.Seq.{append_snoc, get_or-take, length-take-le, split_at, take_all, take-length, take-suc, take-take}
use Rattle.lists.specs.Lists.{both, pick}
use Rattle.lists.proofs.Ascending.{at_get_or, take_min}
use Rattle.lists.proofs.Distinct.{Distinct, filled}
use Rattle.lists.proofs.Members.{◌∈◌, ◌⊆◌, has_all_in, has_all_out, length_snoc, range_out}
use Rattle.lists.proofs.Tests.{T-both, eq→eqb, pick_elim}
use Rattle.graph.specs.Graph.{Graph, row_numbers}
use Rattle.graph.specs.Paths.{Key}
use Rattle.graph.proofs.Growth.{Legal, State, after, past, rows_of, start}
use Rattle.graph.proofs.Keys.{Beside}
use Rattle.graph.proofs.Least.{Least, sound_room}
use Rattle.graph.proofs.Minimal.{sound_start}
use Rattle.graph.proofs.Minimal.{row_numbers_in}
use Rattle.graph.proofs.Scan.{beside_least, beside_none}
use Rattle.graph.proofs.Parts.{FirstIn, LastIn, NextIn}
use Rattle.graph.proofs.Unique.{completion_length}
use Rattle.graph.proofs.Walk.{Legals, state_after, state_after_length, state_after_snoc}
use Rattle.forests.proofs.Cuts.{cut_distinct}
use Rattle.bounds.proofs.Missing.{rows_map}
use Rattle.bounds.proofs.Prefix.{AfterIn, NoneAfterIn}
use Rattle.states.specs.States.{must_row, trees_with}
use Rattle.states.proofs.Rest.{Begun}
use Rattle.states.proofs.Full.{Accepted, Full, LeastFull, begun_after}
use Rattle.states.proofs.Due.{Due, accepts_legal, begun_walk, due_after_lem, due_all, due_bound, due_row, due_walk, due_after, due_after_distinct}
use Rattle.states.proofs.Past.{LeastPastFull, NonePastFull, begun_past, beside_full, must_last, past_full_iff, past_some, skip_beside_full, skip_none_full, skip_past_full}
use Rattle.states.proofs.Beyond.{NextFull, NoneFull, beyond_place_full, full_part, none_back_full, none_end_full}
use Rattle.states.proofs.With.{accepts_decide, accepts_first, after_with, begun_start, first_with_lem, last_with, next_with, none_after_with}
use Rattle.words.specs.Words.{bit}
use Rattle.chart.proofs.Charts.{Charts, NextRow, Ready, few, must_row_lem, musts_once, small}
use Rattle.chart.specs.Chart.{firsts_in, graph_in, musts_in, next_in, nodes_in, width_in}
use Rattle.search.specs.Search.{or_else}
use Rattle.paths.specs.Path.{entered_by, no_key}
use Rattle.grow.specs.Grow.{fresh_after, open_past}
use Rattle.grow.specs.Musts.{first_of, musts_met}
use Rattle.grow.proofs.Grow.{entered_after, entered_step, fresh_ready, open_past_lem, ready_after, ready_back, ready_bound, step_kept}
use Rattle.grow.proofs.Leads.{MustsLead, musts_met_lem, tree_leads}
use Rattle.grow.proofs.Musts.{GrownWith, grow_accepts, grow_full, grown_ends}
use Rattle.walk.specs.Walk.{after_from, after_of, beside_of, first_in, on_of, skip_of}

-- what an answer says of the step k at the state s, which the steps `keys` lead to
abbrev Skipped : Graph → State → List ℕ → List Key → Key → Option (List Key) → Type 0
Skipped g s ms keys k none = NonePastFull g s ms k
Skipped g s ms keys k (some ls) = (m : Key) × (js : List Key) × (ls ≡ keys ++ (m ∷ js)) × LeastPastFull g s ms k m js

-- what an answer says of the paths that begin with the steps js
abbrev Answered : Graph → List ℕ → List Key → Option (List Key) → Type 0
Answered g musts js none = NoneFull g (start g) musts js
Answered g musts js (some ls) = NextFull g (start g) musts js ls

-- SKIP: at a step k of a path with the rows that are due

module _ {c : List ℕ} (right : Charts c) where
  abbrev g : Graph
  g = graph_in c

  abbrev musts : List ℕ
  musts = musts_in c

  short : length (graph_in c).first_ends ≤ 65536
  short = omega (arith, few c)

  module _ (s : State) (ms : List ℕ) (keys : List Key) (k : Key) (ks : List Key) (steps fresh : ℕ) (same : s.entered ≡ entered_by g.plant keys) (b : Begun g s) (ready : Ready g s fresh)
      (once : Distinct ms) (due : Due g s musts ms) (f : Full g s ms (k ∷ ks)) (room : length keys + steps ≤ 31) (enough : length g.nodes ≤ length s.entered + steps) where
    abbrev h : Legal g (row_numbers g) s k
    h = f.completes.0

    module _ (free : ¬ (k.row ∈ ms)) where
      -- by the next parallel row
      skip_row_lem : (r : ℕ) → Least g (row_numbers g) s (Beside k) (record { place = k.place; node = k.node; row = r }) → Skipped g s ms keys k (some (beside_of c g.plant r steps fresh keys k))
      unfolding beside_of
      skip_row_lem r a =
          let l : Key = record { place = k.place; node = k.node; row = r } in
          let missing = sound_room g s ready.sound h.step.enters h.step.fresh in
          let low : r < 65536 = omega (arith, short, range_out 0 (length g.first_ends) a.legal.usable) in
          let stays = step_kept keys short same (omega arith) a.legal in
          let grown = grow_full right (steps - 1) (keys ++ (l ∷ [])) {s = after s l} (entered_step keys l same) (begun_after b a.legal) (ready_after right.charted ready a.legal)
          (omega (arith, length_snoc keys l)) (cut_distinct r ms once) (due_after_lem due l a.legal) ks
          (beside_full g right.charted.formed s b ms once k ks f free l a.legal a.passes) (omega (arith, length_snoc s.entered k.node)) in (
            l,
            grown.more,
            rw (rw (mod-eq_of_lt low) at stays) (grown.whole ∙ append_snoc keys l grown.more),
            skip_beside_full g s ms k h l grown.more a grown.least,
          )

      -- by the bound moved up to k, or not at all
      skip_on : ((m : Key) → Legal g (row_numbers g) s m → ¬ Beside k m) → Skipped g s ms keys k (on_of c g.plant steps fresh keys k)
      unfolding on_of
      skip_on n =
          let opens = open_past_lem right keys k.place k.node same ready in
          let fulls = past_full_iff g right.charted.formed s b ms once k ks f free in
          pick_elim (Skipped g s ms keys k) (open_past c g.plant fresh keys k.place k.node)
          (λ t.
          let (js, y) = fulls.1 (opens.0 t) in
          let grown = grow_full right steps keys {s = past s k} same (begun_past k b) (ready_bound k.place k.node ready) room once (due_bound due k.place k.node) js y enough in
          let (l, ls, e) = past_some g s ms k h grown.more grown.least.full in
          (l, ls, grown.whole ∙ ap (λ (x : List Key). keys ++ x) e, skip_past_full g s ms k h l ls n (subst (LeastFull g (past s k) ms) e grown.least)))
          (λ x. skip_none_full g s ms k h n (λ ls y. x (opens.1 (fulls.0 (ls, y)))))

      -- the next parallel row is the chart's
      next : NextRow g k.row (next_in c k.row) h.step.pivot k.node
      next = right.next k.row h.step.pivot k.node (b.sound.nodes h.step.pivot h.step.leaves) h.step.enters
          (omega (arith, range_out 0 (length g.first_ends) h.usable)) h.step.joined

      skip_free : Skipped g s ms keys k
          (pick (eqb (next_in c k.row) 0) (on_of c g.plant steps fresh keys k) (some (beside_of c g.plant (next_in c k.row) steps fresh keys k)))
      skip_free = pick_elim (Skipped g s ms keys k) (eqb (next_in c k.row) 0)
          (λ t. skip_on (beside_none g (row_numbers g) s k h (λ q m a.
          next.none_above (eqb→eq _ _ t) q a (omega (arith, range_out 0 (length g.first_ends) m)))))
          (λ n. let some_row : 0 < next_in c k.row = above_zero (λ e. n (eq→eqb _ _ e)) in
          skip_row_lem (next_in c k.row) (beside_least g (row_numbers g) s k h (next_in c k.row) (row_numbers_in g (next_in c k.row) next.known)
          (next.above some_row) (next.joined some_row) (λ q m a l. next.between q a l)))
        where
          above_zero : {n : ℕ} → ¬ (n ≡ 0) → 0 < n
          above_zero d = omega arith

    skip_right : Skipped g s ms keys k (skip_of c (graph_in c).plant steps fresh keys k)
    unfolding skip_of
    skip_right = pick_elim (Skipped g s ms keys k) (must_row (firsts_in true c) k.row)
        (λ t. must_last g s ms k h ((due_row due h).0 ((must_row_lem c k.row).0 t)))
        (λ n. skip_free (λ i. n ((must_row_lem c k.row).1 ((due_row due h).1 i))))

-- AFTER: back along the first steps js of a path, from the end

module _ {c : List ℕ} (right : Charts c) where
  abbrev from_in : ℕ → ℕ → List Key → Option (List Key)
  from_in i fresh keys = after_from c (graph_in c).plant i fresh keys

  abbrev pub after_in : List Key → ℕ → Option (List Key)
  after_in keys len = after_of c (graph_in c).plant keys len

  begun_first : Begun (graph_in c) (start (graph_in c))
  begun_first = begun_start (graph_in c) right.charted.formed

  -- a path with all must rows has as many steps as a tree has rows
  full_long : (ks : List Key) → Full (graph_in c) (start (graph_in c)) (musts_in c) ks → length ks ≡ width_in c
  full_long ks f =
      let sound = sound_start (graph_in c) right.charted.formed in
      omega (arith, right.wide, completion_length (graph_in c) (row_numbers (graph_in c)) (start (graph_in c)) ks right.charted.formed.once sound f.completes)

  module _ (ks : List Key) (f : Full (graph_in c) (start (graph_in c)) (musts_in c) ks) (len : ℕ) where
    abbrev js : List Key
    js = take len ks

    abbrev step_at : ℕ → Key
    step_at i = get_or js i no_key

    abbrev state_at : ℕ → State
    state_at i = state_after (start (graph_in c)) (take i js)

    abbrev due_at : ℕ → List ℕ
    due_at i = due_after (musts_in c) (take i js)

    abbrev fresh_at : ℕ → ℕ → ℕ
    fresh_at i fresh = bit_or fresh (bit (step_at i).node)

    abbrev skip_at : ℕ → ℕ → Option (List Key)
    skip_at i fresh = skip_of c (graph_in c).plant (width_in c - i) (fresh_at i fresh) (take i js) (step_at i)

    -- the path at a step of js
    path_at : (i : ℕ) → i < length js → Legals (graph_in c) (row_numbers (graph_in c)) (start (graph_in c)) (take i js)
        × Full (graph_in c) (state_at i) (due_at i) (step_at i ∷ (drop (suc i) js ++ drop len ks))
    path_at i h =
        full_part (start (graph_in c)) (musts_in c) (take i js) (step_at i ∷ (drop (suc i) js ++ drop len ks))
        (subst (Full (graph_in c) (start (graph_in c)) (musts_in c)) (sym (take-append-drop len ks) ∙ ap (λ (l : List Key). l ++ drop len ks) (split_at js i no_key h)
        ∙ append_assoc (take i js) (step_at i ∷ drop (suc i) js) (drop len ks)) f)

    legals : Legals (graph_in c) (row_numbers (graph_in c)) (start (graph_in c)) js
    legals = (full_part {g = graph_in c} (start (graph_in c)) (musts_in c) js (drop len ks) (rw take-append-drop f)).0

    -- one step back
    step_back : (i fresh : ℕ) → i < length js → Ready (graph_in c) (state_at (suc i)) fresh
        → Ready (graph_in c) (state_at i) (fresh_at i fresh) × Skipped (graph_in c) (state_at i) (due_at i) (take i js) (step_at i) (skip_at i fresh)
    step_back i fresh h a =
        let (before, on) = path_at i h in
        let b = begun_walk (graph_in c) (musts_in c) (start (graph_in c)) (take i js) begun_first before in
        let step : state_at (suc i) ≡ after (state_at i) (step_at i) =
        ap (state_after (start (graph_in c))) (take-suc js i no_key h) ∙ state_after_snoc (start (graph_in c)) (take i js) (step_at i) in
        let ready = ready_back right.charted b.sound on.completes.0 (subst (λ (s : State). Ready (graph_in c) s fresh) step a) in
        let long = full_long ks f in
        let short = length-take len ks in
        let at = length-take-le i js (omega arith) in (
          ready,
          skip_right right (state_at i) (due_at i) (take i js) (step_at i) (drop (suc i) js ++ drop len ks) (width_in c - i) _
              (entered_after (graph_in c) (take i js)) b ready (due_after_distinct (musts_in c) (take i js) (musts_once c))
              (due_walk (graph_in c) (musts_in c) (start (graph_in c)) (musts_in c) (take i js) (due_all (graph_in c) (start (graph_in c)) (musts_in c)) before)
              on (omega (arith, small c, right.wide)) (omega (arith, right.wide, state_after_length (start (graph_in c)) (take i js))),
        )

    from_right : (i fresh : ℕ) → i ≤ length js → Ready (graph_in c) (state_at i) fresh → NoneFull (graph_in c) (state_at i) (due_at i) (drop i js) → Answered (graph_in c) (musts_in c) js (from_in i fresh ks)
    unfolding after_from
    from_right zero fresh h a n = n
    from_right (suc i) fresh h a n =
        let (ready, right) = step_back i fresh h a in
        let within : suc i ≤ len = omega (arith, length-take len ks) in
        rw (← (get_or-take len ks i no_key within), ← (take-take i len ks (omega arith))) (turn (skip_at i fresh) right (from_right i (fresh_at i fresh) (omega arith) ready))
      where
        there : get_elem? js i ≡ some (step_at i)
        there = at_get_or js i no_key h

        turn : (o : Option (List Key)) → Skipped (graph_in c) (state_at i) (due_at i) (take i js) (step_at i) o
            → (NoneFull (graph_in c) (state_at i) (due_at i) (drop i js) → Answered (graph_in c) (musts_in c) js (from_in i (fresh_at i fresh) ks))
            → Answered (graph_in c) (musts_in c) js (or_else o (from_in i (fresh_at i fresh) ks))
        turn none p rest = rest (none_back_full (graph_in c) (start (graph_in c)) (musts_in c) js i (step_at i) there n p)
        turn (some ls) t rest = rw t.2 (beyond_place_full (graph_in c) (start (graph_in c)) (musts_in c) js i (step_at i) t.0 t.1 legals there n t.3)

    after_right : Answered (graph_in c) (musts_in c) js (after_in ks len)
    unfolding after_of
    after_right =
        let ready = fresh_ready right.charted (nodes_in c) js right.all legals in
        rw (take_min len ks, ← (length-take len ks))
        (from_right (length js) (fresh_after (nodes_in c) (entered_by (graph_in c).plant js)) (omega arith) (rw take-length ready) (none_end_full (graph_in c) (start (graph_in c)) (musts_in c) js))

    -- Of keys
    pub after_beyond : (ls : List Key) → after_in ks len ≡ some ls → NextFull (graph_in c) (start (graph_in c)) (musts_in c) (take len ks) ls
    after_beyond ls e = subst (Answered (graph_in c) (musts_in c) js) e after_right

    pub none_beyond : after_in ks len ≡ none → NoneFull (graph_in c) (start (graph_in c)) (musts_in c) (take len ks)
    none_beyond e = subst (Answered (graph_in c) (musts_in c) js) e after_right

    -- Of rows
    pub after_path : (ls : List Key) → after_in ks len ≡ some ls → AfterIn (graph_in c) (trees_with (graph_in c) (musts_in c)) (take len (rows_of ks)) (rows_of ks) (rows_of ls)
    after_path ls e = after_with (graph_in c) right.charted.formed (musts_in c) len ks f ls (after_beyond ls e)

    pub last_after : after_in ks len ≡ none → NoneAfterIn (graph_in c) (trees_with (graph_in c) (musts_in c)) (take len (rows_of ks)) (rows_of ks)
    last_after e = none_after_with (graph_in c) right.charted.formed (musts_in c) len ks f (none_beyond e)

    -- with all steps of the path
    module _ (whole : width_in c ≤ len) where
      all_keys : take len ks ≡ ks
      all_keys = take_all len ks (omega (arith, full_long ks f))

      pub next_path : (ls : List Key) → after_in ks len ≡ some ls → NextIn (graph_in c) (trees_with (graph_in c) (musts_in c)) (rows_of ks) (rows_of ls)
      next_path ls e =
          next_with (graph_in c) right.charted.formed (musts_in c) ks f ls (subst (λ (l : List Key). NextFull (graph_in c) (start (graph_in c)) (musts_in c) l ls) all_keys (after_beyond ls e))

      pub last_path : after_in ks len ≡ none → LastIn (graph_in c) (trees_with (graph_in c) (musts_in c)) (rows_of ks)
      last_path e = last_with (graph_in c) right.charted.formed (musts_in c) ks f (subst (NoneFull (graph_in c) (start (graph_in c)) (musts_in c)) all_keys (none_beyond e))

  -- FIRST: the first path of all, and whether there is one

  abbrev pub first_path : List Key
  first_path = first_of c

  first_grown : GrownWith (graph_in c) (musts_in c) (start (graph_in c)) [] first_path (width_in c)
  first_grown = grow_accepts right (width_in c) [] {s = start (graph_in c)} refl begun_first (fresh_ready right.charted (nodes_in c) [] right.all tt) (omega (arith, right.wide, small c))

  -- its steps are all that were grown
  same_keys : first_path ≡ first_grown.more
  same_keys = first_grown.whole

  first_ends_lem : ((graph_in c).nodes ⊆ (state_after (start (graph_in c)) first_grown.more).entered)
      ⊎ ((m : Key) → Legal (graph_in c) (row_numbers (graph_in c)) (state_after (start (graph_in c)) first_grown.more) m
      → ¬ Accepted (graph_in c) (state_after (start (graph_in c)) first_grown.more) (musts_in c) m)
  first_ends_lem = grown_ends right (width_in c) begun_first (omega (arith, right.wide)) first_grown

  -- with as many steps as a path has, all nodes are entered
  first_all : length first_grown.more ≡ width_in c → (graph_in c).nodes ⊆ (state_after (start (graph_in c)) first_grown.more).entered
  first_all e =
      let legals = accepts_legal (graph_in c) (musts_in c) (start (graph_in c)) first_grown.more first_grown.accepts in
      let sound = (begun_walk (graph_in c) (musts_in c) (start (graph_in c)) first_grown.more begun_first legals).sound in
      filled ℕ_discrete (state_after (start (graph_in c)) first_grown.more).entered (graph_in c).nodes sound.once sound.nodes
      (omega (arith, right.wide, state_after_length (start (graph_in c)) first_grown.more))

  first_least : (p : List ℕ) → p ∈ trees_with (graph_in c) (musts_in c) → LeastFull (graph_in c) (start (graph_in c)) (musts_in c) first_path
  first_least p m =
      subst (LeastFull (graph_in c) (start (graph_in c)) (musts_in c)) (sym same_keys)
      (accepts_first (graph_in c) right.charted.formed (musts_in c) (musts_once c) first_grown.more first_grown.accepts first_ends_lem p m)

  pub first_path_lem : (p : List ℕ) → p ∈ trees_with (graph_in c) (musts_in c)
      → Full (graph_in c) (start (graph_in c)) (musts_in c) first_path × FirstIn (graph_in c) (trees_with (graph_in c) (musts_in c)) (rows_of first_path)
  first_path_lem p m = let l = first_least p m in (l.full, first_with_lem (graph_in c) right.charted.formed (musts_in c) first_path l)

  -- as far as it goes it has all must rows exactly if there is a tree that has
  pub some_path : ((p : List ℕ) × (p ∈ trees_with (graph_in c) (musts_in c))) ↔ ((length first_path ≡ width_in c) × ((musts_in c) ⊆ rows_of first_path))
  some_path = (
    λ (p, m). let l = first_least p m in (
      full_long first_path l.full,
      l.full.all,
    ),
    λ (e, w). (accepts_decide (graph_in c) right.charted.formed (musts_in c) (musts_once c) first_grown.more first_grown.accepts first_ends_lem).1
        (first_all (ap length (sym same_keys) ∙ e), subst (λ (l : List Key). (musts_in c) ⊆ rows_of l) same_keys w),
  )

  -- what the code answers: its must rows are asked for only where a node is at the end of one
  abbrev Told : Option (List Key) → Type 0
  Told none = (p : List ℕ) → ¬ (p ∈ trees_with (graph_in c) (musts_in c))
  Told (some keys) = MustsLead c → Full (graph_in c) (start (graph_in c)) (musts_in c) keys × FirstIn (graph_in c) (trees_with (graph_in c) (musts_in c)) (rows_of keys)

  first_told : Told (first_in c)
  unfolding first_in
  first_told =
      let rows = map (λ (k : Key). k.row) first_path in
      let long = eqb (length first_path) (width_in c) in
      pick_elim Told (both long (musts_met c rows))
      (λ t lead.
      let (e, met) = (T-both long (musts_met c rows)).0 t in
      let all = has_all_out (musts_in c) rows (subst (λ (b : Bool). T b) (musts_met_lem lead rows) met) in
      let (p, m) = some_path.1 (eqb→eq _ _ e, rw (← rows_map first_path) at all) in
      first_path_lem p m)
      (λ n p m.
      let (e, all) = some_path.0 (p, m) in
      let met = subst (λ (b : Bool). T b) (sym (musts_met_lem (tree_leads right p m) rows)) (has_all_in (musts_in c) rows (rw (← rows_map first_path) all)) in
      n ((T-both long (musts_met c rows)).1 (eq→eqb _ _ e, met)))

  pub first_some : MustsLead c → (keys : List Key) → first_in c ≡ some keys
      → Full (graph_in c) (start (graph_in c)) (musts_in c) keys × FirstIn (graph_in c) (trees_with (graph_in c) (musts_in c)) (rows_of keys)
  first_some lead keys e = subst Told e first_told lead

  pub first_none : first_in c ≡ none → (p : List ℕ) → ¬ (p ∈ trees_with (graph_in c) (musts_in c))
  first_none e = subst Told e first_told

-- Whether the steps of a path are legal: what each way through the code does to what is computed, and the law over a right chart, `climbs_full`: legal steps, as many as a
-- tree has rows, are a path with all must rows, if their rows have them.
use mathlib.Core.Path.{◌∙◌, ◌≡◌, ap, refl, subst, sym}
use mathlib.Core.Bool.{Bool, false, true}
use mathlib.Core.List.{List, [], ◌++◌, ◌∷◌, append-nil}
use Prim.Native.Nat.{◌+◌, ◌<◌, ◌≤◌, suc, zero, ℕ}
use native.Mathlib.Decide.{ℕ_discrete}
use native.Mathlib.Numerals.{add-one}
use native.Mathlib.Omega.{arith}
use borrow.Author.Tests.{le-ltb, lt-ltb}
use lib.Dec.{T, ltb, ltb→lt}
use lib.ListN.{get_or-map, drop, drop_of_length-le, get_or, length, length-map, take}
use lib.Seq.{drop-cons, get_or-take, length-take-le, take-suc}
use Rattle.lists.specs.Lists.{both}
use Rattle.lists.proofs.Ascending.{get_or_mem}
use Rattle.lists.proofs.Distinct.{filled}
use Rattle.lists.proofs.Members.{◌⊆◌}
use Rattle.lists.proofs.Tests.{T-both, T_true}
use Rattle.graph.specs.Graph.{Graph, row_numbers}
use Rattle.graph.specs.Paths.{Key}
use Rattle.graph.proofs.Growth.{Completion, Legal, State, after, rows_of, start}
use Rattle.graph.proofs.Keys.{follows_out}
use Rattle.graph.proofs.Minimal.{row_known, row_numbers_in, sound_start}
use Rattle.graph.proofs.Places.{place_at}
use Rattle.graph.proofs.Runs.{joins_out}
use Rattle.graph.proofs.Walk.{Legals, completion_join, sound_walk, state_after, state_after_length}
use Rattle.states.proofs.Full.{Full}
use Rattle.words.specs.Words.{bit, has, minus}
use Rattle.chart.proofs.Charts.{Charts, Ready}
use Rattle.chart.specs.Chart.{firsts_in, graph_in, musts_in, nodes_in, plant_in, seconds_in, width_in}
use Rattle.search.specs.Search.{joins_at}
use Rattle.paths.specs.Path.{entered_by, keys_of, length_of, no_key, plant_of}
use Rattle.paths.specs.declared.Path.{Path}
use Rattle.paths.proofs.Laws as paths
use Rattle.grow.specs.Grow.{fresh_after}
use Rattle.grow.proofs.Grow.{entered_step, fresh_ready, ready_after}
use Rattle.walk.specs.Climbing.{climbs_from, climbs_in, key_at, legal_by}

-- ALL STEPS

-- the node at a place that the first i steps enter is the whole path's
entered_at_lem : (plant : ℕ) (keys : List Key) (i at : ℕ) → at ≤ i → get_or (entered_by plant (take i keys)) at 0 ≡ get_or (entered_by plant keys) at 0
entered_at_lem plant keys i zero h = refl
entered_at_lem plant keys i (suc at) h =
    get_or-map (λ (k : Key). k.node) (take i keys) at no_key ∙ ap (λ (k : Key). k.node) (get_or-take i keys at no_key h) ∙ sym (get_or-map (λ (k : Key). k.node) keys at no_key)

module _ (c : List ℕ) (plant : ℕ) (keys : List Key) where
  -- what is left to be asked behind i steps
  abbrev pub left_at : ℕ → ℕ → ℕ → ℕ → Bool
  left_at fresh place node i = climbs_from c fresh (entered_by plant (take i keys)) place node (drop i keys)

  pub climbs_start : climbs_in c plant keys ≡ left_at (minus (nodes_in c) (bit plant)) 0 0 0
  unfolding climbs_in
  climbs_start = refl

  pub climbs_over : (fresh place node i : ℕ) → length keys ≤ i → left_at fresh place node i ≡ true
  unfolding climbs_from
  climbs_over fresh place node i h = rw (drop_of_length-le keys h)

  module _ (fresh place node i : ℕ) (k : Key) (within : i < length keys) (is : k ≡ get_or keys i no_key) where
    many : length (entered_by plant (take i keys)) ≡ suc i
    many = omega (arith, length-map (take i keys) (λ (k : Key). k.node), length-take-le i keys (omega arith))

    next : entered_by plant (take i keys) ++ (k.node ∷ []) ≡ entered_by plant (take (i + 1) keys)
    next =
        let more : take i keys ++ (k ∷ []) ≡ take (i + 1) keys = rw (is, add-one) (sym (take-suc keys i no_key within)) in
        entered_step (take i keys) k refl ∙ ap (entered_by plant) more

    -- one step asked
    turn : left_at fresh place node i
        ≡ both (ltb k.place (suc i)) (both (legal_by c fresh place node (get_or (entered_by plant (take i keys)) k.place 0) k)
        (left_at (minus fresh (bit k.node)) k.place k.node (i + 1)))
    unfolding climbs_from
    turn = rw (← next, drop-cons keys i no_key within, ← is, many, add-one)

    pub climbs_late : i < k.place → left_at fresh place node i ≡ false
    climbs_late h = turn ∙ (rw (le-ltb k.place (suc i) h))

    module _ {pivot : ℕ} (entered : k.place ≤ i) (at : pivot ≡ get_or (entered_by plant keys) k.place 0) where
      pub climbs_not : legal_by c fresh place node pivot k ≡ false → left_at fresh place node i ≡ false
      climbs_not n = turn ∙ (rw (lt-ltb k.place (suc i) (omega arith), entered_at_lem plant keys i k.place entered, ← at, n))

      pub climbs_next : legal_by c fresh place node pivot k ≡ true → left_at fresh place node i ≡ left_at (minus fresh (bit k.node)) k.place k.node (i + 1)
      climbs_next t = turn ∙ (rw (lt-ltb k.place (suc i) (omega arith), entered_at_lem plant keys i k.place entered, ← at, t))

-- what the arrays of a path say of its step i
pub record StepAt (p : Path) (i : ℕ) : Type 0 where
  pub within : i < length (keys_of p)
  pub key : record { place = get_or p.pivots i 0; node = get_or p.nodes (i + 1) 0; row = get_or p.rows i 0 } ≡ get_or (keys_of p) i no_key
  pub entered : (at : ℕ) → at ≤ i → get_or p.nodes at 0 ≡ get_or (entered_by (plant_of p) (keys_of p)) at 0

pub step_at_lem : (p : Path) → length p.nodes ≡ 32 → length p.rows ≡ 31 → length p.pivots ≡ 31 → (i : ℕ) → i < length_of p → StepAt p i
step_at_lem p nodes rows pivots i h = record {
  within = omega (arith, paths.keys_length p nodes rows pivots);
  key = λ j. record { place = paths.place_at p nodes rows pivots i h j; node = paths.node_at p nodes rows pivots i h j; row = paths.row_at_lem p nodes rows pivots i h j };
  entered = λ at l. paths.entered_at_lem p nodes rows pivots at (omega arith);
}

-- OVER A RIGHT CHART

module _ {c : List ℕ} (right : Charts c) where
  abbrev g : Graph
  g = graph_in c

  legal_out : (s : State) (fresh : ℕ) (k : Key) → Ready g s fresh → k.place < length s.entered
      → T (legal_by c fresh s.place s.node (get_or s.entered k.place 0) k) → Legal g (row_numbers g) s k
  unfolding legal_by joins_at
  legal_out s fresh k ready h t =
      let (unentered, t) = (T-both (has fresh k.node) _).0 t in
      let (joins, ahead) = (T-both (joins_at (firsts_in false c) (seconds_in false c) k.row (get_or s.entered k.place 0) k.node) _).0 t in
      let (node, new) = (ready.unentered k.node).0 unentered in
      let pivot = get_or s.entered k.place 0 in
      let old = get_or_mem s.entered k.place 0 h in
      let joined = joins_out g k.row pivot k.node joins in
      record {
        step = record {
          pivot = pivot;
          joined = joined;
          leaves = old;
          enters = node;
          fresh = new;
          stands = sym (place_at s.entered k.place ready.sound.once h);
        };
        usable = row_numbers_in g k.row (row_known g right.charted.formed joined (ready.sound.nodes pivot old) node);
        above = follows_out (key_at s.place s.node) k ahead;
      }

  climbs_legal : (s : State) (fresh : ℕ) (keys : List Key) → Ready g s fresh → T (climbs_from c fresh s.entered s.place s.node keys)
      → Legals g (row_numbers g) s keys
  unfolding climbs_from
  climbs_legal s fresh [] ready t = tt
  climbs_legal s fresh (k ∷ keys) ready t =
      let (low, t) = (T-both (ltb k.place (length s.entered)) _).0 t in
      let (one, t) = (T-both (legal_by c fresh s.place s.node (get_or s.entered k.place 0) k) _).0 t in
      let legal = legal_out s fresh k ready (ltb→lt _ _ low) one in
      (legal, climbs_legal (after s k) (minus fresh (bit k.node)) keys (ready_after right.charted ready legal) t)

  pub climbs_full : (keys : List Key) → climbs_in c (plant_in c) keys ≡ true → length keys ≡ width_in c → musts_in c ⊆ rows_of keys
      → Full (graph_in c) (start (graph_in c)) (musts_in c) keys
  unfolding climbs_in fresh_after
  climbs_full keys climbs long musts =
      let legals = climbs_legal (start g) (minus (nodes_in c) (bit (plant_in c))) keys (fresh_ready right.charted (nodes_in c) [] right.all tt) ((T_true _).1 climbs) in
      let sound = sound_walk g (row_numbers g) (start g) keys (sound_start g right.charted.formed) legals in
      let entered = (state_after (start g) keys).entered in
      let whole : g.nodes ⊆ entered = filled ℕ_discrete entered g.nodes sound.once sound.nodes (omega (arith, right.wide, state_after_length (start g) keys)) in
      record {
        completes = subst (Completion g (row_numbers g) (start g)) (append-nil keys) (completion_join g (row_numbers g) (start g) keys [] legals whole);
        all = musts;
      }

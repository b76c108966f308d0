-- The turns of a pass (`Turn`): it begins at the first path (`turn_start`), goes on to the next (`turn_next`), and ends behind the last with the next rows
-- of the front in the scratch table (`turn_last`).
use mathlib.Core.Path.{◌∙◌, ◌≡◌, ap, refl, subst, sym}
use mathlib.Core.Bool.{false}
use mathlib.Core.Option.{none, some}
use mathlib.Core.List.{List, []}
use Prim.Native.Nat.{◌+◌, ◌<◌, ◌≤◌, ℕ}
use native.Mathlib.Numerals.{add-one}
use native.Mathlib.Omega.{arith}
use lib.ListN.{length}
use Rattle.graph.specs.Graph.{Graph, row_numbers}
use Rattle.graph.specs.Paths.{Key}
use Rattle.graph.proofs.Growth.{rows_of, rows_of_length, start}
use Rattle.graph.proofs.Minimal.{WellFormed, sound_start}
use Rattle.graph.proofs.Parts.{FirstIn, LastIn, NextIn, Part}
use Rattle.graph.proofs.Unique.{completion_length}
use Rattle.costs.specs.Costs.{cost_of}
use Rattle.costs.proofs.Networks.{cost_length}
use Rattle.chart.specs.Chart.{graph_in, musts_in, plant_in, width_in}
use Rattle.tables.specs.Tables.{Table}
use Rattle.bounds.proofs.Missing.{rows_map}
use Rattle.network_file.specs.File.{network_of, sizes_of}
use Rattle.operations.specs.Operations.{layouts_in}
use Rattle.paths.specs.Path.{keys_of, plant_of, rows_in}
use Rattle.paths.specs.declared.Path.{Path}
use Rattle.grow.specs.Musts.{first_of}
use Rattle.walk.specs.Walk.{after_of}
use Rattle.walk.proofs.Behind.{after_beyond, after_in, first_path_lem, last_path, next_path}
use Rattle.states.proofs.Full.{Full}
use Rattle.states.proofs.With.{with_part_lem}
use Rattle.passes.specs.Passes.{enter_behind, known_trees}
use Rattle.passes.proofs.KnownTrees.{known_vectors}
use Rattle.passes.proofs.Passes.{pass_ends}
use Rattle.passes.proofs.Places.{Stands, left, left_less, stands_first, stands_last, stands_next}
use Rattle.scratch.specs.Scratch.{Held, Offered, offer_of}
use Rattle.scratch.specs.declared.Scratch.{Scratch}
use Rattle.scratch.proofs.Held.{held_bounded, held_count, held_start, held_trees, held_unbounded, held_vectors, offer_held}
use Rattle.fronted.specs.Filled.{Holding}
use Rattle.walked.specs.Passes.{KnownRows, Laid, Passed, scratch_rows}

-- The pass stands before a path, and the scratch table holds what stands behind the first n rows of the front.
pub record Turn (f c : List ℕ) (rows n : ℕ) (costs₀ witnesses₀ : List ℕ) (s : Scratch) (path : Path) (costs witnesses : List ℕ) : Type 0 where
  pub table : Table (List ℕ)
  pub whole : Full (graph_in c) (start (graph_in c)) (musts_in c) (keys_of path)
  pub planted : plant_of path ≡ plant_in c
  pub stands : Stands (network_of f) (layouts_in f) n rows (rows_of (keys_of path)) table
  pub held : Held (cost_of (network_of f)) (sizes_of f).k (width_in c) rows s costs witnesses table
  pub same_costs : length costs ≡ length costs₀
  pub same_witnesses : length witnesses ≡ length witnesses₀

module _ {f c : List ℕ} (l : Laid f c) where
  abbrev g : Graph
  g = graph_in c

  abbrev L : List (List ℕ)
  L = layouts_in f

  abbrev k : ℕ
  k = (sizes_of f).k

  wf : WellFormed g
  wf = l.right.charted.formed

  -- the network's trees are those of the chart, in its graph's order
  part : Part g L
  part = subst (Part g) l.list (with_part_lem g (musts_in c))

  -- what the code makes of accepted steps is the first path
  first_is : (keys : List Key) → keys ≡ first_of c → Full g (start g) (musts_in c) keys × FirstIn g L (rows_of keys)
  first_is keys e =
      let (full, first) = first_path_lem l.right l.some_tree_lem.0 l.some_tree_lem.1 in
      rw e (full, subst (λ (x : List (List ℕ)). FirstIn g x (rows_of (first_of c))) l.list first)

  module _ (rows n : ℕ) where
    pub turn_start : (path : Path) (costs witnesses : List ℕ) → plant_of path ≡ plant_in c → keys_of path ≡ first_of c
        → Turn f c rows n costs witnesses (record { count = 0; bounded = false }) path costs witnesses
    turn_start path costs witnesses same e =
        let (whole, first) = first_is (keys_of path) e in
        record {
          table = record { rows = []; bound = none };
          whole = whole;
          planted = same;
          stands = stands_first (network_of f) n rows part (rows_of (keys_of path)) first;
          held = held_start (cost_of (network_of f)) k (width_in c) rows costs witnesses;
          same_costs = refl;
          same_witnesses = refl;
        }

    -- One turn: the path is offered, and the walk goes on behind it
    module _ {known : List ℕ} (rows_known : KnownRows f n known) {costs₀ witnesses₀ : List ℕ} (room : Holding (rows + 1) (sizes_of f).k (width_in c) costs₀ witnesses₀)
        {s : Scratch} {path : Path} {costs witnesses : List ℕ} (turn : Turn f c rows n costs₀ witnesses₀ s path costs witnesses)
        {s' : Scratch} {costs' witnesses' : List ℕ}
        (offer : record { scratch = s'; costs = costs'; witnesses = witnesses' } ≡ offer_of known n costs witnesses rows s (cost_of (network_of f) (rows_in path)) (rows_in path))
        (len : ℕ) (whole_path : len ≡ length (rows_in path)) where
      abbrev key : List ℕ → List ℕ
      key = cost_of (network_of f)

      abbrev here : List ℕ
      here = rows_of (keys_of path)

      abbrev table' : Table (List ℕ)
      table' = enter_behind key rows (known_trees (network_of f) L n) turn.table here

      size : length here ≡ width_in c
      size = omega (arith, rows_of_length (keys_of path), l.right.wide, completion_length g (row_numbers g) (start g) (keys_of path) wf.once (sound_start g wf) turn.whole.completes)

      all : width_in c ≤ len
      all = omega (arith, size, ap length (rows_map (keys_of path)))

      held' : Held key k (width_in c) rows s' costs' witnesses' table'
      held' =
          let long : (p : List ℕ) → length (key p) ≡ k = λ p. cost_length (network_of f) p ∙ l.lists.file.kinds in
          let same : rows_in path ≡ here = sym (rows_map (keys_of path)) in
          let after = offer ∙ ap (λ (p : List ℕ). offer_of known n costs witnesses rows s (key p) p) same in
          subst (λ (o : Offered). Held key k (width_in c) rows o.scratch o.costs o.witnesses table') (sym after)
          (offer_held key k (width_in c) rows long turn.held l.lists.file.criteria_low (omega (arith, l.width, l.lists.file.nodes_low))
          (rw (turn.same_costs, ← add-one rows) room.costs_fit) (rw (turn.same_witnesses, ← add-one rows) room.trees_fit) here size known n (known_trees (network_of f) L n) rows_known.fits
          (rows_known.vectors ∙ sym (known_vectors (network_of f) L n)))

      module _ (next : Path) (found : some (keys_of next) ≡ after_of c (plant_of path) (keys_of path) len) where
        found_next : after_in l.right (keys_of path) len ≡ some (keys_of next)
        found_next = sym (found ∙ (rw turn.planted))

        is_next : NextIn g L here (rows_of (keys_of next))
        is_next =
            subst (λ (x : List (List ℕ)). NextIn g x here (rows_of (keys_of next))) l.list
            (next_path l.right (keys_of path) turn.whole len all (keys_of next) found_next)

        pub turn_next : plant_of next ≡ plant_of path → length costs' ≡ length costs → length witnesses' ≡ length witnesses
            → Turn f c rows n costs₀ witnesses₀ s' next costs' witnesses'
        turn_next same kept_costs kept_witnesses = record {
          table = table';
          whole = (after_beyond l.right (keys_of path) turn.whole len (keys_of next) found_next).full;
          planted = same ∙ turn.planted;
          stands = stands_next (network_of f) n rows part here turn.table turn.stands (rows_of (keys_of next)) is_next;
          held = held';
          same_costs = kept_costs ∙ turn.same_costs;
          same_witnesses = kept_witnesses ∙ turn.same_witnesses;
        }

        pub turn_less : left (graph_in c) (layouts_in f) (rows_in next) < left (graph_in c) (layouts_in f) (rows_in path)
        turn_less = rw (← rows_map (keys_of path), ← rows_map (keys_of next)) (left_less part turn.stands.place here (rows_of (keys_of next)) turn.stands.at is_next)

      pub turn_last : rows ≡ scratch_rows → none ≡ after_of c (plant_of path) (keys_of path) len → Passed f c n s' costs' witnesses'
      turn_last e found =
          let over = subst (λ (x : List (List ℕ)). LastIn g x here) l.list (last_path l.right (keys_of path) turn.whole len all (sym (found ∙ (rw turn.planted)))) in
          let end = pass_ends (network_of f) L n rows rows_known.few (omega arith) table' (stands_last (network_of f) n rows part here turn.table turn.stands over) in
          let count = held_count held' in
          record {
            few = omega (arith, held'.few);
            within = omega (arith, end.within);
            vectors = held_vectors held' ∙ end.vectors_are ∙ (rw count);
            trees = held_trees held' ∙ end.rows_are ∙ (rw count);
            all = λ e. omega (arith, end.all (held_unbounded held' e));
            some_more = λ e. omega (arith, end.some_more _ (held_bounded held' e));
          }

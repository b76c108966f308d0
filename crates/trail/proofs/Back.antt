-- What each way through a turn of the walk back does, with the numbers read from the arrays: a step that is kept leaves the rest of the walk back (`kept_must`,
-- `bound_ways`), and any other is a turn to the next path (`turn_row`, `bound_ways`).
use mathlib.Core.Path.{◌∙◌, ◌≡◌, ap, sym}
use mathlib.Core.Bool.{Bool, false, true}
use mathlib.Core.Option.{Option, none, some}
use Rattle.std.specs.Prelude.{None, Some}
use mathlib.Core.List.{List}
use Prim.Native.Nat.{◌-◌, ◌<◌, ◌≤◌, suc, ℕ}
use native.Mathlib.Omega.{arith}
use borrow.Author.Tests.{ne_eqb}
use lib.ListN.{get_or-map, get_or, length, take}
use Rattle.graph.specs.Paths.{Key}
use Rattle.graph.proofs.Growth.{rows_of, rows_of_length, start}
use Rattle.bounds.proofs.Missing.{rows_map}
use Rattle.states.specs.States.{must_row}
use Rattle.states.proofs.Full.{Full}
use Rattle.lists.proofs.Tests.{T_false}
use Rattle.words.specs.Words.{minus}
use Rattle.chart.proofs.Charts.{Charts, must_row_lem}
use Rattle.chart.specs.Chart.{firsts_in, graph_in, musts_in, near_in, next_in, nodes_in, plant_in, width_in}
use Rattle.search.specs.Search.{or_else}
use Rattle.paths.specs.Path.{entered_by, no_key}
use Rattle.states.proofs.With.{with_of}
use Rattle.grow.specs.Grow.{fresh_after, open_past}
use Rattle.grow.proofs.Leads.{MustsLead, tree_leads}
use Rattle.walk.specs.Walk.{after_from, after_of, skip_of}
use Rattle.walk.proofs.Laws.{after_over, after_start, skip_must, skip_none, skip_on, skip_row_lem}
use Rattle.trail.specs.Trail.{Holds, TurnsTo, open_beyond, turned_by}
use Rattle.trail.proofs.Sets.{entered_part, fresh_set, node_at, pivot_at_lem, set_at}
use Rattle.trail.proofs.Turns.{open_beyond_lem, place_low, turn_back}

-- a path of a right chart with all must rows, held in arrays and with its rows in a tree's places
pub record Walked (c entered pivots sets rows : List ℕ) (keys : List Key) : Type 0 where
  pub right : Charts c
  pub full : Full (graph_in c) (start (graph_in c)) (musts_in c) keys
  pub holds : Holds entered pivots sets (plant_in c) keys
  pub rows_are : rows ≡ rows_of keys

-- the nodes that are not entered after the first i steps
abbrev pub fresh_at : List ℕ → List Key → ℕ → ℕ
fresh_at c keys i = fresh_after (nodes_in c) (entered_by (plant_in c) (take i keys))

-- the next path is that of the walk back from step i on
abbrev pub LeftAt : List ℕ → List Key → ℕ → Type 0
LeftAt c keys i = after_of c (plant_in c) keys (length keys) ≡ after_from c (plant_in c) i (fresh_at c keys i) keys

-- Where a step has no other row: if its node is found to be still reached behind it, the bound moves up to it, and else the walk goes on back.
abbrev pub BoundWays : List ℕ → List ℕ → List ℕ → List Key → ℕ → ℕ → Bool → Type 0
BoundWays c entered pivots keys n j found =
    (found ≡ true → TurnsTo c (plant_in c) keys (Some (record { at = j; place = get_or pivots j 0; node = get_or entered n 0; row = 0 }))) × (found ≡ false → LeftAt c keys j)

-- with no node at the end of a must row there is none
pub none_kept : {c : List ℕ} → MustsLead c → get_or (near_in true c) 0 0 ≡ 0 → (row : ℕ) → false ≡ must_row (firsts_in true c) row
none_kept {c} lead e row = sym ((T_false (must_row (firsts_in true c) row)).0 (λ t. lead.leads row ((must_row_lem c row).0 t) e))

module _ {c entered pivots sets rows : List ℕ} {keys : List Key} (w : Walked c entered pivots sets rows keys) where
  pub rows_long : length rows ≡ length keys
  rows_long = ap length w.rows_are ∙ rows_of_length keys

  -- a tree has its must rows, which lead to nodes
  pub leads : MustsLead c
  leads = tree_leads w.right (rows_of keys) (with_of (graph_in c) w.right.charted.formed (musts_in c) keys w.full)

  pub left_start : LeftAt c keys (length rows)
  left_start = rw rows_long (after_start c (plant_in c) (length keys) (length keys) keys (omega arith))

  -- no step is left
  pub left_over : (i : ℕ) → i ≤ 0 → LeftAt c keys i → TurnsTo c (plant_in c) keys None
  left_over i h left = left ∙ after_over c (plant_in c) i (fresh_at c keys i) keys h

  -- step j, the last of the first n
  module _ (n j : ℕ) (e : n ≡ suc j) (h : n ≤ length rows) (left : LeftAt c keys n) where
    abbrev k : Key
    k = get_or keys j no_key

    within : j < length keys
    within = omega (arith, rows_long)

    row_is : get_or rows j 0 ≡ k.row
    row_is = ap (λ (l : List ℕ). get_or l j 0) (w.rows_are ∙ rows_map keys) ∙ get_or-map (λ (k : Key). k.row) keys j no_key

    pub node_is : get_or entered n 0 ≡ (get_or keys j no_key).node
    node_is = rw e (node_at w.holds j within)

    pub place_is : get_or pivots j 0 ≡ (get_or keys j no_key).place
    place_is = pivot_at_lem w.holds j within

    abbrev skipped : Option (List Key)
    skipped = skip_of c (plant_in c) (width_in c - j) (fresh_at c keys j) (take j keys) k

    asked : after_of c (plant_in c) keys (length keys) ≡ or_else skipped (after_from c (plant_in c) j (fresh_at c keys j) keys)
    asked = left ∙ rw e (turn_back w.right keys w.full j within)

    -- with no answer at the step, and with one
    on : none ≡ skipped → LeftAt c keys j
    on o = asked ∙ ap (λ (o : Option (List Key)). or_else o (after_from c (plant_in c) j (fresh_at c keys j) keys)) (sym o)

    turns : (row : ℕ) → some (turned_by c (plant_in c) keys j row) ≡ skipped
        → TurnsTo c (plant_in c) keys (Some (record { at = j; place = get_or pivots j 0; node = get_or entered n 0; row = row }))
    turns row o = (
      asked ∙ ap (λ (o : Option (List Key)). or_else o (after_from c (plant_in c) j (fresh_at c keys j) keys)) (sym o),
      record { inside = omega (arith, within); changes = λ z. within; place_is = place_is; node_is = node_is },
    )

    pub kept_must : must_row (firsts_in true c) (get_or rows j 0) ≡ true → LeftAt c keys j
    kept_must t = on (skip_must c (plant_in c) (width_in c - j) (fresh_at c keys j) (take j keys) k (rw row_is at t))

    -- of a row that is not a must row
    module _ (free : must_row (firsts_in true c) (get_or rows j 0) ≡ false) {next : ℕ} (read : next ≡ next_in c (get_or rows j 0)) where
      pub turn_row : ¬ (next ≡ 0) → TurnsTo c (plant_in c) keys (Some (record { at = j; place = get_or pivots j 0; node = get_or entered n 0; row = next }))
      unfolding turned_by
      turn_row d = turns next (rw (ne_eqb next 0 d)
          (skip_row_lem c (plant_in c) (width_in c - j) (fresh_at c keys j) (take j keys) k (rw row_is at free) (rw row_is at read) d))

      -- what is asked of the sets, and the answer
      module _ (z : next ≡ 0) {set before nodes fresh later : ℕ} {found : Bool} (now_set : set ≡ get_or sets j 0) (then_set : before ≡ get_or sets (get_or pivots j 0) 0) (all : nodes ≡ nodes_in c)
          (fresh_is : fresh ≡ minus nodes set) (later_is : later ≡ minus set before) (answer : found ≡ open_beyond c fresh later (take n entered) (get_or pivots j 0) (get_or entered n 0)) where
        same_open : found ≡ open_past c (plant_in c) (fresh_at c keys j) (take j keys) k.place k.node
        same_open =
            let low = place_low w.right keys w.full j within in
            let here = now_set ∙ set_at w.holds j (omega (arith, within)) in
            let there = then_set ∙ ap (λ (i : ℕ). get_or sets i 0) place_is ∙ set_at w.holds k.place (omega (arith, within)) in
            let part = ap (λ (i : ℕ). take i entered) e ∙ entered_part w.holds j (omega (arith, within)) in
            answer ∙ (rw (fresh_is, later_is, all, here, there, part, place_is, node_is, ← (fresh_set (entered_by (plant_in c) (take j keys)) (nodes_in c)))
            (open_beyond_lem w.right keys w.full j within))

        pub bound_ways : BoundWays c entered pivots keys n j found
        unfolding turned_by
        bound_ways = (
          λ o. turns 0 (skip_on c (plant_in c) (width_in c - j) (fresh_at c keys j) (take j keys) k (rw row_is at free) (rw row_is at read) z (sym same_open ∙ o)),
          λ o. on (skip_none c (plant_in c) (width_in c - j) (fresh_at c keys j) (take j keys) k (rw row_is at free) (rw row_is at read) z (sym same_open ∙ o)),
        )

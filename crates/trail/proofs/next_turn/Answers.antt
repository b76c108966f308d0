use mathlib.Core.Path.{◌∙◌, ◌≡◌, refl, sym}
use mathlib.Core.Bool.{true}
use mathlib.Core.List.{List}
use Prim.Native.Nat.{◌+◌, ◌-◌, ℕ}
use native.Mathlib.Numerals.{add-one}
use native.Mathlib.Omega.{arith}
use lib.ListN.{get_or}
use Rattle.graph.specs.Paths.{Key}
use Rattle.graph.proofs.Growth.{rows_of, start}
use Rattle.states.proofs.Full.{Full}
use Rattle.chart.proofs.Charts.{Charts}
use Rattle.chart.specs.Chart.{firsts_in, graph_in, musts_in, plant_in}
use Rattle.states.specs.States.{must_row}
use Rattle.trail.specs.Trail.{Holds}
use Rattle.trail.proofs.Back.{BoundWays, LeftAt, Walked, bound_ways, kept_must, leads, left_over, left_start, rows_long, turn_row}
use Rattle.trail.proofs.next_turn.Goals as goal
use Rattle.trail.proofs.next_turn.Goals.{After-is_kept, After-open_past, In-loop-i}

walked : {c entered pivots sets rows : List ℕ} {keys : List Key} → Charts c → Full (graph_in c) (start (graph_in c)) (musts_in c) keys
    → Holds entered pivots sets (plant_in c) keys → rows ≡ rows_of keys → Walked c entered pivots sets rows keys
walked right full holds rows_are = record { right = right; full = full; holds = holds; rows_are = rows_are }

pub returns-then-steps-gt31 : goal.returns-then-steps-gt31
returns-then-steps-gt31 c keys right full holds rows_are = absurd (omega (arith, c.if-steps-gt31.true, holds.few, rows_long (walked right full holds rows_are)))

pub loop-i-init : goal.loop-i-init
loop-i-init c keys w = left_start w

-- the walk back at the step that is asked
back : (c : In-loop-i) →
    let a = c.args in
    (keys : List Key) → Walked a.chart.now.words a.entered.now a.pivots.now a.sets.now a.rows.now keys → LeftAt a.chart.now.words keys (c.loop-i.i - 1 + 1)
back c keys w = let next : c.loop-i.i ≡ c.loop-i.i - 1 + 1 = omega arith in rw next at (c.loop-i.invariant keys w)

-- whether the row is a must row is told, of a tree's row
kept : (c : After-is_kept) →
    let a = c.args in
    (keys : List Key) → Walked a.chart.now.words a.entered.now a.pivots.now a.sets.now a.rows.now keys
    → c.is_kept.result ≡ must_row (firsts_in true a.chart.now.words) (get_or a.rows.now (c.loop-i.i - 1) 0)
kept c keys w = c.is_kept.ensures (leads w) c.near-claimed.ensures

pub loop-i-preserved-then-is_kept : goal.loop-i-preserved-then-is_kept
loop-i-preserved-then-is_kept c keys w =
    let at = goal.at.loop-i-preserved-then-is_kept c in
    kept_must w _ (c.loop-i.i - 1) (add-one _) (omega arith) (back at.In-loop-i keys w) (sym (kept at.After-is_kept keys w) ∙ c.if-is_kept.true)

pub returns-then-beside-ne0 : goal.returns-then-beside-ne0
returns-then-beside-ne0 c keys right full holds rows_are =
    let at = goal.at.returns-then-beside-ne0 c in
    let w = walked right full holds rows_are in
    turn_row w _ (c.loop-i.i - 1) (add-one _) (omega arith) (back at.In-loop-i keys w) (sym (kept at.After-is_kept keys w) ∙ c.if-is_kept.false) c.next_row-beside.ensures c.if-beside-ne0.true

-- what is found of the sets decides
asked : (c : After-open_past)
    → (let a = c.args in
    (keys : List Key) → Walked a.chart.now.words a.entered.now a.pivots.now a.sets.now a.rows.now keys → LeftAt a.chart.now.words keys (c.loop-i.i - 1 + 1))
    → (let a = c.args in
    (keys : List Key) → Walked a.chart.now.words a.entered.now a.pivots.now a.sets.now a.rows.now keys
    → c.is_kept.result ≡ must_row (firsts_in true a.chart.now.words) (get_or a.rows.now (c.loop-i.i - 1) 0)) →
    let a = c.args in
    (keys : List Key) → Walked a.chart.now.words a.entered.now a.pivots.now a.sets.now a.rows.now keys
    → BoundWays a.chart.now.words a.entered.now a.pivots.now keys (c.loop-i.i - 1 + 1) (c.loop-i.i - 1) c.open_past.result
asked c left kept' keys w =
    let j = c.loop-i.i - 1 in
    bound_ways w (j + 1) j (add-one _) (omega arith) (left keys w) (sym (kept' keys w) ∙ c.if-is_kept.false) c.next_row-beside.ensures c.if-beside-ne0.false refl
    c.at.ensures c.nodes-nodes.ensures c.minus-fresh.ensures c.minus-later.ensures
    c.open_past.ensures

pub returns-then-open_past : goal.returns-then-open_past
returns-then-open_past c keys right full holds rows_are =
    let at = goal.at.returns-then-open_past c in
    (asked at.After-open_past (back at.In-loop-i) (kept at.After-is_kept) keys (walked right full holds rows_are)).0 c.if-open_past.true

pub loop-i-preserved : goal.loop-i-preserved
loop-i-preserved c keys w =
    let at = goal.at.loop-i-preserved c in
    (asked at.After-open_past (back at.In-loop-i) (kept at.After-is_kept) keys w).1 c.if-open_past.false

pub returns : goal.returns
returns c keys right full holds rows_are =
    let w = walked right full holds rows_are in
    left_over w c.loop-i.i (omega arith) (c.loop-i.invariant keys w)

use mathlib.Core.Path.{◌∙◌, ◌≡◌, ap, refl, sym}
use mathlib.Core.Bool.{false}
use Prim.Native.Nat.{◌+◌, ◌<◌, ◌≤◌}
use native.Mathlib.Decide.{dec_lt}
use native.Mathlib.Omega.{arith}
use lib.ListN.{drop, get_or, length, length-map, length-set, length-take, take}
use lib.Seq.{get_or-take}
use borrow.Author.Rules.{rules}
use Rattle.graph.specs.Paths.{Key}
use Rattle.chart.specs.Chart.{firsts_in, seconds_in}
use Rattle.paths.proofs.Laws.{extended_is, keys_length, plant_stays}
use Rattle.paths.specs.Path.{entered_by, keys_from, keys_of}
use Rattle.trace.specs.Trace.{key_by, trace_from}
use Rattle.trace.proofs.Laws.{step_is, table_length, table_next, table_start, trace_full, trace_next, trace_over}
use Rattle.trace.proofs.trace.Goals as goal

pub loop-i-init : goal.loop-i-init
unfolding keys_of keys_from
loop-i-init c =
    let p = c.plant-plant.result in
    let small : p < 256 = search rules in
    (refl, refl, refl, refl, refl, refl, table_length 256 p, table_start 256 p refl small)

pub loop-i-preserved : goal.loop-i-preserved
loop-i-preserved c =
    let l = c.loop-i in
    let p = c.plant-plant.result in
    let most = c.min-n.result in
    let v = l.invariant in
    let keys = keys_of l.path in
    let within : l.i < most = omega (arith, c.loop-i-test.true, length-take most c.args.rows.now) in
    let room : l.i < 31 = omega (arith, c.min-n.ensures) in
    let row = get_or (take most c.args.rows.now) l.i 0 in
    let taken : row ≡ get_or c.args.rows.now l.i 0 = get_or-take most c.args.rows.now l.i 0 within in
    let k : Key = record { place = c.place_by.result; node = c.end_by-node.result; row = row } in
    let size : length keys ≡ l.i = omega (arith, v.0, keys_length l.path v.1 v.2 v.3) in
    let entered : length (entered_by p keys) ≡ l.i + 1 = omega (arith, size, length-map keys (λ (k : Key). k.node)) in
    let a : c.ends-a.result.0 < 256 = search rules in
    let b : c.ends-a.result.1 < 256 = search rules in
    let n : c.end_by-node.result < 256 = search rules in
    let e = extended_is l.path v.1 v.2 v.3 l.i k.place k.node row (sym v.0) room in
    let key : k ≡ key_by (firsts_in false c.args.chart.now.words) (seconds_in false c.args.chart.now.words) (entered_by p keys) row =
    rw (c.place_by.ensures, c.end_by-node.ensures)
    (step_is _ _ (entered_by p keys) row l.i _ _ _ _ c.ends-a.ensures.0 c.ends-a.ensures.1 (v.7 _ a) (v.7 _ b) entered) in (
      omega arith,
      length-set l.path.nodes (l.i + 1) k.node ∙ v.1,
      length-set l.path.rows l.i row ∙ v.2,
      length-set l.path.pivots l.i k.place ∙ v.3,
      plant_stays l.path v.1 v.2 v.3 l.i k.node ∙ v.4,
      trace_next _ _ _ _ keys l.i (omega (arith, c.min-n.ensures)) v.5 e (key ∙ ap (key_by _ _ _) taken),
      length-set l.entries c.end_by-node.result c.entry_after.result ∙ v.6,
      rw e (table_next p l.i keys k size room l.entries _ _ refl c.entry_after.ensures v.6 n v.7),
    )

pub returns : goal.returns
returns c =
    let l = c.loop-i in
    let p = c.plant-plant.ensures in
    let v = l.invariant in
    let rows = c.args.rows.now in
    let past : c.min-n.result ≤ l.i = omega (arith, c.loop-i-test.false, c.min-n.ensures, length-take c.min-n.result rows) in
    let whole : trace_from (firsts_in false c.args.chart.now.words) (seconds_in false c.args.chart.now.words) c.plant-plant.result (keys_of l.path) (drop l.i rows) ≡ keys_of l.path =
    elim (dec_lt l.i (length rows)) [
      | yes h ↦ trace_full _ _ _ (keys_of l.path) _ (omega (arith, c.min-n.ensures, v.0, keys_length l.path v.1 v.2 v.3))
      | no h ↦ trace_over _ _ _ _ (keys_of l.path) l.i (omega arith)
    ] in
    (v.4 ∙ p, rw (← p) (sym (v.5 ∙ whole)))

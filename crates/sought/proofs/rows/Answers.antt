use mathlib.Core.Path.{◌∙◌, ◌≡◌, refl, subst, sym}
use Prim.Native.Nat.{ℕ}
use native.Mathlib.Omega.{arith}
use lib.ListN.{length, length-map}
use lib.Seq.{take_all}
use Rattle.chart.specs.Chart.{limit_in, musts_in, width_in}
use Rattle.costing.specs.Costing.{free_in}
use Rattle.tally.specs.Kinds.{numbers_of}
use Rattle.paths.specs.Path.{rows_in}
use Rattle.std.specs.Prelude.{None, Some}
use Rattle.sought.specs.Sought.{NextOf, up_from}
use Rattle.sought.specs.Spaces.{FirstIn}
use Rattle.sought.proofs.Tables.{Standing, next_on, path_long, row_last, row_more, row_read, row_wanted, row_whole, standing_room, standing_start, up_past}
use Rattle.sought.proofs.rows.Goals as goal
use Rattle.sought.proofs.rows.Goals.{After-witness-path, At-loop-count, In-Some}

-- there are four kinds
four : (c : At-loop-count) → length (numbers_of c.args.space.criteria.kinds) ≡ 4
four c = simp length-map (omega arith)

-- how the tables stand at a turn
stands : (c : At-loop-count) → Standing c.requires.0.0 (four c) c.requires.1 c.loop-count.count c.loop-count.costs c.loop-count.witnesses
stands c = c.loop-count.invariant c.requires.0 (four c) c.requires.1

-- the next row that was found
told : (c : In-Some)
    → let s = c.args.space in
    let limit = limit_in c.args.chart.now.words in
    NextOf s.ends.firsts.now s.ends.seconds.now limit (numbers_of s.criteria.kinds) s.criteria.k s.criteria.costs.now s.criteria.leads.now (musts_in c.args.chart.now.words)
    (free_in s.ends.firsts.now s.ends.seconds.now c.args.heads.now limit) c.loop-count.costs c.loop-count.count (Some c.in-Some.v)
told c = next_on c.requires.0.0 c.requires.0.1 c.musts_of-musts.ensures c.free_of-free.ensures c.loop-count.costs c.loop-count.count (Some c.in-Some.v) c.in-Some.ensures

-- and the first path with its vector
first : (c : After-witness-path) → FirstIn c.args.chart.now.words c.args.space (up_from c.args.space.criteria.k c.in-Some.v) c.witness-path.result
first c = rw c.limits_above.ensures at c.witness-path.ensures

pub loop-count-init : goal.loop-count-init
loop-count-init c = λ s four lent. standing_start s.0 four lent

pub returns-in_default : goal.returns-in_default
returns-in_default c =
    row_whole _ _ _ (stands (goal.at.returns-in_default c).At-loop-count)
    (next_on c.requires.0.0 c.requires.0.1 c.musts_of-musts.ensures c.free_of-free.ensures c.loop-count.costs c.loop-count.count None c.in_default.ensures)

pub witness-path-requires : goal.witness-path-requires
witness-path-requires c =
    let at = goal.at.witness-path-requires c in (
      (c.requires.0.0.ready, c.requires.0.1),
      rw c.limits_above.ensures (up_past _ c.in-Some.v),
      rw c.limits_above.ensures (row_wanted _ _ _ (stands at.At-loop-count) _ (told at.In-Some)),
    )

pub write-requires : goal.write-requires
write-requires c =
    let at = goal.at.write-requires c in
    let wide = c.width-width.ensures in
    let st = stands at.At-loop-count in (
      rw wide (standing_room _ _ _ st (λ e. omega (arith, e, c.loop-count-test.true))),
      c.requires.0.0.ready.tables.few_criteria,
      wide ∙ sym (path_long _ _ _ st _ (told at.In-Some) _ (first at.After-witness-path)),
    )

pub loop-count-preserved : goal.loop-count-preserved
loop-count-preserved c =
    let at = goal.at.loop-count-preserved c in
    λ s four lent.
    let st = c.loop-count.invariant s four lent in
    let wide = c.width-width.ensures in
    row_more s.0 four lent st _ (told at.In-Some) _ (first at.After-witness-path) (λ e. omega (arith, e, c.loop-count-test.true)) _ _ _ _ c.write.ensures.0
    (row_read s.0 four lent st _ (told at.In-Some)) (rw wide at c.write.ensures.1)
    (take_all (width_in c.args.chart.now.words) (rows_in c.witness-path.result) (omega (arith, path_long s.0 four lent st _ (told at.In-Some) _ (first at.After-witness-path))))

pub returns : goal.returns
returns c =
    let at = (goal.at.returns c).At-loop-count in
    let all : c.loop-count.count ≡ c.args.capacity = omega arith in
    let full = subst (λ (n : ℕ). Standing c.requires.0.0 (four at) c.requires.1 n c.loop-count.costs c.loop-count.witnesses) all (stands at) in
    row_last _ _ _ full refl c.next_row-2.result
    (next_on c.requires.0.0 c.requires.0.1 c.musts_of-musts.ensures c.free_of-free.ensures c.loop-count.costs c.args.capacity c.next_row-2.result c.next_row-2.ensures)
    c.is_none-whole.result c.is_none-whole.ensures

use mathlib.Core.Path.{◌≡◌, sym}
use mathlib.Core.Option.{some}
use Prim.Native.Nat.{◌*◌, ◌≤◌, ℕ}
use native.Mathlib.Nat.{le_trans, mul-le-mul_left, mul-le-mul_right}
use native.Mathlib.Omega.{arith}
use lib.ListN.{get_elem?, length, take}
use Rattle.chart.proofs.Charts.{small}
use Rattle.chart.specs.Chart.{list_in, width_in}
use Rattle.moves.specs.Tree.{tree_of}
use Rattle.moves.proofs.Turns.{kept_next, kept_short, none_behind}
use Rattle.moves.proofs.moved.Goals as goal
use Rattle.moves.proofs.moved.Goals.{After-min-trees, Else-width-gt31}

pub returns-in_err-rows : goal.returns-in_err-rows
returns-in_err-rows c i ok e = rw c.from_residual.ensures (none_behind (list_in c.args.chart.now.words) i c.args.moves (rw c.in_err-rows.was at e))

pub returns-then-width-gt31 : goal.returns-then-width-gt31
returns-then-width-gt31 c i ok e =
    absurd (omega (arith, small c.args.chart.now.words, ok.right.wide, c.width-width.ensures, c.if-width-gt31.true))

-- the tree that is given is there
first : (c : Else-width-gt31) (i : ℕ) → let s = c.args in
    tree_of (width_in s.chart.now.words) s.tree ≡ get_elem? (list_in s.chart.now.words) i → get_elem? (list_in s.chart.now.words) i ≡ some (take c.width-width.result c.in_ok-rows.rows)
first c i e = rw c.width-width.ensures (sym (rw c.in_ok-rows.was at e))

-- 64 trees of 31 rows fit
part_bound : (c : After-min-trees) → c.min-trees.result * c.width-width.result ≤ length c.loop-left.part
part_bound c =
    let few : c.min-trees.result ≤ 64 = omega arith in
    let narrow : c.width-width.result ≤ 31 = omega arith in
    omega (arith, le_trans (mul-le-mul_right c.width-width.result few) (mul-le-mul_left 64 narrow), c.loop-left.invariant.part_long)

pub returns-then-filled-trees : goal.returns-then-filled-trees
returns-then-filled-trees c i ok e =
    let at = goal.at.returns-then-filled-trees c in
    kept_short c.loop-left.invariant c.width-width.ensures _ c.min-trees.ensures c.loop-left-test.true (part_bound at.After-min-trees) _ _ c.fill-filled.ensures c.if-filled-trees.true
    i ok (first at.Else-width-gt31 i e)

pub loop-left-preserved : goal.loop-left-preserved
loop-left-preserved c =
    let at = goal.at.loop-left-preserved c in
    let filled = c.fill-filled in
    kept_next c.loop-left.invariant c.width-width.ensures _ c.min-trees.ensures c.loop-left-test.true (part_bound at.After-min-trees) _ _ filled.ensures (omega arith) (omega arith)
    filled.auto.page c.copy.ensures c.copy.auto.table

use mathlib.Core.Path.{refl}
use mathlib.Core.List.{List}
use Prim.Native.Nat.{◌+◌, ℕ}
use native.Mathlib.Omega.{arith}
use lib.ListN.{get_elem?, length-take}
use Rattle.chart.proofs.Charts.{small}
use Rattle.chart.specs.Chart.{list_in}
use Rattle.pages.specs.Pages.{rest_after}
use Rattle.fill.specs.Walkable.{Begins, Walkable}
use Rattle.fill.proofs.Turns.{Shown, begins_over, begins_shown, kept_full, kept_last, kept_start, kept_turn}
use Rattle.fill.proofs.fill_from.Goals as goal
use Rattle.fill.proofs.fill_from.Goals.{After-gather}

pub returns-then-width-eq0 : goal.returns-then-width-eq0
returns-then-width-eq0 c begin ok starts begins =
    absurd (omega (arith, ok.several, small c.args.chart.now.words, ok.right.wide, c.width-width.ensures, c.then-width-eq0.either))

pub returns-in_default : goal.returns-in_default
returns-in_default c begin ok starts begins = begins_over ok c.args.page.now begin starts (rw c.in_default.is at begins)

pub loop-page-init : goal.loop-page-init
loop-page-init c = kept_start _ _ _ _ _ _ _ (omega arith) (omega arith)

-- the arrays show what comes first
shown : (c : After-gather) → (begin : List ℕ) → Walkable c.args.chart.now.words → Begins c.args.chart.now.words begin c.args.next
    → Shown c.args.chart.now.words c.in-Some.tree.nodes c.in-Some.tree.pivots c.in-Some.tree.rows c.gather.new.sets (get_elem? (rest_after (list_in c.args.chart.now.words) begin) 0)
shown c begin ok begins =
    let n = c.width-width.result + 1 in
    let tree = c.in-Some.tree in
    let (gathered, sets_long) = c.gather.ensures (omega (arith, length-take n tree.nodes)) refl in
    begins_shown ok _ c.width-width.ensures tree (omega arith) (omega arith) (omega arith) begin _ (rw c.in-Some.is at begins) gathered sets_long

pub returns-in_default-next_turn : goal.returns-in_default-next_turn
returns-in_default-next_turn c begin ok starts begins =
    let at = goal.at.returns-in_default-next_turn c in
    kept_last c.width-width.ensures (omega arith) c.loop-page.invariant (omega arith) (omega arith) c.copy.ensures c.copy.auto.table begin ok starts (shown at.After-gather begin ok begins)
    c.next_turn.result c.next_turn.ensures c.in_default-next_turn.is

pub loop-page-preserved : goal.loop-page-preserved
loop-page-preserved c =
    let taken = c.take_turn in
    kept_turn c.width-width.ensures (omega arith) c.loop-page.invariant (omega arith) (omega arith) c.copy.ensures c.copy.auto.table c.next_turn.result c.next_turn.ensures
    c.in-Some-next_turn.turn c.in-Some-next_turn.is taken.ensures taken.auto.entered taken.auto.rows

pub returns : goal.returns
returns c begin ok starts begins =
    let at = goal.at.returns c in
    kept_full c.width-width.ensures (omega arith) c.loop-page.invariant begin ok starts (shown at.After-gather begin ok begins) (omega arith)

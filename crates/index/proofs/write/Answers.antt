use mathlib.Core.Path.{◌∙◌, ◌≡◌, subst, sym}
use mathlib.Core.List.{List}
use Prim.Native.Nat.{◌+◌, ◌≤◌, ℕ}
use native.Mathlib.Omega.{arith}
use lib.ListN.{get_elem?, length}
use Rattle.std.specs.Prelude.{Some}
use Rattle.lists.proofs.Members.{◌∈◌}
use Rattle.chart.specs.Chart.{list_in, width_in}
use Rattle.fill.proofs.Filling.{placed_next, placed_start}
use Rattle.fill.proofs.Steps.{listed_long}
use Rattle.fill.specs.Walkable.{Walkable}
use Rattle.moves.specs.Tree.{tree_of}
use Rattle.index.proofs.Entries.{Moved, Written, written_next, written_over, written_room, written_start}
use Rattle.index.proofs.write.Goals as goal
use Rattle.index.proofs.write.Goals.{At-loop-tree}

pub returns-then-width-eq0 : goal.returns-then-width-eq0
returns-then-width-eq0 c ok first low room = absurd (omega (arith, ok.several, c.width-width.ensures, c.if-width-eq0.true))

pub loop-tree-init : goal.loop-tree-init
loop-tree-init c = (placed_start _ _, λ ok first low. written_start _ _ _ low _ _ first)

-- of a chart whose trees can be listed
long : (c : At-loop-tree) → Walkable c.args.chart.now.words → (p : List ℕ) → p ∈ list_in c.args.chart.now.words → length p ≡ c.width-width.result
long c ok p m = listed_long ok p m ∙ sym c.width-width.ensures

written : (c : At-loop-tree) → Walkable c.args.chart.now.words → tree_of (width_in c.args.chart.now.words) c.args.first ≡ get_elem? (list_in c.args.chart.now.words) 0
    → 1 ≤ c.args.spacing
    → Written c.width-width.result c.args.spacing (list_in c.args.chart.now.words) c.args.index.now c.loop-tree.index c.loop-tree.tree c.loop-tree.at c.loop-tree.count
written c ok first low = c.loop-tree.invariant.1 ok (rw c.width-width.ensures first) low

pub returns-then-index-at : goal.returns-then-index-at
returns-then-index-at c ok first low room =
    let at = (goal.at.returns-then-index-at c).At-loop-tree in
    absurd (written_room _ _ _ (long at ok) (omega arith) c.loop-tree.invariant.0 (written at ok first low) _ c.width-width.ensures room c.in-Some.is c.if-index-at.true)

pub loop-tree-preserved : goal.loop-tree-preserved
loop-tree-preserved c =
    let at = (goal.at.loop-tree-preserved c).At-loop-tree in
    let places = c.loop-tree.invariant.0 in
    let room : c.loop-tree.at + c.width-width.result ≤ length c.loop-tree.index = omega (arith, places.same, places.within) in (
      placed_next _ _ places (omega arith) room c.copy.auto.table,
      λ ok first low.
          written_next _ _ _ (long at ok) (omega arith) places (c.loop-tree.invariant.1 ok first low) low c.in-Some.is _ room c.copy.ensures _
          (subst (λ (w : ℕ). Moved w c.args.spacing (list_in c.args.chart.now.words) (Some c.in-Some.rows) c.moved-tree.result) (sym c.width-width.ensures) (λ i. c.moved-tree.ensures i ok)),
    )

pub returns : goal.returns
returns c ok first low room =
    let at = (goal.at.returns c).At-loop-tree in
    written_over _ _ _ (long at ok) (omega arith) c.loop-tree.invariant.0 (written at ok first low) c.in_default.is

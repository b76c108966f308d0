use mathlib.Core.Path.{◌∙◌, ap}
use Prim.Native.Nat.{ℕ}
use native.Mathlib.Omega.{arith}
use lib.Dec.{eqb}
use lib.ListN.{get_or, set}
use borrow.Author.Tests.{eq-eqb, ne_eqb}
use Rattle.std.proofs.lemmas.List.{get_or_default}
use Rattle.std.proofs.lemmas.List.Edits.{map_over_more}
use Rattle.lists.specs.Lists.{pick}
use Rattle.labels.proofs.relabel.Goals as goal
use Rattle.labels.proofs.relabel.Goals.{else-label-a, then-label-a}

pub loop-label-preserved : goal.loop-label-preserved
loop-label-preserved c =
    let l = c.loop-label in
    let x = get_or l.labels l.label-index 0 in
    let f : ℕ → ℕ = λ x. pick (eqb x c.args.a) c.args.b x in
    let turn = map_over_more f c.args.labels.now l.labels l.label-index x (omega arith) l.invariant (get_or_default l.labels l.label-index 0 x (omega arith)) in
    ap (set l.labels l.label-index) (elim c.if-label-a.branch [
      | then-label-a w ↦ w.label-is ∙ (rw (eq-eqb x c.args.a w.if-label-a.true))
      | else-label-a w ↦ w.label-is ∙ (rw (ne_eqb x c.args.a w.if-label-a.false))
    ]) ∙ turn

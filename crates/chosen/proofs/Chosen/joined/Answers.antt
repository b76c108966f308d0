use mathlib.Core.Path.{◌∙◌, ap, sym}
use mathlib.Core.List.{append-nil}
use native.Mathlib.Omega.{arith}
use lib.ListN.{length-take, take}
use lib.Seq.{take_all}
use Rattle.chosen.specs.Chosen.{rows_of}
use Rattle.chosen.proofs.Laws.{joined_next}
use Rattle.chosen.proofs.Chosen.joined.Goals as goal

pub loop-row-init : goal.loop-row-init
loop-row-init c =
    let self = c.args.self in
    sym (ap (take 31) (append-nil (rows_of self)) ∙ take_all 31 (rows_of self) (simp length-take (omega arith)))

pub loop-row-preserved : goal.loop-row-preserved
loop-row-preserved c =
    let l = c.loop-row in
    c.extended-all.ensures ∙ (rw l.invariant) ∙ joined_next (rows_of c.args.self) _ l.row-index c.loop-row-test.true

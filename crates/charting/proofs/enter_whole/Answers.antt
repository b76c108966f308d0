use mathlib.Core.Path.{◌∙◌, ◌≡◌, sym}
use borrow.Author.Tests.{eq-eqb, ne_eqb}
use Prim.Native.Nat.{◌+◌, ◌-◌}
use native.Mathlib.Omega.{arith}
use lib.Dec.{eqb}
use Rattle.lists.specs.Lists.{pick}
use Rattle.network_file.specs.File.{byte_at, version}
use Rattle.chart.specs.Chart.{entered_down}
use Rattle.chart.proofs.Files.{has_less, has_stated, has_turn}
use Rattle.charting.proofs.enter_whole.Goals as goal
use Rattle.charting.proofs.enter_whole.Goals.{Joined-two, then-two, else-two}

pub bounds-file-at : goal.bounds-file-at
bounds-file-at c =
    has_stated c.loop-r.invariant.1 c.loop-r-test.true c.row_bytes-step.ensures (eq-eqb _ _ c.if-two.true)

-- the state byte of the row; 0 where there is none
read : (c : Joined-two)
    → let file = c.args.file.now in
    c.if-two.number ≡ pick (eqb (version file) 2) (byte_at file (c.loop-r.at - c.row_bytes-step.result + 4)) 0
read c = elim c.if-two.branch [
  | then-two w ↦ w.number-is ∙ rw (eq-eqb _ _ w.if-two.true)
  | else-two w ↦ w.number-is ∙ rw (ne_eqb _ _ w.if-two.false)
]

pub loop-r-preserved : goal.loop-r-preserved
loop-r-preserved c =
    let (entered, has) = c.loop-r.invariant in
    let bytes = c.row_bytes-step.ensures in (
      entered ∙ has_turn has c.loop-r-test.true bytes _ _ (read (goal.at.loop-r-preserved c).Joined-two) ∙ rw (c.enter_by.ensures, c.state_by-state.ensures),
      has_less has c.loop-r-test.true bytes,
    )

pub returns : goal.returns
unfolding entered_down
returns c = let none : c.loop-r.r ≡ 0 = omega (arith, c.loop-r-test.false) in sym (c.loop-r.invariant.0 ∙ rw none)

use mathlib.Core.Path.{◌≡◌, subst, sym}
use mathlib.Core.List.{List}
use Prim.Native.Nat.{◌<◌, ℕ}
use native.Mathlib.Omega.{arith}
use lib.ListN.{get_or, length}
use Rattle.lists.proofs.Ascending.{get_or_mem}
use Rattle.lists.proofs.Members.{◌∈◌}
use Rattle.chosen.specs.Chosen.{rows_of}
use Rattle.find.proofs.highest.Goals as goal
use Rattle.find.proofs.highest.Goals.{else-lt, then-lt}

pub loop-row-init : goal.loop-row-init
loop-row-init g c = λ h. rw c.row_at-best.ensures (get_or_mem (rows_of c.args.rows) 0 0 h)

pub loop-row-preserved : goal.loop-row-preserved
loop-row-preserved g c = elim c.if-lt.branch [
  | then-lt w ↦ λ h. rw (w.best-is, c.rows-row-items.ensures.0) (get_or_mem (rows_of c.args.rows) c.loop-row.row-index 0 (rw c.rows-row-items.ensures.0 at c.loop-row-test.true))
  | else-lt w ↦ rw w.best-is c.loop-row.invariant
]

use Prim.Native.Nat.{◌*◌, ◌+◌, ◌-◌, ◌≤◌}
use native.Mathlib.Nat.{add-sub_cancel_left}
use native.Mathlib.Omega.{arith}
use lib.ListN.{length}
use borrow.Author.Tests.{le-leb, lt-leb}
use Rattle.operations.specs.Operations.{pick_call}
use Rattle.pick.proofs.Laws.{short, whole}
use Rattle.pick.proofs.pick.Goals as goal
use Rattle.pick.proofs.pick.Goals.{Then-t-trees}

pub returns-then-n-lt2 : goal.returns-then-n-lt2
unfolding pick_call
returns-then-n-lt2 c = simp (lt-leb _ _ c.if-n-lt2.true)

pub returns-then-n-gt32 : goal.returns-then-n-gt32
unfolding pick_call
returns-then-n-gt32 c = simp (le-leb _ _ c.if-n-lt2.false, lt-leb _ _ c.if-n-gt32.true)

-- the tree asked for ends within the page
ends : (c : Then-t-trees) → let a = c.args in a.t * (a.n - 1) + (a.n - 1) ≤ length a.page.now
ends c = whole _ _ _ (omega arith) c.if-t-trees.true

pub overflow_mul-from : goal.overflow_mul-from
overflow_mul-from c = omega (arith, ends c)

pub overflow_add-to : goal.overflow_add-to
overflow_add-to c = omega (arith, ends c)

pub offset_bounds-page-from : goal.offset_bounds-page-from
offset_bounds-page-from c = omega (arith, ends c)

pub slice_bounds-result-end-then-t-trees : goal.slice_bounds-result-end-then-t-trees
slice_bounds-result-end-then-t-trees c = omega (arith, ends c)

pub returns-then-t-trees : goal.returns-then-t-trees
unfolding pick_call
returns-then-t-trees c = simp (le-leb _ _ c.if-n-lt2.false, le-leb _ _ c.if-n-gt32.false, le-leb _ _ (ends (goal.at.returns-then-t-trees c).Then-t-trees), add-sub_cancel_left)

pub returns : goal.returns
unfolding pick_call
returns c =
    simp (le-leb _ _ c.if-n-lt2.false, le-leb _ _ c.if-n-gt32.false, lt-leb _ _ (short _ _ _ (omega arith) c.if-t-trees.false))

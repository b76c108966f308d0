-- Behind a start that is given comes what the walk answers for its path; behind none, the first path of all.
use Prim.Native.Nat.{◌<◌}
use native.Mathlib.Omega.{arith}
use lib.ListN.{length}
use Rattle.grow.proofs.Leads.{tree_leads}
use Rattle.fill.proofs.Steps.{begins_after, begins_first}
use Rattle.fill.proofs.following.Goals as goal

pub returns-then-start-gt0 : goal.returns-then-start-gt0
returns-then-start-gt0 c ok starts plant keys =
    let s = c.args in
    let given : 0 < length s.start.now = omega (arith, c.if-start-gt0.true) in
    begins_after ok s.start.now given starts plant keys c.after.result c.after.ensures.0 c.width.result (omega (arith, c.width.ensures)) c.after.ensures.1

pub returns : goal.returns
returns c ok starts plant keys =
    let start = c.args.start.now in
    begins_first ok.right (tree_leads ok.right ok.tree ok.listed) c.first.result c.first.ensures.0 c.first.ensures.1 start c.if-start-gt0.false

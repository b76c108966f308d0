use mathlib.Core.Path.{refl}
use Prim.Native.Nat.{◌+◌, ◌<◌}
use native.Mathlib.Omega.{arith}
use lib.ListN.{length-map}
use borrow.Author.Rules.{rules}
use Rattle.graph.specs.Paths.{Key}
use Rattle.paths.specs.Path.{entered_by, keys_of, plant_of}
use Rattle.paths.proofs.Laws.{keys_length}
use Rattle.branch.proofs.Laws.{entered_next, entered_start}
use Rattle.branch.proofs.entries_of.Goals as goal

pub loop-i-init : goal.loop-i-init
loop-i-init c =
    let path = c.args.path in
    let size = keys_length path (omega arith) (omega arith) (omega arith) in
    let steps = length-map (keys_of path) (λ (k : Key). k.node) in
    (omega arith, entered_start (entered_by (plant_of path) (keys_of path)) 256 (c.length-i.result + 1) refl (omega arith))

pub loop-i-preserved : goal.loop-i-preserved
loop-i-preserved c =
    let l = c.loop-i in
    let small : c.entered_at-node.result < 256 = search rules in
    (omega arith, entered_next _ l.entries l.i c.entered_at-node.result c.loop-i-test.true c.entered_at-node.ensures small l.invariant.1)

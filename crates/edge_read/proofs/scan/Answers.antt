use Rattle.std.proofs.Common.{arith}
use Rattle.edge_read.proofs.Held.{held_few}
use Rattle.edge_read.proofs.Turns.{scan_end, scan_room, scan_turn}
use Rattle.edge_read.proofs.scan.Goals as goal

pub with-tally-requires : goal.with-tally-requires
with-tally-requires c = omega (arith, scan_room c.loop-line.invariant c.in-Some.ensures.steps, held_few c.args.text.now)

pub loop-line-preserved : goal.loop-line-preserved
loop-line-preserved c = scan_turn c.loop-line.invariant c.in-Some.ensures.steps c.with-tally.ensures.scanned c.with-tally.ensures.few

pub returns : goal.returns
returns c = scan_end c.loop-line.invariant c.in-None.ensures.steps.0

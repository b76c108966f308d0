use Rattle.std.proofs.Common.{ap}
use Rattle.edge_file.specs.Dimacs.{ends_in}
use Rattle.edge_write.proofs.Putting.{rowed_start, rowed_turn}
use Rattle.edge_write.proofs.put_edges.Goals as goal

pub loop-r-init : goal.loop-r-init
loop-r-init c = rowed_start

pub loop-r-preserved : goal.loop-r-preserved
loop-r-preserved c =
    let row = c.row_at-row.result in
    rowed_turn c.loop-r.invariant c.loop-r-test.true c.requires (record { one = row.first; two = row.second }) (ap ends_in c.row_at-row.ensures)
    c.put_line-at.auto.buffer c.put_line-at.ensures

use Rattle.std.proofs.Common.{ap}
use Rattle.edge_file.specs.Dimacs.{ends_in}
use Rattle.edge_write.proofs.Lengths.{counted_start, counted_turn}
use Rattle.edge_write.proofs.edges_length.Goals as goal

pub loop-r-init : goal.loop-r-init
loop-r-init c = counted_start

pub loop-r-preserved : goal.loop-r-preserved
loop-r-preserved c =
    let row = c.row_at-row.result in
    counted_turn c.loop-r.invariant c.loop-r-test.true c.requires.1 (record { one = row.first; two = row.second }) (ap ends_in c.row_at-row.ensures)
    c.edge_length-total.ensures.count c.edge_length-total.ensures.few

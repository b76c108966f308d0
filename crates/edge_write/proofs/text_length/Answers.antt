-- The `p` line has nine bytes besides its digits, and then the edge lines follow (`text_long`). An accepted file's sizes have at most three digits (`sizes_few`).
use Rattle.std.proofs.Common.{arith}
use Rattle.fields.specs.Fields.{sizes_in}
use Rattle.edge_write.proofs.Lengths.{text_long}
use Rattle.edge_write.proofs.Lines.{sizes_few}
use Rattle.edge_write.proofs.text_length.Goals as goal

pub digits-requires-2 : goal.digits-requires-2
digits-requires-2 c = omega (arith, (sizes_few _ _ c.requires.1 c.requires.0).1)

pub edges_length-requires : goal.edges_length-requires
edges_length-requires c = let few = sizes_few _ _ c.requires.1 c.requires.0 in (few.1, few.2)

pub returns : goal.returns
returns c =
    omega (arith, c.digits.ensures.count, c.digits-2.ensures.count, c.edges_length.ensures.count, text_long c.args.file.now (sizes_in c.args.header) c.requires.1)

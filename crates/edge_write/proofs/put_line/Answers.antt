-- The word, the two numbers and the line feed stand one behind the other (`line_put`).
use Rattle.edge_write.proofs.Putting.{line_put}
use Rattle.edge_write.proofs.put_line.Goals as goal

pub returns : goal.returns
returns c = line_put _ _ _ _ _ c.text-place.ensures c.number-place.ensures c.number-place-2.ensures c.ended.ensures

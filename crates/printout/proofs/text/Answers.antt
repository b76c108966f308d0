-- Where all bytes fit they are put at once (`whole_put`).
use Rattle.std.proofs.Common.{arith}
use Rattle.printout.proofs.Laws.{whole_put}
use Rattle.printout.proofs.text.Goals as goal

pub returns-then-at-out : goal.returns-then-at-out
returns-then-at-out c = whole_put _ _ _ (omega arith) c.put_all.ensures

use Rattle.spread.specs.Spread.{open_at}
use Rattle.spread.proofs.open_at.Goals as goal

pub returns : goal.returns
unfolding open_at
returns c = rw c.near.ensures

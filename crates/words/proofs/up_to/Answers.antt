use Rattle.words.proofs.Words.{up_between}
use Rattle.words.proofs.up_to.Goals as goal

pub returns : goal.returns
returns c = cc (up_between c.args.n)

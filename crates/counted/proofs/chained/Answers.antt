-- `counted::chained` meets its contract: what is added is the two links, one after the other.
use mathlib.Core.Path.{subst}
use Rattle.counts.specs.Counting.{Weight}
use Rattle.counts.specs.Matrix.{Agree, add_held, limit}
use Rattle.weights.specs.Weights.{matrix_in}
use borrow.Author.Rules.{rules}
use Rattle.counted.proofs.chained.Goals as goal

pub returns : goal.returns
returns c =
    let ws = c.args.links.now.weights in
    let as_added : Weight → Type 0 = λ p. Agree (matrix_in c.add.new.self.weights) (add_held limit (matrix_in ws) c.args.x c.args.y p) 32 in
    subst as_added c.behind.ensures (c.add.ensures.added (search rules) (search rules) (search rules))

-- Each place holds the cost in its criterion.
use Rattle.tally.specs.Tally.{vector_in}
use Rattle.tally.proofs.Criteria.vector.Goals as goal

pub returns : goal.returns
unfolding vector_in
returns c = rw (c.component.ensures, c.component-2.ensures, c.component-3.ensures, c.component-4.ensures)

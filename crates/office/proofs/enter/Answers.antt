-- The office's half is lent: both tables up to their middle, or from there on.
use Rattle.office.proofs.Halves.{first_noted, second_noted}
use Rattle.office.proofs.enter.Goals as goal

pub returns-then-office-eq1 : goal.returns-then-office-eq1
returns-then-office-eq1 c = first_noted _ _ _ _ _ _ _ c.if-office-eq1.true c.enter-entered.ensures c.noted.ensures

pub returns : goal.returns
returns c = second_noted _ _ _ _ _ _ _ c.if-office-eq1.false c.enter-entered-2.ensures c.noted-2.ensures

-- The quotient is h, and nothing is left: so no product can pass 64 bits.
use Rattle.office.proofs.Laws.{rows_exact, rows_other}
use Rattle.office.proofs.has_rows.Goals as goal

pub returns-then-places-both : goal.returns-then-places-both
returns-then-places-both c = rows_exact _ _ _ c.if-places-both.true

pub returns-else-places-both : goal.returns-else-places-both
returns-else-places-both c = rows_other _ _ _ c.requires.0 c.if-places-both.false

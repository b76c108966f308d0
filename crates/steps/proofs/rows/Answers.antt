-- The path's three arrays have the struct's lengths, so that it has as many rows as steps.
use borrow.Author.Rules.{rules}
use Rattle.paths.proofs.Laws.{path_rows}
use Rattle.steps.proofs.rows.Goals as goal

pub returns-clause-rows : goal.returns-clause-rows
returns-clause-rows c = search (rules, path_rows)

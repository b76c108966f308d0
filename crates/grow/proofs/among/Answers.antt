use mathlib.Core.Path.{◌∙◌, sym}
use borrow.Author.Rules.{rules}
use borrow.Author.Tests.{tests}
use lib.Dec.{eqb}
use Rattle.std.proofs.lemmas.Iterator.{YieldsList-from_slice}
use Rattle.std.proofs.lemmas.Iterator.Search.{any_from_yields_List}
use Rattle.lists.proofs.Library.{any_is}
use Rattle.lists.specs.Lists.{member}
use Rattle.grow.proofs.among.Goals as goal

pub returns : goal.returns
unfolding member
returns c =
    any_from_yields_List (λ r. eqb c.args.row r) _ _ c.any.result c.any.ensures.ran (YieldsList-from_slice c.args.rows.now cc) (λ x b q k. search (rules, tests))
    ∙ sym (any_is (λ r. eqb c.args.row r) c.args.rows.now)

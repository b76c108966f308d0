use mathlib.Core.Path.{◌∙◌, refl}
use native.Mathlib.Omega.{arith}
use borrow.Author.Rules.{rules}
use borrow.Author.Tests.{tests}
use Rattle.std.proofs.lemmas.Iterator.{YieldsList-from_range}
use Rattle.std.proofs.lemmas.Iterator.Search.{all_from_yields_List}
use Rattle.grow.proofs.Leads.{dug_at, musts_start}
use Rattle.grow.proofs.musts_dug.Goals as goal

pub returns : goal.returns
returns c =
    all_from_yields_List (dug_at c.args.chart.now.words c.args.rows.now) _ _ c.all.result c.all.ensures.ran (YieldsList-from_range 0 c.row_count.result c.row_count.result refl (omega arith))
    (λ x b q k. search (rules, tests))
    ∙ musts_start _ _ _ c.row_count.ensures.0

use mathlib.Core.Path.{◌∙◌, ◌≡◌, sym}
use Rattle.lists.proofs.Ranges.{all_range_end, all_range_next, all_range_stop}
use Rattle.tried.proofs.Laws.{kept_at, kept_start}
use Rattle.tried.proofs.kept.Goals as goal
use Rattle.tried.proofs.kept.Goals.{After-row_kept}

pub loop-r-init : goal.loop-r-init
loop-r-init c = kept_start _ _ _ c.row_count-r-end.ensures.0

-- what the code asks of row r
asked : (c : After-row_kept) → kept_at c.args.chart.now.words c.args.drawn c.loop-r.r ≡ c.row_kept.result
unfolding kept_at
asked c = sym c.row_kept.ensures

pub returns-then-not-row_kept : goal.returns-then-not-row_kept
returns-then-not-row_kept c =
    sym (c.loop-r.invariant ∙ all_range_stop _ _ _ c.loop-r-test.true (asked (goal.at.returns-then-not-row_kept c).After-row_kept ∙ c.if-not-row_kept.true))

pub loop-r-preserved : goal.loop-r-preserved
loop-r-preserved c =
    c.loop-r.invariant ∙ all_range_next _ _ _ c.loop-r-test.true (asked (goal.at.loop-r-preserved c).After-row_kept ∙ c.if-not-row_kept.false)

pub returns : goal.returns
returns c = sym (c.loop-r.invariant ∙ all_range_end _ _ _ c.loop-r-test.false)

use Rattle.std.proofs.Common.{◌∙◌, arith, refl, ◌-◌, ◌<◌, length, take}
use Rattle.pages.specs.Pages.{rest_after}
use Rattle.operations.specs.Operations.{layouts_in}
use Rattle.treelist.proofs.Laws.{Called, copied_on, last_page, not_refused, page_left}
use Rattle.treelist.proofs.Run.{More, Run, run_start}
use Rattle.treelist.proofs.print_list.Goals as goal
use Rattle.treelist.proofs.print_list.Goals.{After-by_value-start, After-page, Else-not-more}

-- the call of Page
called : (c : After-page) → let l = c.loop-page in Called c.args.file.now c.args.h (take l.len l.start) l.page l.total
called c = record {
  given = c.requires.0;
  run = c.loop-page.invariant.run;
  room = omega (arith, c.requires.1, c.loop-page.invariant.kept);
}

-- an answer that says 'more'
left : (c : Else-not-more) →
    let l = c.loop-page in
    Called c.args.file.now c.args.h (take l.len l.start) l.page l.total →
    More c.args.file.now (take l.len l.start) c.page.new.page (c.args.h.n - 1) l.total c.in-Ok.field-0.count
left c call = page_left call c.in-Ok.ensures c.if-not-more.false

-- where the next turn takes the run up
moved : (c : After-by_value-start) →
    let l = c.loop-page in
    let f = c.args.file.now in
    let start = take l.len l.start in
    let next = take (c.args.h.n - 1) c.by_value-start.result in
    More f start c.page.new.page (c.args.h.n - 1) l.total c.in-Ok.field-0.count →
    Run f next c.saturating_add-total.result × (length (rest_after (layouts_in f) next) < length (rest_after (layouts_in f) start))
moved c more =
    let given = c.requires.0 in
    copied_on c.by_value-start.result _ given.low given.high more c.pick.ensures c.by_value-start.ensures.copy c.saturating_add-total.ensures

pub returns-in_default : goal.returns-in_default
returns-in_default c = absurd (not_refused (called (goal.at.returns-in_default c).After-page) c.in_default.ensures)

pub returns-then-not-more : goal.returns-then-not-more
returns-then-not-more c =
    c.saturating_add-total.ensures ∙ last_page (called (goal.at.returns-then-not-more c).After-page) c.in-Ok.ensures c.if-not-more.true

pub overflow_sub-count : goal.overflow_sub-count
overflow_sub-count c = (left c (called (goal.at.overflow_sub-count c).After-page)).some_written

pub loop-page-smaller : goal.loop-page-smaller
loop-page-smaller c =
    let at = goal.at.loop-page-smaller c in
    (moved c (left at.Else-not-more (called at.After-page))).1

pub loop-page-preserved : goal.loop-page-preserved
loop-page-preserved c =
    let at = goal.at.loop-page-preserved c in
    record {
      few = omega (arith, c.requires.0.high);
      long = c.by_value-start.ensures.long;
      kept = omega (arith, c.page.auto.page, c.loop-page.invariant.kept);
      run = (moved c (left at.Else-not-more (called at.After-page))).0;
    }

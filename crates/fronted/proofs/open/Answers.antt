-- Open's checks and 12 by `listed`, then 11 of the lent tables.
use mathlib.Core.Path.{◌≡◌, refl, sym}
use mathlib.Core.Bool.{◌&&◌}
use Prim.Native.Nat.{◌-◌}
use native.Mathlib.Omega.{arith}
use lib.Dec.{leb}
use lib.ListN.{length, replicate}
use borrow.Author.Tests.{le-leb, lt-leb}
use Rattle.std.proofs.Common.{Ok, rules}
use Rattle.chart.proofs.Made.{blank}
use Rattle.chart.specs.Chart.{file_chart_on}
use Rattle.fields.specs.Fields.{sizes_in}
use Rattle.fronted.proofs.Calls.{capacity_read, criteria_some, front_met, front_short, front_stops, lent_holds, nodes_several}
use Rattle.listed.proofs.Answers.{Listing, listing, refused_by_lem}
use Rattle.fronted.proofs.open.Goals as goal
use Rattle.fronted.proofs.open.Goals.{After-check, In_ok-header, else-k-costs, then-k-costs}

pub returns-in_err-header : goal.returns-in_err-header
returns-in_err-header c =
    let stopped = front_stops c.args.file.now c.args.costs.now c.args.witnesses.now _ (refused_by_lem _ _ (sym (c.in_err-header.ensures.0 (rw c.empty-chart.ensures blank)))) in
    search (rules, stopped)

-- what `listed` tells of the file and of the chart
lists : (c : In_ok-header) → Listing c.args.file.now (sizes_in c.in_ok-header.header) c.listed.new.chart.words
lists c = listing _ (Ok c.in_ok-header.header) _ (rw c.empty-chart.ensures blank) c.in_ok-header.ensures refl

-- the chart is made of an empty one
made : (c : In_ok-header) → c.listed.new.chart.words ≡ file_chart_on c.args.file.now (replicate 1416 0)
made c = rw c.empty-chart.ensures at (c.in_ok-header.ensures.1 (lists c).lists.met)

pub overflow_sub-width : goal.overflow_sub-width
overflow_sub-width c = omega (arith, nodes_several (lists (goal.at.overflow_sub-width c).In_ok-header).lists)

pub nonzero_div-costs : goal.nonzero_div-costs
nonzero_div-costs c = omega (arith, criteria_some (lists (goal.at.nonzero_div-costs c).In_ok-header).lists)

pub nonzero_div-witnesses : goal.nonzero_div-witnesses
nonzero_div-witnesses c = omega (arith, nodes_several (lists (goal.at.nonzero_div-witnesses c).In_ok-header).lists)

-- whether both tables hold a row
asked : (c : After-check)
    → let h = c.in_ok-header.header in
    c.if-k-costs.check ≡ (leb h.k (length c.args.costs.now) && leb (h.n - 1) (length c.args.witnesses.now))
asked c =
    elim c.if-k-costs.branch [
      | then-k-costs w ↦ rw (w.check-is, le-leb _ _ w.if-k-costs.true)
      | else-k-costs w ↦ rw (w.check-is, lt-leb _ _ w.if-k-costs.false)
    ]

pub returns-in_err-check : goal.returns-in_err-check
returns-in_err-check c =
    let at = goal.at.returns-in_err-check c in
    let short = front_short _ _ _ (lists at.In_ok-header).lists _ (asked at.After-check) c.in_err-check.ensures.0 in
    search (rules, short, c.in_err-check.ensures.1)

pub returns : goal.returns
returns c =
    let at = goal.at.returns c in
    let listing' = lists at.In_ok-header in
    let read = c.min-capacity.ensures in
    record {
      met = front_met _ _ _ listing'.lists _ (asked at.After-check) c.in_ok-check.ensures;
      made = made at.In_ok-header;
      listing = listing';
      capacity_is = capacity_read _ _ _ listing'.lists _ read;
      holding = rw listing'.width (lent_holds _ _ _ listing'.lists _ read);
    }

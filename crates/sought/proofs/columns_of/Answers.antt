-- Each array holds the ends of the rows, which past them are 0.
use mathlib.Core.Bool.{false, true}
use lib.ListN.{get_or}
use Rattle.std.proofs.Common.{rules}
use Rattle.find.proofs.Arrays.{made_of}
use Rattle.chart.specs.Chart.{firsts_in, seconds_in}
use Rattle.sought.specs.Sought.{padded}
use Rattle.sought.proofs.columns_of.Goals as goal

pub returns : goal.returns
unfolding padded
returns c =
    let chart = c.args.chart.now.words in
    record {
      first_ends_lem = made_of 0 _ (λ r. get_or (firsts_in false chart) r 0) _ 256 c.from_fn.ensures.items (λ r y q low k. search rules);
      second_ends_lem = made_of 0 _ (λ r. get_or (seconds_in false chart) r 0) _ 256 c.from_fn-2.ensures.items (λ r y q low k. search rules);
      must_firsts_lem = made_of 0 _ (λ r. get_or (firsts_in true chart) r 0) _ 256 c.from_fn-3.ensures.items (λ r y q low k. search rules);
    }

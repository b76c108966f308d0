use mathlib.Core.Path.{refl}
use Rattle.chart.specs.Chart.{begun_by}
use Rattle.charting.proofs.begin.Goals as goal

pub returns : goal.returns
unfolding begun_by
returns c = refl

use mathlib.Core.Path.{◌∙◌, ◌≡◌, ap, sym}
use Prim.Native.Nat.{◌*◌, ◌≤◌}
use native.Mathlib.Omega.{arith}
use Rattle.network_file.specs.File.{Sizes, network_of}
use Rattle.fields.proofs.Laws.{row_reach}
use Rattle.chart.specs.Chart.{entered_down, file_chart_on}
use Rattle.chart.proofs.Files.{file_start}
use Rattle.charting.proofs.of_file.Goals as goal
use Rattle.charting.proofs.of_file.Goals.{After-placed-count, After-row_bytes}

-- the rows that have a place do not reach beyond a word's range
reach : (c : After-row_bytes) → c.placed-count.result * c.row_bytes.result ≤ 65536 * 1025
reach c =
    let k = ap (λ (s : Sizes). s.k) c.header_of-header.ensures in
    rw c.row_bytes.ensures (row_reach _ c.placed-count.result (omega (arith, c.placed-count.ensures.1)) (omega (arith, k)))

pub overflow_mul-end : goal.overflow_mul-end
overflow_mul-end c = omega (arith, reach c)

pub overflow_add-end-2 : goal.overflow_add-end-2
overflow_add-end-2 c = omega (arith, reach c)

-- the chart is begun, and the rows that have a place are left
begun : (c : After-placed-count)
    → file_chart_on c.args.file.now c.args.chart.now.words ≡ entered_down (network_of c.args.file.now).rows c.placed-count.result c.begin.new.chart.words
begun c =
    let header = c.header_of-header.ensures in
    file_start _ _ _ _ _ _ _ _ (ap (λ (s : Sizes). s.n) header) (ap (λ (s : Sizes). s.m) header)
    c.up_to.ensures c.saturating_sub.ensures c.begin.ensures c.placed-count.ensures.0

pub returns-then-end-file : goal.returns-then-end-file
returns-then-end-file c = c.enter_whole.ensures ∙ sym (begun (goal.at.returns-then-end-file c).After-placed-count)

pub returns-else-end-file : goal.returns-else-end-file
returns-else-end-file c = c.enter_cut.ensures ∙ sym (begun (goal.at.returns-else-end-file c).After-placed-count)

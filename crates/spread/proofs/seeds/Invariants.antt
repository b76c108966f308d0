use mathlib.Core.Path.{◌≡◌}
use Prim.Native.Nat.{◌+◌, ◌-◌}
use lib.Bits.{bit_or}
use lib.ListN.{length}
use Rattle.chart.specs.Chart.{near_in}
use Rattle.spread.specs.Spread.{open_from, seeds_of}
use Rattle.spread.proofs.seeds.Given as goal

abbrev pub invariant-loop-u : goal.invariant-loop-u
invariant-loop-u l = let i = l.place + 1 + l.u-index in
    seeds_of (near_in l.must l.chart.words) l.fresh l.entered l.place l.node ≡ bit_or l.word (open_from (near_in l.must l.chart.words) l.fresh l.entered (length l.entered - i) i)

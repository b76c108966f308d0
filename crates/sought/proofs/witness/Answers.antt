use mathlib.Core.Path.{◌≡◌}
use mathlib.Core.Option.{some}
use Prim.Native.Nat.{◌+◌, suc}
use native.Mathlib.Omega.{arith}
use lib.ListN.{take}
use Rattle.chart.specs.Chart.{graph_in, musts_in}
use Rattle.find.specs.Space.{cut_to, network_of}
use Rattle.branch.specs.Branch.{Tells}
use Rattle.paths.specs.Path.{keys_of, plant_of, rows_in}
use Rattle.walk.proofs.Behind.{after_in}
use Rattle.sought.proofs.Seeking.{found, seek_after, seek_deeper, seek_end, seek_less, seek_start, seek_told}
use Rattle.sought.proofs.witness.Goals as goal
use Rattle.sought.proofs.witness.Goals.{After-opens, After-unwrap_or-path}

-- the answer of the search
told : (c : After-opens)
    → let a = c.args in
    Tells (graph_in a.chart.now.words) (network_of a.space) (musts_in a.chart.now.words) (cut_to a.space a.limits) (take (c.loop-len.len + 1) (rows_in c.loop-len.path)) c.opens.result
told c =
    let (ready, past, wanted) = c.requires in
    seek_told ready.0 _ _ _ _ (c.loop-len.invariant ready) ready.1 past c.opens.ensures

pub loop-len-init : goal.loop-len-init
loop-len-init c = λ ready. seek_start ready.0 _ _ _ _ c.first_path-path.ensures.0 c.first_path-path.ensures.1 c.requires.2

pub loop-len-smaller-then-opens : goal.loop-len-smaller-then-opens
loop-len-smaller-then-opens c = omega (arith, c.loop-len-test.true)

pub loop-len-preserved-then-opens : goal.loop-len-preserved-then-opens
loop-len-preserved-then-opens c = λ ready.
    seek_deeper ready.0 _ _ _ _ (c.loop-len.invariant ready) (rw c.width-width.ensures at c.loop-len-test.true) (told (goal.at.loop-len-preserved-then-opens c).After-opens) c.if-opens.true

-- behind a branch that has none the walk goes on
goes : (c : After-unwrap_or-path)
    → (plant_of c.unwrap_or-path.result ≡ plant_of c.loop-len.path)
    × (after_in c.requires.0.0.right (keys_of c.loop-len.path) (suc c.loop-len.len) ≡ some (keys_of c.unwrap_or-path.result))
goes c =
    let (ready, past, wanted) = c.requires in
    rw c.unwrap_or-path.ensures
    (found ready.0 _ _ _ _ (c.loop-len.invariant ready) (rw c.width-width.ensures at c.loop-len-test.true) (told (goal.at.loop-len-smaller c).After-opens) c.if-opens.false
    c.after.result c.after.ensures.0 c.after.ensures.1)

pub loop-len-smaller : goal.loop-len-smaller
loop-len-smaller c =
    let ready = c.requires.0 in
    let less = rw c.width-width.ensures at c.loop-len-test.true in
    omega (arith, seek_less ready.0 _ _ _ _ (c.loop-len.invariant ready) less (told (goal.at.loop-len-smaller c).After-opens) c.if-opens.false _ (goes c))

pub loop-len-preserved : goal.loop-len-preserved
loop-len-preserved c = λ ready.
    let less = rw c.width-width.ensures at c.loop-len-test.true in
    seek_after ready.0 _ _ _ _ (c.loop-len.invariant ready) less (told (goal.at.loop-len-preserved c).After-opens) c.if-opens.false _ (goes c)

pub returns : goal.returns
returns c =
    let ready = c.requires.0 in
    seek_end ready.0 _ _ _ _ (c.loop-len.invariant ready) (rw c.width-width.ensures at c.loop-len-test.false)

use mathlib.Core.Path.{◌∙◌, ◌≡◌, sym}
use Prim.Native.Nat.{◌+◌, ◌-◌, ◌<◌}
use native.Mathlib.Omega.{arith}
use lib.ListN.{drop, get_or, length, length-drop, length-take, take}
use lib.Seq.{get_or-drop, get_or-take}
use Rattle.spread.proofs.Sweeps.{seeds_end, seeds_more, seeds_none, seeds_start}
use Rattle.spread.proofs.seeds.Goals as goal

pub returns-then-entered-place : goal.returns-then-entered-place
returns-then-entered-place c = seeds_none _ _ _ _ _ c.if-entered-place.true

pub loop-u-init : goal.loop-u-init
loop-u-init c = rw (c.above-word.ensures, c.open_at.ensures) (seeds_start _ _ _ _ _ _ c.if-entered-place.false (omega arith))

pub loop-u-preserved : goal.loop-u-preserved
loop-u-preserved c =
    let from = c.args.place + 1 in
    let k = c.loop-u.u-index in
    let entered = c.args.entered.now in
    let later = length entered - from in
    let within : k < later = omega (arith, c.loop-u-test.true, length-take later (drop from entered)) in
    let item : get_or (take later (drop from entered)) k 0 ≡ get_or entered (from + k) 0 =
    get_or-take later (drop from entered) k 0 within ∙ get_or-drop from entered k 0 in
    rw (c.open_at-word.ensures, item) (c.loop-u.invariant ∙ seeds_more _ _ _ _ (from + k) _ (omega arith) (omega arith))

pub returns : goal.returns
returns c =
    let from = c.args.place + 1 in
    let entered = c.args.entered.now in
    sym (c.loop-u.invariant ∙ seeds_end _ _ _ _ _ (omega (arith, c.loop-u-test.false, length-take (length entered - from) (drop from entered), length-drop from entered)))

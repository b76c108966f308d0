use mathlib.Core.Path.{◌∙◌, ◌≡◌, ap, sym}
use Prim.Native.Nat.{◌-◌, ℕ}
use native.Mathlib.Omega.{arith}
use lib.Bits.{bit_or}
use lib.ListN.{length, length-take}
use Rattle.std.proofs.lemmas.Option.{IfSome_then}
use Rattle.paths.proofs.Laws.{keys_length}
use Rattle.paths.specs.Path.{keys_of, plant_of}
use Rattle.search.specs.Search.{or_else}
use Rattle.walk.specs.Walk.{after_from, after_of, next_of}
use Rattle.walk.proofs.Laws.{after_back, after_over, after_start, next_none, next_some}
use Rattle.walk.proofs.after.Goals as goal
use Rattle.walk.proofs.after.Goals.{After-skip-next}

pub loop-i-init : goal.loop-i-init
loop-i-init c =
    let ok = c.shortened-prefix.type_inv in
    let prefix = c.shortened-prefix.ensures in
    let long = keys_length c.shortened-prefix.result
    (ok.1.1.1.0.1.0.1) (ok.1.1.0.1.0.1) (ok.1.1.1.1.0.1.0.1) in
    rw (c.fresh_after-fresh.ensures, c.nodes.ensures, prefix.0, prefix.1)
    (after_start _ _ _ _ _ (c.length-i.ensures ∙ sym long ∙ ap length prefix.1 ∙ (simp length-take)))

-- the whole answer, at the step that is asked
asked : (c : After-skip-next) →
    let a = c.args in
    after_of a.chart.now.words (plant_of a.path) (keys_of a.path) a.len
    ≡ or_else (next_of c.skip-next.result) (after_from a.chart.now.words (plant_of a.path) (c.loop-i.i - 1) (bit_or c.loop-i.fresh c.bit-fresh.result) (keys_of a.path))
asked c =
    let part = c.shortened.ensures in
    rw (c.skip-next.ensures.1, part.0, c.bit-fresh.ensures)
    (c.loop-i.invariant ∙ after_back _ _ _ _ _ _ _ _ _ _ (omega (arith, c.loop-i-test.true)) c.pivot_at.ensures c.node_at.ensures c.row_at.ensures
    (c.saturating_sub.ensures ∙ ap (λ (w : ℕ). w - (c.loop-i.i - 1)) c.width-width.ensures) part.1)

pub returns-then-is_some : goal.returns-then-is_some
returns-then-is_some c =
    let at = goal.at.returns-then-is_some c in (
      IfSome_then c.skip-next.result c.skip-next.ensures.0 (λ next e. e ∙ c.shortened.ensures.0),
      next_some _ _ (sym c.is_some.ensures ∙ c.if-is_some.true) ∙ sym (asked at.After-skip-next),
    )

pub loop-i-preserved : goal.loop-i-preserved
loop-i-preserved c = asked (goal.at.loop-i-preserved c).After-skip-next ∙ next_none _ _ (sym c.is_some.ensures ∙ c.if-is_some.false)

pub returns : goal.returns
returns c = (tt, sym (c.loop-i.invariant ∙ after_over _ _ _ _ _ (omega (arith, c.loop-i-test.false))))

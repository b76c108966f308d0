use mathlib.Core.Path.{◌∙◌, ap, sym}
use mathlib.Core.Bool.{not}
use native.Mathlib.Omega.{arith}
use Rattle.index.proofs.Entries.{counted_last, counted_next, counted_over, counted_start, some_is}
use Rattle.index.proofs.fits.Goals as goal

pub loop-init : goal.loop-init
loop-init c ok first low = counted_start _ _ _ low _ first

pub returns-then-is_none : goal.returns-then-is_none
returns-then-is_none c ok first low = counted_over _ _ _ (c.loop.invariant ok first low) _ (omega arith) (c.is_none.ensures ∙ ap not c.if-is_none.true)

pub loop-preserved : goal.loop-preserved
loop-preserved c ok first low =
    counted_next _ _ _ (c.loop.invariant ok first low) low (some_is c.loop.entry (c.is_none.ensures ∙ ap not c.if-is_none.false)).1 _ (λ i e. c.moved-entry.ensures i ok e)

pub returns : goal.returns
returns c ok first low = counted_last _ _ _ (c.loop.invariant ok first low) _ (omega arith) _ (sym c.is_none-2.ensures)

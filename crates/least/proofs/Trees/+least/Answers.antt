use mathlib.Core.Path.{sym}
use Prim.Native.Nat.{ℕ}
use native.Mathlib.Omega.{arith}
use Rattle.chosen.specs.Chosen.{rows_of}
use Rattle.tally.specs.Kinds.{numbers_of}
use Rattle.least.proofs.Known.{falls_three, falls_two}
use Rattle.least.proofs.Regions.{First, first_before, first_now, search_both, search_clean, search_one, search_rest, search_two, searching_start}
use Rattle.least.proofs.Trees.+least.Goals as goal
use Rattle.least.proofs.Trees.+least.Goals.{Joined-lows-one, else-lows-one, then-lows-one}

-- the part below the row in component 1 has been searched, in this turn or before
first : (t : ℕ) (c : Joined-lows-one t)
    → let a = c.args in
    let s = a.self.now.space in
    First s.ends.firsts.now s.ends.seconds.now s.limit (numbers_of s.criteria.kinds) s.criteria.k s.criteria.costs.now s.criteria.leads.now (rows_of a.self.now.musts)
    a.self.now.free a.known.now a.limits a.from a.start c.loop-row.lower c.if-lows-one.lows c.if-lows-one.best c.in-Some.row.now
first t c =
    let l = c.loop-row in
    let one = c.component-one.ensures in
    elim c.if-lows-one.branch [
      | then-lows-one w ↦ first_now _ _ _ _ _ _ _ _ _ _ _ _ _ l.lower l.lows l.best l.invariant _ c.in-Some.ensures (omega arith) _ one
          _ w.with_limit.ensures _ w.lesser-best.ensures _ w.lows-is _ w.best-is
      | else-lows-one w ↦ first_before _ _ _ _ _ _ _ _ _ _ _ _ _ l.lower l.lows l.best l.invariant _ c.in-Some.ensures _ one w.if-lows-one.false _ w.lows-is _ w.best-is
    ]

pub returns-in_default : goal.returns-in_default
returns-in_default t c =
    let l = c.loop-row in
    search_clean _ _ _ _ _ _ _ _ _ _ _ _ _ l.lower l.lows l.best l.invariant c.in_default.ensures c.lesser.result c.lesser.ensures

pub returns-then-k-lt2 : goal.returns-then-k-lt2
returns-then-k-lt2 t c =
    let l = c.loop-row in
    search_one _ _ _ _ _ _ _ _ _ _ _ _ _ l.lower l.lows l.best l.invariant _ c.in-Some.ensures c.if-k-lt2.true

pub returns-then-k-lt3 : goal.returns-then-k-lt3
returns-then-k-lt3 t c =
    search_two _ _ _ _ _ _ _ _ _ _ _ _ _ c.loop-row.lower c.if-lows-one.lows c.if-lows-one.best _ (first t (goal.at.returns-then-k-lt3 t c).Joined-lows-one) c.in-Some.ensures
    c.if-k-lt3.true

pub loop-row-smaller-then-three-lows : goal.loop-row-smaller-then-three-lows
loop-row-smaller-then-three-lows t c = falls_two _ _ c.in-Some.ensures.inside c.loop-row.invariant.size _ c.component.ensures

pub loop-row-preserved-then-three-lows : goal.loop-row-preserved-then-three-lows
loop-row-preserved-then-three-lows t c =
    search_rest _ _ _ _ _ _ _ _ _ _ _ _ _ c.loop-row.lower c.if-lows-one.lows c.if-lows-one.best _ (first t (goal.at.loop-row-preserved-then-three-lows t c).Joined-lows-one)
    c.in-Some.ensures (omega arith)
    (rw (sym c.component-three.ensures) c.if-three-lows.true) _ c.component.ensures

pub least-best-requires : goal.least-best-requires
least-best-requires t c =
    let l = c.loop-row in (
      omega (
        arith,
        l.invariant.third,
        c.decreases,
        falls_three _ _ c.in-Some.ensures.inside l.invariant.size _ c.component-three.ensures _ c.with_limit-part.ensures,
      ),
      tt,
    )

pub loop-row-smaller : goal.loop-row-smaller
loop-row-smaller t c = falls_two _ _ c.in-Some.ensures.inside c.loop-row.invariant.size _ c.component.ensures

pub loop-row-preserved : goal.loop-row-preserved
loop-row-preserved t c =
    search_both _ _ _ _ _ _ _ _ _ _ _ _ _ c.loop-row.lower c.if-lows-one.lows c.if-lows-one.best _ (first t (goal.at.loop-row-preserved t c).Joined-lows-one) c.in-Some.ensures
    (omega arith)
    _ c.component-three.ensures c.if-three-lows.false _ c.with_limit-part.ensures
    c.least-best.result c.least-best.ensures _ c.component.ensures

use mathlib.Core.Path.{ap, refl}
use lib.ListN.{length}
use Rattle.network_file.specs.File.{Sizes}
use Rattle.walked.specs.Passes.{scratch_rows}
use Rattle.walked.proofs.Turns.{turn_last, turn_less, turn_next, turn_start}
use Rattle.walked.proofs.pass.Goals as goal

pub loop-next-init : goal.loop-next-init
loop-next-init c = turn_start c.requires.0 scratch_rows _ _ _ _ c.first_path-path.ensures.0 c.first_path-path.ensures.1

pub offer-scratch-requires : goal.offer-scratch-requires
offer-scratch-requires c =
    (c.requires.0.lists.file, ap (λ (s : Sizes). s.k) c.header_of-header.ensures)

pub loop-next-smaller : goal.loop-next-smaller
loop-next-smaller c =
    let pre = c.requires in
    turn_less pre.0 scratch_rows _ pre.1 pre.2 c.loop-next.invariant c.offer-scratch.ensures _ (ap length c.rows-len.ensures.rows) _ c.in-Some.ensures.1

pub loop-next-preserved : goal.loop-next-preserved
loop-next-preserved c =
    let pre = c.requires in
    turn_next pre.0 scratch_rows _ pre.1 pre.2 c.loop-next.invariant c.offer-scratch.ensures _ (ap length c.rows-len.ensures.rows) _ c.in-Some.ensures.1
    c.in-Some.ensures.0 c.offer-scratch.auto.costs c.offer-scratch.auto.witnesses

pub returns-in_default : goal.returns-in_default
returns-in_default c =
    let pre = c.requires in
    turn_last pre.0 scratch_rows _ pre.1 pre.2 c.loop-next.invariant c.offer-scratch.ensures _ (ap length c.rows-len.ensures.rows) refl c.in_default.ensures.1

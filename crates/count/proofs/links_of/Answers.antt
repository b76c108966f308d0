use native.Mathlib.Omega.{arith}
use Rattle.count.proofs.Laws.{Sound, ends_sound_lem, filling_end, filling_next, filling_start}
use Rattle.count.proofs.links_of.Goals as goal
use Rattle.count.proofs.links_of.Goals.{After-row_at-row}

pub loop-r-init : goal.loop-r-init
loop-r-init c = let p = c.requires in record { accepted = p.0; rows = p.1; filling = filling_start _ p.0 _ c.none-links.ensures.absent }

-- the ends of the row that was read
sound : (c : After-row_at-row) → Sound c.row_at-row.result.first c.row_at-row.result.second
sound c = let i = c.loop-r.invariant in ends_sound_lem _ i.accepted _ c.row_at-row.result (omega (arith, i.rows, c.loop-r-test.true)) c.row_at-row.ensures

pub overflow_sub-first : goal.overflow_sub-first
overflow_sub-first c = (sound (goal.at.overflow_sub-first c).After-row_at-row).first_some

pub overflow_sub-second : goal.overflow_sub-second
overflow_sub-second c = (sound (goal.at.overflow_sub-second c).After-row_at-row).second_some

pub loop-r-preserved : goal.loop-r-preserved
loop-r-preserved c =
    let i = c.loop-r.invariant in
    let s = sound (goal.at.loop-r-preserved c).After-row_at-row in record {
      accepted = i.accepted;
      rows = i.rows;
      filling = filling_next _ i.accepted _ c.row_at-row.result (omega (arith, i.rows, c.loop-r-test.true)) c.row_at-row.ensures _ _ _ c.weight_of.ensures i.filling
          (c.add.ensures.added s.first_low s.second_low s.differ);
    }

pub returns : goal.returns
returns c = let i = c.loop-r.invariant in filling_end _ i.accepted _ _ (omega (arith, i.rows, c.loop-r-test.false)) i.filling

-- Both files are accepted.
use mathlib.Core.Path.{sym}
use Rattle.network_file.proofs.Opened.{open_answered}
use Rattle.frames.proofs.open_both.Goals as goal

pub same_frame-requires : goal.same_frame-requires
same_frame-requires c =
    let (met, sizes) = open_answered _ _ (sym c.in_ok-one.ensures) in
    let (others_met, others) = open_answered _ _ (sym c.in_ok-two.ensures) in
    (met, sym sizes, others_met, sym others)

-- A refusal of opening both files is the call's.
use Rattle.std.proofs.Common.{sym}
use Rattle.std.proofs.lemmas.Result.{err_from_is_err_and}
use Rattle.frames.proofs.Opening.{frame_answered, frame_refused}
use Rattle.survey.proofs.Calls.{survey_frame}
use Rattle.survey.proofs.Pairs.{fitting}
use Rattle.survey.proofs.survey.Goals as goal

pub returns-in_err-first : goal.returns-in_err-first
returns-in_err-first c =
    let p = err_from_is_err_and c.from_residual.result c.from_residual.ensures.1 in
    rw (p.1, p.2) (survey_frame _ _ _ _ (frame_refused _ _ _ (sym c.in_err-first.ensures)))

pub invariant_of-older : goal.invariant_of-older
invariant_of-older c = let framing = frame_answered _ _ _ (sym c.in_ok-first.ensures) in record { fitting = fitting _ _ framing.first_met framing.first_sizes }

pub invariant_of-newer : goal.invariant_of-newer
invariant_of-newer c = let framing = frame_answered _ _ _ (sym c.in_ok-first.ensures) in record { fitting = fitting _ _ framing.second_met framing.second_sizes }

pub accepted_survey-requires : goal.accepted_survey-requires
accepted_survey-requires c = frame_answered _ _ _ (sym c.in_ok-first.ensures)

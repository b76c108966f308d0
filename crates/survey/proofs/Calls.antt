-- The call by its checks: what it comes to where a check of both files or 18 is not met (`survey_frame`), where there are too many rows (`survey_many`), where the buffer is
-- too short (`survey_short`), and where all are met (`survey_written`).
use mathlib.Core.Path.{◌∙◌, ◌≡◌, ap, sym}
use mathlib.Core.Option.{some}
use mathlib.Core.List.{List, [], ◌++◌, ◌∷◌, append_assoc}
use Prim.Native.Nat.{◌<◌, ◌≤◌, ℕ}
use lib.Dec.{leb}
use lib.ListN.{length}
use borrow.Author.Tests.{le-leb, lt-leb}
use Rattle.lists.proofs.Tests.{T_true}
use Rattle.checks.specs.Checks.{Check, answered, first_unmet, refused}
use Rattle.checks.proofs.Checks.{first_unmet_append, first_unmet_met, first_unmet_unmet}
use Rattle.checks.proofs.Ended.{ended_met, ended_unmet, first_unmet_stops}
use Rattle.network_file.specs.File.{file_checks, network_of}
use Rattle.network_file.specs.Frames.{same_frame}
use Rattle.operations.specs.Operations.{check, over}
use Rattle.frames.specs.Frame.{Frame, Framing, frame_checks}
use Rattle.surveys.specs.Surveys.{survey_call, survey_checks, survey_file, survey_network}
use Rattle.surveys.proofs.Surveys.{survey_met}

module _ (older newer buffer : List ℕ) where
  -- how many rows stand, with the newer's
  abbrev total : ℕ
  total = length (survey_network (network_of older) (network_of newer)).rows

  abbrev own : List Check
  own = check 19 (leb total 256) ∷ check 11 (leb (length (survey_file older newer)) (length buffer)) ∷ []

  by_frame : survey_checks older newer buffer ≡ frame_checks older newer ++ own
  unfolding survey_checks frame_checks
  by_frame = sym (append_assoc (file_checks older ++ file_checks newer) (check 18 (same_frame (network_of older) (network_of newer)) ∷ []) own)

  stops : (e : ℕ) → first_unmet (survey_checks older newer buffer) ≡ some e → record { outcome = refused e; buffers = buffer } ≡ survey_call older newer buffer
  unfolding survey_call
  stops e h = sym (ended_unmet (survey_checks older newer buffer) _ buffer _ e h)

  pub survey_frame : (e : ℕ) → first_unmet (frame_checks older newer) ≡ some e → record { outcome = refused e; buffers = buffer } ≡ survey_call older newer buffer
  survey_frame e h = stops e (ap first_unmet by_frame ∙ first_unmet_stops (frame_checks older newer) own e h)

  module _ {x : Frame} (framing : Framing older newer x) where
    frame_met : first_unmet (survey_checks older newer buffer) ≡ first_unmet own
    unfolding survey_checks
    frame_met =
        first_unmet_append (file_checks older ++ file_checks newer) (check 18 (same_frame (network_of older) (network_of newer)) ∷ own)
        (first_unmet_append (file_checks older) (file_checks newer) framing.first_met ∙ framing.second_met)
        ∙ first_unmet_met (check 18 (same_frame (network_of older) (network_of newer))) own framing.framed

    pub survey_many : 256 < total → record { outcome = refused 19; buffers = buffer } ≡ survey_call older newer buffer
    survey_many h = stops 19 (frame_met ∙ first_unmet_unmet (check 19 (leb total 256)) _ (lt-leb _ _ h))

    pub survey_short : total ≤ 256 → length buffer < length (survey_file older newer) → record { outcome = refused 11; buffers = buffer } ≡ survey_call older newer buffer
    survey_short few h = stops 11 (frame_met ∙ first_unmet_met (check 19 (leb total 256)) _ (le-leb _ _ few) ∙ first_unmet_unmet _ [] (lt-leb _ _ h))

    pub survey_written : total ≤ 256 → length (survey_file older newer) ≤ length buffer
        → record { outcome = answered (length (survey_file older newer)); buffers = over (survey_file older newer) buffer } ≡ survey_call older newer buffer
    unfolding survey_call
    survey_written few room = sym (ended_met (survey_checks older newer buffer) _ buffer _ ((survey_met older newer buffer).1
        (record { older_met = framing.first_met; newer_met = framing.second_met; framed = (T_true _).1 framing.framed; few = few; room = room })))

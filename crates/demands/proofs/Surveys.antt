-- A newer survey over an older: which rows stand, and what a call leaves (`surveyed`).
use mathlib.Core.Path.{◌∙◌, ◌≡◌, ap, refl, sym}
use mathlib.Core.List.{List}
use Prim.Native.Nat.{ℕ}
use lib.ListN.{drop, length, take}
use Rattle.checks.specs.Checks.{Ended, answered, first_unmet}
use Rattle.checks.proofs.Ended.{ended_answered, ended_met}
use Rattle.network_file.specs.Bytes.{file_of}
use Rattle.network_file.specs.File.{file_checks, network_of, version}
use Rattle.network_file.proofs.Frames.{frame_exactly}
use Rattle.operations.specs.Operations.{over}
use Rattle.operations.proofs.Over.{over_drop, over_take}
use Rattle.surveys.specs.Surveys.{survey_call, survey_checks, survey_file}
use Rattle.surveys.proofs.Surveys.{nothing_over, over_itself, over_nothing, pair_newer, pair_older, survey_accepted, survey_long, survey_met, survives_exactly}
use Rattle.demands.specs.Surveys.{SurveyClaim, Surveys}

-- the file is of version 2
second : (older newer : List ℕ) → version (survey_file older newer) ≡ 2
unfolding survey_file file_of
second older newer = refl

survey_claim : (older newer buffer : List ℕ) (n : ℕ) → (survey_call older newer buffer).outcome ≡ answered n → SurveyClaim older newer buffer n
unfolding survey_call
survey_claim older newer buffer n e =
    let checks = survey_checks older newer buffer in
    let file = survey_file older newer in
    let (met, long) = ended_answered checks (length file) buffer (over file buffer) n e in
    let left : (survey_call older newer buffer).buffers ≡ over file buffer = ap (λ (c : Ended ℕ (List ℕ)). c.buffers) (ended_met checks (length file) buffer (over file buffer) met) in
    let bytes : take n (survey_call older newer buffer).buffers ≡ file = ap (take n) left ∙ over_take file buffer long in
    let asked = (survey_met older newer buffer).0 met in
    let (nodes, kinds) = (frame_exactly (network_of older) (network_of newer)).0 asked.framed in
    let (passes, network) = survey_accepted older newer asked.older_met asked.newer_met asked.framed asked.few in
    record {
      older_passes = asked.older_met;
      newer_passes = asked.newer_met;
      one_frame = record { nodes = nodes; kinds = kinds };
      few = asked.few;
      second = ap version bytes ∙ second older newer;
      passes = ap (λ (x : List ℕ). first_unmet (file_checks x)) bytes ∙ passes;
      network = ap network_of bytes ∙ network;
      long = sym long ∙ survey_long older newer asked.older_met asked.newer_met asked.framed;
      rest = ap (drop n) left ∙ over_drop file buffer long;
    }

pub surveyed : Surveys
unfolding survey_call
surveyed = record {
  stands = λ older newer. record { exactly = survives_exactly older newer; newer_rows = pair_newer older newer; older_rows = pair_older older newer };
  answers = survey_claim;
  roomy = λ older newer buffer one two same few_rows room.
      ended_met (survey_checks older newer buffer) _ buffer _
      ((survey_met older newer buffer).1
      (record { older_met = one; newer_met = two; framed = (frame_exactly (network_of older) (network_of newer)).1 (same.nodes, same.kinds); few = few_rows; room = room }));
  itself = over_itself;
  over_nothing = λ v w same. over_nothing v w same.nodes same.kinds;
  nothing_over = nothing_over;
}

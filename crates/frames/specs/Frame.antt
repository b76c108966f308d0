-- Opening two network files of one frame: the checks of the first, those of the second, then 18.
use Rattle.std.specs.Prelude.{◌≡◌, true, List, [], ◌++◌, ◌∷◌, ℕ}
use Rattle.std.proofs.Math.Option.{none}
use Rattle.checks.specs.Checks.{Check, Outcome, checked, first_unmet}
use Rattle.network_file.specs.File.{Sizes, file_checks, network_of, sizes_of}
use Rattle.network_file.specs.Frames.{same_frame}
use Rattle.operations.specs.Operations.{check}

-- the sizes of both
pub record Frame : Type 0 where
  pub first : Sizes
  pub second : Sizes

unfoldable pub frame_checks : List ℕ → List ℕ → List Check
unfolding same_frame
frame_checks f g = file_checks f ++ file_checks g ++ (check 18 (same_frame (network_of f) (network_of g)) ∷ [])

unfoldable pub frame_of : List ℕ → List ℕ → Outcome Frame
unfolding checked frame_checks
frame_of f g = checked (frame_checks f g) (record { first = sizes_of f; second = sizes_of g })

-- what an answer says of the files: both pass, they have these sizes, and one frame
pub record Framing (f g : List ℕ) (x : Frame) : Type 0 where
  pub first_met : first_unmet (file_checks f) ≡ none
  pub second_met : first_unmet (file_checks g) ≡ none
  pub first_sizes : x.first ≡ sizes_of f
  pub second_sizes : x.second ≡ sizes_of g
  pub framed : same_frame (network_of f) (network_of g) ≡ true

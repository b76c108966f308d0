-- Opening two files by their checks: what the outcome for both says (`frame_refused`, `frame_answered`), and what that is where
-- a check of the first is not met (`first_stops`), of the second (`second_stops`), check 18 (`frame_other`) or none is left (`frame_met`).
use mathlib.Core.Path.{◌∙◌, ◌≡◌, ap, ap₂, refl, sym}
use mathlib.Core.Bool.{false, true}
use mathlib.Core.Option.{some}
use mathlib.Core.List.Memᴰ.{head as here}
use mathlib.Core.List.{List, [], ◌++◌, ◌∷◌}
use Prim.Native.Nat.{ℕ}
use Rattle.checks.specs.Checks.{Check, answered, first_unmet, refused}
use Rattle.checks.proofs.Checks.{first_unmet_append, first_unmet_met, first_unmet_unmet, met_all}
use Rattle.checks.proofs.Ended.{checked_answered, checked_met, checked_refused, checked_unmet, first_unmet_stops, unmet_parts}
use Rattle.network_file.specs.File.{Sizes, file_checks, network_of, open_of, sizes_of}
use Rattle.network_file.specs.Frames.{same_frame}
use Rattle.network_file.proofs.Opened.{open_answered, open_refused}
use Rattle.operations.specs.Operations.{check}
use Rattle.frames.specs.Frame.{Frame, Framing, frame_checks, frame_of}

module _ (f g : List ℕ) where
  -- whether they have one frame
  abbrev alike : Check
  alike = check 18 (same_frame (network_of f) (network_of g))

  abbrev sizes : Frame
  sizes = record { first = sizes_of f; second = sizes_of g }

  -- What the outcome says

  pub frame_refused : (e : ℕ) → frame_of f g ≡ refused e → first_unmet (frame_checks f g) ≡ some e
  unfolding frame_of
  frame_refused e h = checked_refused (frame_checks f g) sizes e h

  pub frame_answered : (x : Frame) → frame_of f g ≡ answered x → Framing f g x
  unfolding frame_of frame_checks
  frame_answered x h =
      let (met, same) = checked_answered (frame_checks f g) sizes x h in
      let (files, own) = unmet_parts (file_checks f ++ file_checks g) (alike ∷ []) met in
      let (one, two) = unmet_parts (file_checks f) (file_checks g) files in
      record {
        first_met = one;
        second_met = two;
        first_sizes = sym (ap (λ (y : Frame). y.first) same);
        second_sizes = sym (ap (λ (y : Frame). y.second) same);
        framed = (met_all (alike ∷ [])).0 own alike (here refl);
      }

  -- What it is

  stops : (e : ℕ) → first_unmet (frame_checks f g) ≡ some e → refused e ≡ frame_of f g
  unfolding frame_of
  stops e h = sym (checked_unmet (frame_checks f g) sizes e h)

  pub first_stops : (e : ℕ) → refused e ≡ open_of f → refused e ≡ frame_of f g
  unfolding frame_checks
  first_stops e asked = stops e (first_unmet_stops (file_checks f ++ file_checks g) (alike ∷ []) e (first_unmet_stops (file_checks f) (file_checks g) e (open_refused f e (sym asked))))

  module _ {s : Sizes} (one : answered s ≡ open_of f) where
    pub second_stops : (e : ℕ) → refused e ≡ open_of g → refused e ≡ frame_of f g
    unfolding frame_checks
    second_stops e asked =
        stops e (first_unmet_stops (file_checks f ++ file_checks g) (alike ∷ []) e
        (first_unmet_append (file_checks f) (file_checks g) (open_answered f s (sym one)).0 ∙ open_refused g e (sym asked)))

    module _ {t : Sizes} (two : answered t ≡ open_of g) where
      files_met : first_unmet (frame_checks f g) ≡ first_unmet (alike ∷ [])
      unfolding frame_checks
      files_met =
          first_unmet_append (file_checks f ++ file_checks g) (alike ∷ [])
          (first_unmet_append (file_checks f) (file_checks g) (open_answered f s (sym one)).0 ∙ (open_answered g t (sym two)).0)

      pub frame_other : same_frame (network_of f) (network_of g) ≡ false → refused 18 ≡ frame_of f g
      frame_other e = stops 18 (files_met ∙ first_unmet_unmet alike [] e)

      pub frame_met : same_frame (network_of f) (network_of g) ≡ true → answered (record { first = s; second = t }) ≡ frame_of f g
      unfolding frame_of first_unmet
      frame_met e =
          ap₂ (λ (a b : Sizes). answered (record { first = a; second = b })) (sym (open_answered f s (sym one)).1) (sym (open_answered g t (sym two)).1)
          ∙ sym (checked_met (frame_checks f g) sizes (files_met ∙ first_unmet_met alike [] e))

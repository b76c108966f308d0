-- The file that is written of two accepted files, by its parts as the code puts them: the head, the older rows that
-- stand, the newer rows (`file_parts`); how many rows that are (`rows_in_all`) and how long it is (`file_size`); and the parts put one behind the other into a buffer with room
-- (`file_put`).
use mathlib.Core.Path.{◌∙◌, ◌≡◌, ap, ap₂, refl, sym}
use mathlib.Core.List.{List, ◌++◌, append_assoc}
use Prim.Native.Nat.{◌*◌, ◌+◌, ◌≤◌, ℕ}
use native.Mathlib.Omega.{arith}
use lib.ListN.{length, length-append}
use Rattle.lists.specs.Lists.{concat_map}
use Rattle.lists.proofs.Sequences.{concat_map_append}
use Rattle.lists.proofs.Tests.{T_true}
use Rattle.costs.specs.Network.{Network, Row}
use Rattle.network_file.specs.Bytes.{body_bytes, bytes_of_row, file_of}
use Rattle.network_file.specs.File.{network_of}
use Rattle.network_file.proofs.Accepted.{accepted, rows_length}
use Rattle.operations.specs.Operations.{over}
use Rattle.frames.specs.Frame.{Frame, Framing}
use Rattle.printout.specs.Text.{Filled, filled, put}
use Rattle.printout.proofs.Laws.{behind, put_whole}
use Rattle.surveys.specs.Surveys.{survey_file, survey_network, survivors}
use Rattle.surveys.proofs.Surveys.{survey_long}
use Rattle.survey.specs.Head.{follow_bytes, head_bytes}

abbrev rows_bytes : List Row → List ℕ
rows_bytes rows = concat_map (bytes_of_row 2) rows

-- two files of one frame, both accepted, with their sizes as they were read
module _ {older newer : List ℕ} {x : Frame} (framing : Framing older newer x) where
  abbrev stood : List Row
  stood = survivors (network_of older).rows (network_of newer).rows

  abbrev joined : Network
  joined = survey_network (network_of older) (network_of newer)

  pub rows_in_all : (count : ℕ) → count ≡ length stood → count + x.second.m ≡ length joined.rows
  rows_in_all count counted = omega (arith, counted, length-append stood (network_of newer).rows, rows_length newer, ap {B = ℕ} (λ z. z.m) framing.second_sizes)

  -- the older's criteria
  criteria : x.first.k ≡ length (network_of older).kinds
  criteria = ap {B = ℕ} (λ z. z.k) framing.first_sizes ∙ sym (accepted older framing.first_met).kinds

  long : length (survey_file older newer) ≡ 9 + length (network_of older).kinds + length joined.rows * (5 + 4 * length (network_of older).kinds)
  long = survey_long older newer framing.first_met framing.second_met ((T_true _).1 framing.framed)

  module _ (m : ℕ) (rows : m ≡ length joined.rows) where
    pub file_size : 9 + x.first.k + m * (5 + 4 * x.first.k) ≡ length (survey_file older newer)
    file_size = ap₂ (λ (k n : ℕ). 9 + k + n * (5 + 4 * k)) criteria rows ∙ sym long

    file_parts : (head_bytes (network_of older) m ++ rows_bytes stood) ++ rows_bytes (network_of newer).rows ≡ survey_file older newer
    unfolding survey_file file_of head_bytes
    file_parts =
        let body : length (body_bytes 2 joined) ≡ follow_bytes (length joined.kinds) (length joined.rows) = omega (arith, long) in
        append_assoc (head_bytes (network_of older) m) (rows_bytes stood) (rows_bytes (network_of newer).rows)
        ∙ ap₂ (λ (n : ℕ) (l : List ℕ). head_bytes (network_of older) n ++ l) rows (sym (concat_map_append (bytes_of_row 2) stood (network_of newer).rows))
        ∙ (rw body refl)

    pub file_put : (buffer : List ℕ) {one two three : List ℕ} {p q e : ℕ} → filled one p ≡ put buffer 0 (head_bytes (network_of older) m) → filled two q ≡ put one p (rows_bytes stood)
        → filled three e ≡ put two q (rows_bytes (network_of newer).rows) → length (survey_file older newer) ≤ length buffer → three ≡ over (survey_file older newer) buffer
    file_put buffer head stands all room =
        ap (λ (f : Filled). f.bytes)
        (behind buffer 0 (head_bytes (network_of older) m ++ rows_bytes stood) (rows_bytes (network_of newer).rows) (behind buffer 0 (head_bytes (network_of older) m) (rows_bytes stood) head stands) all
        ∙ ap (put buffer 0) file_parts
        ∙ put_whole buffer (survey_file older newer) room)

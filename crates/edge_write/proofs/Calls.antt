-- The call by its checks: what it comes to where the file's are not met (`text_open`), where the buffer is too short (`text_short`), and where all are met (`text_met`).
use mathlib.Core.Path.{◌∙◌, ◌≡◌, sym}
use mathlib.Core.Option.{none, some}
use mathlib.Core.List.{List, [], ◌∷◌}
use Prim.Native.Nat.{◌<◌, ◌≤◌, ℕ}
use lib.Dec.{leb}
use lib.ListN.{length}
use borrow.Author.Tests.{le-leb, lt-leb}
use Rattle.checks.specs.Checks.{Check, answered, first_unmet, refused}
use Rattle.checks.proofs.Checks.{first_unmet_append, first_unmet_met, first_unmet_unmet}
use Rattle.checks.proofs.Ended.{ended_met, ended_unmet, first_unmet_stops}
use Rattle.network_file.specs.File.{file_checks}
use Rattle.operations.specs.Operations.{check, over}
use Rattle.edge_file.specs.Dimacs.{text_call, text_checks, text_in}

module _ (f buffer : List ℕ) where
  -- whether the text fits
  abbrev roomy : Check
  roomy = check 11 (leb (length (text_in f)) (length buffer))

  stops : (e : ℕ) → first_unmet (text_checks f buffer) ≡ some e → record { outcome = refused e; buffers = buffer } ≡ text_call f buffer
  unfolding text_call
  stops e h = sym (ended_unmet (text_checks f buffer) _ buffer _ e h)

  pub text_open : (e : ℕ) → first_unmet (file_checks f) ≡ some e → record { outcome = refused e; buffers = buffer } ≡ text_call f buffer
  unfolding text_checks
  text_open e h = stops e (first_unmet_stops (file_checks f) (roomy ∷ []) e h)

  module _ (met : first_unmet (file_checks f) ≡ none) where
    open_met : first_unmet (text_checks f buffer) ≡ first_unmet (roomy ∷ [])
    unfolding text_checks
    open_met = first_unmet_append (file_checks f) (roomy ∷ []) met

    pub text_short : length buffer < length (text_in f) → record { outcome = refused 11; buffers = buffer } ≡ text_call f buffer
    text_short h = stops 11 (open_met ∙ first_unmet_unmet roomy [] (lt-leb _ _ h))

    pub text_met : length (text_in f) ≤ length buffer → record { outcome = answered (length (text_in f)); buffers = over (text_in f) buffer } ≡ text_call f buffer
    unfolding text_call first_unmet
    text_met h = sym (ended_met (text_checks f buffer) _ buffer _ (open_met ∙ first_unmet_met roomy [] (le-leb _ _ h)))

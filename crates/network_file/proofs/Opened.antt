-- What Open's outcome says of a file's checks.
use mathlib.Core.Path.{◌≡◌}
use mathlib.Core.Option.{none, some}
use mathlib.Core.List.{List}
use Prim.Native.Nat.{ℕ}
use Rattle.checks.specs.Checks.{answered, first_unmet, refused}
use Rattle.checks.proofs.Ended.{checked_answered, checked_refused}
use Rattle.network_file.specs.File.{Sizes, file_checks, open_of, sizes_of}

module _ (f : List ℕ) where
  pub open_refused : (e : ℕ) → open_of f ≡ refused e → first_unmet (file_checks f) ≡ some e
  unfolding open_of
  open_refused e h = checked_refused (file_checks f) (sizes_of f) e h

  pub open_answered : (s : Sizes) → open_of f ≡ answered s → (first_unmet (file_checks f) ≡ none) × (sizes_of f ≡ s)
  unfolding open_of
  open_answered s h = checked_answered (file_checks f) (sizes_of f) s h

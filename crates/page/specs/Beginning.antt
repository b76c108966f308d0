-- What a call begins with (`Beginning`).
use Rattle.std.specs.Prelude.{IsOk, MatchResult, Result, ◌≡◌, false, true, List, ℕ}
use Rattle.checks.specs.Checks.{first_unmet}
use Rattle.fill.specs.Walkable.{Begins}
use Rattle.network_file.specs.File.{network_of}
use Rattle.operations.specs.Operations.{layouts_in, some_tree, start_checks}
use Rattle.refusals.specs.declared.Refusal.{Refusal}
use Rattle.refusals.specs.declared.Refusal.TheVariants.{NoTree}
use Rattle.start.specs.Start.{numbered}
use Rattle.page.specs.declared.Begun.{Begun}

-- on the chart of a file with a tree: the first check of the start that is not met, and what comes first behind a start that meets all
pub record BegunWith (f c begin : List ℕ) (b : Begun) : Type 0 where
  pub tree : some_tree (layouts_in f) ≡ true
  pub checked : first_unmet (start_checks (network_of f) begin) ≡ numbered b.checked
  pub next : IsOk b.checked → Begins c begin b.next

-- on the chart of a file: the same, or that there is no tree
abbrev pub Beginning : List ℕ → List ℕ → List ℕ → Result Begun Refusal → Type 0
Beginning f c begin r = MatchResult r (BegunWith f c begin) (λ e. (some_tree (layouts_in f) ≡ false) × (e ≡ NoTree))

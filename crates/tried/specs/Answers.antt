-- What an answer to drawn rows says: the path with its steps, or the number of a refusal.
use Rattle.std.proofs.Math.Option.{Option, none, some}
use Rattle.std.specs.Prelude.{List, Result, [], ℕ}
use Rattle.graph.specs.Graph.{Graph}
use Rattle.graph.specs.Paths.{Key, and_then, path_of, steps}
use Rattle.checks.specs.Checks.{Outcome}
use Rattle.refusals.specs.Refusals.{outcome_of}
use Rattle.refusals.specs.declared.Refusal.{Refusal}
use Rattle.paths.specs.Path.{keys_of, plant_of}
use Rattle.paths.specs.declared.Path.{Path}

-- all that a path stands for
pub record PathSteps : Type 0 where
  pub plant : ℕ
  pub keys : List Key

abbrev pub steps_in : Path → PathSteps
steps_in p = record { plant = plant_of p; keys = keys_of p }

-- the code's answer: a path, by its steps
abbrev pub drawn_of : Result Path Refusal → Outcome PathSteps
drawn_of = outcome_of steps_in

-- the steps that were found; asked only where there are some
abbrev pub keys_in : Option (List Key) → List Key
keys_in none = []
keys_in (some ks) = ks

-- the minimal path with exactly these rows; asked only of a spanning tree
abbrev pub minimal_steps : Graph → List ℕ → PathSteps
minimal_steps g rows = record { plant = g.plant; keys = keys_in (and_then (path_of g rows) (steps g)) }

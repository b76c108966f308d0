-- Laws of Cost: the part of the path's vector that is written, and the call's end by the answer of `drawn` and the buffer's length.
use mathlib.Core.Path.{◌∙◌, ◌≡◌, ap, refl, sym}
use mathlib.Core.Bool.{false, true}
use mathlib.Core.List.{List, []}
use Prim.Native.Nat.{◌<◌, ◌≤◌, ℕ}
use native.Mathlib.Omega.{arith}
use lib.Dec.{leb}
use lib.ListN.{length, length-take, take}
use Rattle.lists.specs.Lists.{range}
use Rattle.checks.specs.Checks.{answered, first_unmet, refused}
use Rattle.costs.specs.Costs.{cost_of}
use Rattle.network_file.specs.File.{Sizes, network_of, sizes_of}
use Rattle.operations.specs.Operations.{cost_call, cost_checks, over}
use Rattle.operations.proofs.Costs.{path_costs}
use Rattle.drawn.specs.Answers.{drawn_call}
use Rattle.drawn.proofs.Answers.{Passed, answered_by, call_met, call_refused, call_short}
use Rattle.tried.specs.Answers.{steps_in}
use Rattle.vector.specs.Vector.{vector_of}
use Rattle.vector.proofs.Vectors.{rows_few, vector_costs}
use Rattle.paths.specs.Path.{rows_in}
use Rattle.paths.specs.declared.Path.{Path}

module _ (f rows : List ℕ) where
  pub cost_refused : (buffer : List ℕ) (e : ℕ) → refused e ≡ drawn_call f rows → record { outcome = refused e; buffers = buffer } ≡ cost_call f rows buffer
  unfolding cost_call cost_checks
  cost_refused buffer e told = sym (call_refused f rows _ [] tt buffer _ e told)

  -- Once `drawn` has answered with the path p, and the file's sizes are read
  module _ (p : Path) (told : answered (steps_in p) ≡ drawn_call f rows) {s : Sizes} (sizes : s ≡ sizes_of f) where
    passed : Passed f rows (rows_in p)
    passed = answered_by f rows p told

    pub cost_short : (buffer : List ℕ) → leb s.k (length buffer) ≡ false → record { outcome = refused 11; buffers = buffer } ≡ cost_call f rows buffer
    unfolding cost_call cost_checks
    cost_short buffer e = sym (call_short f rows _ [] tt buffer _ p told (rw sizes at e))

    pub criteria_high : s.k ≤ 4
    criteria_high = omega (arith, ap (λ (s : Sizes). s.k) sizes, passed.file.criteria_high)

    -- the path's vector v, whose first k places are written
    module _ {v : List ℕ} (read : v ≡ vector_of f (rows_in p)) where
      pub part_length : s.k ≡ length (take s.k v)
      unfolding vector_of range
      part_length = omega (arith, length-take s.k v, ap length read, criteria_high)

      -- it is that of the rows as they were drawn
      pub part_costs : take s.k v ≡ cost_of (network_of f) rows
      part_costs = rw (sizes, read) (vector_costs f (rows_in p) passed.file (rows_few p)) ∙ path_costs f passed.file rows (rows_in p) passed.tree passed.path

      pub cost_vector : (buffer : List ℕ) → leb s.k (length buffer) ≡ true → record { outcome = answered tt; buffers = over (take s.k v) buffer } ≡ cost_call f rows buffer
      unfolding cost_call cost_checks first_unmet
      cost_vector buffer e =
          ap (λ (l : List ℕ). record { outcome = answered tt; buffers = over l buffer }) part_costs
          ∙ sym (call_met f rows _ [] tt buffer _ p told (rw sizes at e) refl)

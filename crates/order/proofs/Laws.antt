-- The end of Order's call by the answer of `drawn` and the buffer's length.
use mathlib.Core.Path.{◌∙◌, ◌≡◌, ap, refl, sym}
use mathlib.Core.Bool.{false, true}
use mathlib.Core.Option.{Option}
use mathlib.Core.List.{List, []}
use Prim.Native.Nat.{◌<◌, ◌≤◌, ℕ}
use native.Mathlib.Omega.{arith}
use lib.Dec.{leb}
use lib.ListN.{length}
use Rattle.checks.specs.Checks.{answered, first_unmet, refused}
use Rattle.graph.specs.Paths.{path_in}
use Rattle.operations.specs.Operations.{order_call, order_checks, over}
use Rattle.paths.specs.Path.{rows_in}
use Rattle.paths.specs.declared.Path.{Path}
use Rattle.drawn.specs.Answers.{drawn_call}
use Rattle.drawn.proofs.Answers.{Passed, answered_by, call_met, call_refused, call_short}
use Rattle.tried.specs.Answers.{steps_in}

module _ (f rows buffer : List ℕ) where
  pub order_refused : (e : ℕ) → refused e ≡ drawn_call f rows → record { outcome = refused e; buffers = buffer } ≡ order_call f rows buffer
  unfolding order_call order_checks
  order_refused e told = sym (call_refused f rows _ [] tt buffer _ e told)

  module _ (p : Path) (told : answered (steps_in p) ≡ drawn_call f rows) where
    passed : Passed f rows (rows_in p)
    passed = answered_by f rows p told

    pub order_short : leb (length (rows_in p)) (length buffer) ≡ false → record { outcome = refused 11; buffers = buffer } ≡ order_call f rows buffer
    unfolding order_call order_checks
    order_short e = sym (call_short f rows _ [] tt buffer _ p told (rw passed.long at e))

    pub order_path : leb (length (rows_in p)) (length buffer) ≡ true → record { outcome = answered tt; buffers = over (rows_in p) buffer } ≡ order_call f rows buffer
    unfolding order_call order_checks first_unmet
    order_path e =
        sym (call_met f rows _ [] tt buffer _ p told (rw passed.long at e) refl
        ∙ ap (λ (ps : Option (List ℕ)). record { outcome = answered tt; buffers = over (path_in ps) buffer }) passed.path)

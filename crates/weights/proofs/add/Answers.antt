-- `add` meets its contract: where a test fails the weights stay as they were.
use mathlib.Core.Path.{◌∙◌}
use Rattle.weights.proofs.Stores.{few_kept, here, kept_first, kept_second, many_added}
use Rattle.weights.proofs.add.Goals as goal
use Rattle.weights.proofs.add.Goals.{else-weights-ge1024-via-then-weights-ge1024+then-x-lt32+else-y-lt32, else-weights-ge1024-via-then-weights-ge1024+else-x-lt32}
use Rattle.weights.proofs.add.Goals.{else-weights-ge1024-via-else-weights-ge1024}

pub returns-then-y-lt32 : goal.returns-then-y-lt32
returns-then-y-lt32 c =
    here _ _ _ _ _ _ c.if-x-lt32.true c.if-y-lt32.true c.place-at.ensures.0 c.beside.ensures ∙ many_added _ _ _ _ c.if-weights-ge1024.true

pub returns-else-weights-ge1024 : goal.returns-else-weights-ge1024
returns-else-weights-ge1024 c = elim c.else-weights-ge1024.branch [
  | else-weights-ge1024-via-then-weights-ge1024+then-x-lt32+else-y-lt32 w ↦ kept_second _ _ _ _ w.if-x-lt32.true w.if-y-lt32.false ∙ many_added _ _ _ _ w.if-weights-ge1024.true
  | else-weights-ge1024-via-then-weights-ge1024+else-x-lt32 w ↦ kept_first _ _ _ _ w.if-x-lt32.false ∙ many_added _ _ _ _ w.if-weights-ge1024.true
  | else-weights-ge1024-via-else-weights-ge1024 w ↦ few_kept _ _ _ _ w.if-weights-ge1024.false
]

-- A start of a tree's length whose path climbs and that has all must rows is in the list (`path_listed`); of any other nothing is said.
use mathlib.Core.Path.{◌∙◌, ap₂, sym}
use mathlib.Core.List.{List}
use Prim.Native.Nat.{ℕ}
use borrow.Author.Tests.{eqb-true}
use Rattle.graph.specs.Paths.{Key}
use Rattle.walk.specs.Climbing.{climbs_in}
use Rattle.page.proofs.Seen.{path_listed}
use Rattle.page.proofs.seen_listed.Goals as goal
use Rattle.page.proofs.seen_listed.Goals.{then-start-width, else-start-width}

pub returns-then-climbs : goal.returns-then-climbs
returns-then-climbs c right lead plant keys e = elim c.if-start-width.branch [
  | then-start-width w ↦
      let s = c.args in
      let climbs = sym (ap₂ (λ (p : ℕ) (k : List Key). climbs_in s.chart.now.words p k) plant keys) ∙ sym w.climbs.ensures ∙ sym w.value-is ∙ c.if-climbs.true in
      path_listed right lead s.start.now (w.if-start-width.true ∙ c.width.ensures) climbs (sym c.musts_met.ensures ∙ e)
  | else-start-width w ↦ absurd (w.if-start-width.false (eqb-true _ _ (sym w.value-is ∙ c.if-climbs.true)))
]

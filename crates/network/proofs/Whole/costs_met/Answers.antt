use mathlib.Core.Path.{◌∙◌, ◌≡◌, ap, refl, sym}
use Prim.Native.Nat.{◌+◌, ◌-◌, ◌/◌, ℕ}
use mathlib.Core.List.{List}
use lib.ListN.{length, take, drop}
use borrow.Author.Rules.{rules}
use Rattle.network.specs.Rows.{costs_from}
use Rattle.network.proofs.Laws.{costs_at, costs_read, costs_start}
use Rattle.network.proofs.Rows.{row_run}
use Rattle.network.proofs.Whole.costs_met.Goals as goal

pub returns : goal.returns
returns c =
    let (p, from, outcome) = c.all.ensures.runs in
    row_run p _ _ (search rules) c.args.self.fitting (costs_at c.args.self.file.now) (search (rules, from)) (search (rules, from)) (c.chunks_exact.ensures.runs p p.seen)
    (λ r x row b called.
    let lead : ℕ = 4 + c.state_width.result in
    let costs : List ℕ = take (length x.now - lead) (drop lead x.now) in
    let asked : b ≡ costs_from costs 0 (length costs / 4) = search (rules, called) in
    asked ∙ costs_read _ _ c.args.self.fitting.same r lead x.now costs row (ap (λ (w : ℕ). 4 + w) c.state_width.ensures) refl) c.all.result outcome
    ∙ sym (costs_start _ _ c.args.self.fitting.same)

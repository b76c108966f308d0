use mathlib.Core.Path.{◌∙◌, ap}
use mathlib.Core.List.{List}
use Prim.Native.Nat.{ℕ}
use borrow.Author.Rules.{rules}
use lib.Dec.{ltb}
use Rattle.lists.specs.Lists.{all}
use Rattle.lists.proofs.Runs.{items_run}
use Rattle.tried.proofs.below.Goals as goal

pub returns : goal.returns
returns c =
    let (p, from, outcome) = c.all.ensures.runs in
    items_run p _ _ (search rules) (λ x. x.now) _ 0 (λ q. ltb q c.args.m) (c.iter.ensures.runs p p.seen) (λ x b called. search (rules, called)) c.all.result outcome
    ∙ ap (λ (rows : List ℕ). all (λ q. ltb q c.args.m) rows) (search (rules, from))

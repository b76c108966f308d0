use mathlib.Core.Path.{◌∙◌, ap, sym}
use mathlib.Core.List.{List}
use Prim.Native.Nat.{ℕ}
use borrow.Author.Rules.{rules}
use Rattle.lists.specs.Lists.{all}
use Rattle.lists.proofs.Runs.{items_run}
use Rattle.network_file.specs.File.{is_kind, kind_of}
use Rattle.network.proofs.Laws.{kinds_part, kinds_start, kinds_there}
use Rattle.network.proofs.Whole.kinds_met.Goals as goal

pub returns : goal.returns
returns c =
    let (p, from, outcome) = c.all.ensures.runs in
    items_run p _ _ (search rules) (λ x. x.now) _ 0 (λ b. is_kind (kind_of b)) (c.iter.ensures.runs p p.seen) (λ x b called. search (rules, called)) c.all.result outcome
    ∙ ap (λ (kinds : List ℕ). all (λ b. is_kind (kind_of b)) kinds) (search (rules, from) ∙ kinds_part _ _ (kinds_there c.args.self.fitting)) ∙ sym (kinds_start _ _ c.args.self.fitting.same)

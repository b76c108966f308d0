use mathlib.Core.Path.{◌∙◌, ◌≡◌, sym}
use mathlib.Core.Bool.{◌&&◌, not}
use lib.Dec.{eqb}
use borrow.Author.Rules.{rules}
use Rattle.network_file.specs.File.{byte_at, within}
use Rattle.network.proofs.Laws.{ends_at, ends_read, ends_start}
use Rattle.network.proofs.Rows.{row_run}
use Rattle.network.proofs.Whole.ends_met.Goals as goal

pub returns : goal.returns
returns c =
    let (p, from, outcome) = c.all.ensures.runs in
    row_run p _ _ (search rules) c.args.self.fitting (ends_at c.args.self.file.now) (search (rules, from)) (search (rules, from)) (c.chunks_exact.ensures.runs p p.seen)
    (λ r x row b called.
    let asked : b ≡ (within 1 c.args.self.header.n (byte_at x.now 0) && (within 1 c.args.self.header.n (byte_at x.now 1) && not (eqb (byte_at x.now 0) (byte_at x.now 1)))) = search (rules, called) in
    asked ∙ ends_read _ _ c.args.self.fitting.same r x.now row) c.all.result outcome
    ∙ sym (ends_start _ _ c.args.self.fitting.same)

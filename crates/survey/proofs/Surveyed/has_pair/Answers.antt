-- Each row is a piece of the file and is asked where it lies (`pair_read`); some row joins u and v if not all of them don't (`pair_pieces`).
use mathlib.Core.Path.{◌∙◌, ◌≡◌, ap}
use mathlib.Core.Bool.{◌&&◌, ◌||◌, not}
use lib.Dec.{eqb}
use borrow.Author.Rules.{rules}
use Rattle.network.proofs.Rows.{row_run}
use Rattle.network_file.specs.File.{byte_at}
use Rattle.survey.proofs.Pairs.{joins, pair_pieces, pair_read}
use Rattle.survey.proofs.Surveyed.has_pair.Goals as goal

pub returns : goal.returns
returns c =
    let (p, from, outcome) = c.all.ensures.runs in
    let lacks = row_run p _ _ (search rules) c.args.self.now.fitting (λ r. not (joins c.args.u c.args.v c.args.self.now.file.now r)) (search (rules, from)) (search (rules, from))
    (c.chunks_exact.ensures.runs p p.seen)
    (λ r x row b called.
    let asked : b ≡ not ((eqb (byte_at x.now 0) c.args.u && eqb (byte_at x.now 1) c.args.v) || (eqb (byte_at x.now 0) c.args.v && eqb (byte_at x.now 1) c.args.u)) = search (rules, called) in
    asked ∙ ap not (pair_read _ _ _ r x.now row)) c.all.result outcome in
    ap not lacks ∙ pair_pieces _ _ _ _ c.args.self.now.fitting.same

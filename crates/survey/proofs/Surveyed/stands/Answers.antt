-- The row's ends are there and are read in place (`ends_there`).
use Rattle.std.proofs.Common.{◌∙◌, ap, ap₂, arith, sym, ◌*◌, ◌+◌, ℕ}
use mathlib.Core.Bool.{not}
use Rattle.network_file.specs.File.{network_of}
use Rattle.surveys.specs.Surveys.{has_pair}
use Rattle.survey.proofs.Pairs.{EndsThere, ends_there}
use Rattle.survey.proofs.Surveyed.stands.Goals as goal
use Rattle.survey.proofs.Surveyed.stands.Goals.{After-row_bytes}

there : (c : After-row_bytes) → EndsThere c.args.self.now.file.now c.args.row (9 + c.args.self.now.header.k + c.args.row * c.row_bytes.result)
there c = ends_there c.args.self.now.fitting c.args.row _ c.requires c.row_bytes.ensures

pub bounds-self-at : goal.bounds-self-at
bounds-self-at c = omega (arith, (there (goal.at.bounds-self-at c).After-row_bytes).inside)

pub bounds-self-at-2 : goal.bounds-self-at-2
bounds-self-at-2 c = omega (arith, (there (goal.at.bounds-self-at-2 c).After-row_bytes).inside)

pub returns : goal.returns
returns c =
    let ends = there (goal.at.returns c).After-row_bytes in
    ap not (c.has_pair.ensures ∙ ap₂ (λ (u v : ℕ). has_pair u v (network_of c.args.newer.now.file.now).rows) (sym ends.first) (sym ends.second))

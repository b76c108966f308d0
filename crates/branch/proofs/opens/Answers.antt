-- `branch::opens` meets its contract: the question is put to `find`, with the rows of the branch in and the rows that may still come usable.
use mathlib.Core.Path.{◌∙◌, ◌≡◌}
use lib.ListN.{take}
use borrow.Author.Rules.{rules}
use Rattle.paths.specs.Path.{keys_of}
use Rattle.find.specs.Space.{network_of}
use Rattle.branch.specs.Branch.{flags_of}
use Rattle.branch.proofs.Question.{node, opened, small}
use Rattle.branch.proofs.opens.Goals as goal

pub shortened-requires : goal.shortened-requires
shortened-requires c = search rules

pub returns : goal.returns
returns c musts asked =
    let a = c.args in
    let ends = a.space.ends in
    let inc = c.standing-rows.ensures (small asked) in
    let us : c.coming-free.result ≡ flags_of ends.firsts.now ends.seconds.now a.heads.now a.space.limit 1 (take a.len (keys_of a.path)) =
    rw (c.shortened.ensures.0 ∙ asked.plant, c.shortened.ensures.1) at c.coming-free.ensures in
    let answer = c.find.ensures asked.tables (rw (inc, us) (node asked a.len)) in
    rw c.is_some.ensures (opened asked a.len (network_of a.space) c.find.result (rw (inc, us) at answer))

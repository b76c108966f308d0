use mathlib.Core.Path.{◌∙◌, ◌≡◌}
use lib.Dec.{leb, ltb}
use Rattle.std.proofs.Common.{rules}
use Rattle.lists.specs.Lists.{both}
use Rattle.branch.proofs.Laws.{node_is}
use Rattle.branch.proofs.is_node.Goals as goal

pub returns : goal.returns
returns c =
    let within : c.contains.result ≡ both (ltb 0 c.args.v) (leb c.args.v c.args.limit) = search rules in
    within ∙ node_is c.args.v c.args.limit

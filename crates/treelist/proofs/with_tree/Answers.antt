-- Open tells the sizes, and the first page that there is a tree.
use Rattle.std.proofs.Common.{arith, sym}
use Rattle.network_file.proofs.Opened.{open_answered}
use Rattle.treelist.proofs.Laws.{answered_given, sizes_in_lem}
use Rattle.treelist.proofs.with_tree.Goals as goal

pub first_tree-requires : goal.first_tree-requires
first_tree-requires c =
    let (met, sizes) = open_answered _ _ (sym c.in_ok-header.ensures) in
    let (low, high, some, criteria) = sizes_in_lem c.args.file.now met (sym sizes) in
    (omega arith, high)

pub returns : goal.returns
returns c =
    let (met, sizes) = open_answered _ _ (sym c.in_ok-header.ensures) in
    answered_given _ met (sym sizes) c.in_ok-first_tree.ensures

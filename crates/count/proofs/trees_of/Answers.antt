-- `count::trees_of` meets its contract: the links of the rows count as the rows do.
use Rattle.count.proofs.Laws.{trees_counted}
use Rattle.count.proofs.trees_of.Goals as goal

pub returns : goal.returns
returns c = let given = c.requires in trees_counted _ given.0 _ _ _ given.1 c.links_of.ensures c.counted.ensures

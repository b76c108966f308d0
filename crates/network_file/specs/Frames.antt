-- Two networks with one frame: the same nodes, and the same kinds in sequence, so that there are as many criteria (check 18 of document 02).
use Rattle.std.specs.Prelude.{Bool, ◌&&◌, List, map, eqb}
use Rattle.lists.specs.Lists.{same}
use Rattle.costs.specs.Network.{Kind, Network}
use Rattle.network_file.specs.Bytes.{kind_number}

abbrev pub same_kinds : List Kind → List Kind → Bool
same_kinds k l = same (map kind_number k) (map kind_number l)

unfoldable pub same_frame : Network → Network → Bool
unfolding same
same_frame v w = eqb v.node_count w.node_count && same_kinds v.kinds w.kinds

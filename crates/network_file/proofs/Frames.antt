-- Two networks have one frame exactly if they have the same nodes and the same kinds in sequence (`frame_exactly`).
use mathlib.Core.Path.{◌∙◌, ◌≡◌, ap, sym}
use mathlib.Core.Logic.{◌↔◌}
use mathlib.Core.List.{map}
use lib.Dec.{T, eqb, eqb→eq}
use Rattle.lists.specs.Lists.{same}
use Rattle.lists.proofs.Members.{same_of, same_out}
use Rattle.lists.proofs.Tests.{T-both, eq→eqb}
use Rattle.costs.specs.Network.{Network}
use Rattle.network_file.specs.Bytes.{kind_number}
use Rattle.network_file.specs.File.{kinds_of}
use Rattle.network_file.specs.Frames.{same_frame}
use Rattle.network_file.proofs.Bytes.{kinds_back}

pub frame_exactly : (v w : Network) → T (same_frame v w) ↔ ((v.node_count ≡ w.node_count) × (v.kinds ≡ w.kinds))
unfolding same_frame
frame_exactly v w = (
  λ t. let (nodes, kinds) = split.0 t in (
    eqb→eq v.node_count w.node_count nodes,
    sym (kinds_back v.kinds) ∙ ap kinds_of (same_out (map kind_number v.kinds) (map kind_number w.kinds) kinds) ∙ kinds_back w.kinds,
  ),
  λ e. split.1 (eq→eqb v.node_count w.node_count e.0, same_of (map kind_number v.kinds) (map kind_number w.kinds) (ap (map kind_number) e.1)),
)
  where
    split : T (same_frame v w) ↔ (T (eqb v.node_count w.node_count) × T (same (map kind_number v.kinds) (map kind_number w.kinds)))
    split = T-both (eqb v.node_count w.node_count) (same (map kind_number v.kinds) (map kind_number w.kinds))

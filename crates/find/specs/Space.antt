-- What a space of the search stands for: its graph, the network of its criteria, and limits cut to as many as they are.
use Rattle.std.specs.Prelude.{List, ℕ, take}
use Rattle.graph.specs.Graph.{Graph}
use Rattle.costs.specs.Network.{Network}
use Rattle.tally.specs.Kinds.{numbers_of}
use Rattle.tally.specs.Tally.{table_of}
use Rattle.find.specs.declared.Space.{Space}
use Rattle.find.specs.Find.{Tables, graph_in}

abbrev pub graph_of : Space → Graph
graph_of s = graph_in s.ends.firsts.now s.ends.seconds.now s.limit

abbrev pub network_of : Space → Network
network_of s = table_of (numbers_of s.criteria.kinds) s.criteria.k s.criteria.costs.now s.criteria.leads.now

abbrev pub Formed : Space → Type 0
Formed s = Tables s.ends.firsts.now s.ends.seconds.now s.limit s.criteria.k

abbrev pub cut_to : Space → List ℕ → List ℕ
cut_to s limits = take s.criteria.k limits

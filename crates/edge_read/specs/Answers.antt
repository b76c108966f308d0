-- What the types of the code stand for: what the lines have said so far, and the answer in document 02's terms.
use Rattle.std.specs.Prelude.{ℕ, is_some, Option, None, Some, Result}
use Rattle.checks.specs.Checks.{Outcome}
use Rattle.refusals.specs.Refusals.{outcome_of}
use Rattle.refusals.specs.declared.Refusal.{Refusal}
use Rattle.edge_read.specs.Scan.{Scan}
use Rattle.edge_read.specs.declared.Problem.{Problem}
use Rattle.edge_read.specs.declared.Tally.{Tally}

-- the `p` line's numbers, where it was met
abbrev nodes_in : Option Problem → ℕ
nodes_in None = 0
nodes_in (Some p) = p.nodes

abbrev count_in : Option Problem → ℕ
count_in None = 0
count_in (Some p) = p.count

abbrev pub scan_of : Tally → Scan
scan_of t = record {
  bad = t.bad;
  seen = is_some t.problem;
  nodes = nodes_in t.problem;
  count = count_in t.problem;
  edges = t.edges;
  sound = t.sound;
}

abbrev pub read_of : Result ℕ Refusal → Outcome ℕ
read_of = outcome_of (λ length. length)

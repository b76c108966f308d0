-- The search for the front in a space, as its code has it: each says of a space what specs/Sought.antt says of its tables.
use Rattle.std.specs.Prelude.{◌≡◌, List, ℕ, Option}
use Rattle.checks.specs.Checks.{Outcome}
use Rattle.operations.specs.Operations.{Fronted}
use Rattle.chart.specs.Chart.{limit_in}
use Rattle.chosen.specs.Chosen.{rows_of}
use Rattle.tally.specs.Kinds.{numbers_of}
use Rattle.find.specs.declared.Space.{Space}
use Rattle.least.specs.declared.Trees.{Trees}
use Rattle.paths.specs.declared.Path.{Path}
use Rattle.fronted.specs.Filled.{FilledBy}
use Rattle.sought.specs.Sought.{First, NextOf, Ready, Searched, Wanted, sought_front, sought_witnesses}

-- the tables of a space are those of a chart, with its greatest node
abbrev pub ReadyIn : List ℕ → Space → List ℕ → Type 0
ReadyIn c s heads = Ready c s.ends.firsts.now s.ends.seconds.now heads s.criteria.k × (s.limit ≡ limit_in c)

abbrev pub WantedIn : List ℕ → Space → List ℕ → Type 0
WantedIn c s limits = Wanted c (numbers_of s.criteria.kinds) s.criteria.k s.criteria.costs.now s.criteria.leads.now limits

abbrev pub FirstIn : List ℕ → Space → List ℕ → Path → Type 0
FirstIn c s limits path = First c (numbers_of s.criteria.kinds) s.criteria.k s.criteria.costs.now s.criteria.leads.now limits path

abbrev pub SearchedIn : List ℕ → Space → List ℕ → Type 0
SearchedIn c s heads =
    Searched c s.ends.firsts.now s.ends.seconds.now heads (numbers_of s.criteria.kinds) s.criteria.k s.criteria.costs.now s.criteria.leads.now × (s.limit ≡ limit_in c)

abbrev pub NextIn : Trees → List ℕ → ℕ → Option (List ℕ) → Type 0
NextIn t costs count r =
    let s = t.space in
    NextOf s.ends.firsts.now s.ends.seconds.now s.limit (numbers_of s.criteria.kinds) s.criteria.k s.criteria.costs.now s.criteria.leads.now (rows_of t.musts) t.free costs count r

abbrev pub FoundIn : List ℕ → Space → ℕ → List ℕ → List ℕ → Outcome Fronted → List ℕ → List ℕ → Type 0
FoundIn c s capacity costs witnesses r costs' witnesses' =
    FilledBy
    (sought_front c (numbers_of s.criteria.kinds) s.criteria.k s.criteria.costs.now s.criteria.leads.now)
    (sought_witnesses c (numbers_of s.criteria.kinds) s.criteria.k s.criteria.costs.now s.criteria.leads.now)
    capacity costs witnesses r costs' witnesses'

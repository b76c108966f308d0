-- A run of Page calls over one file (document 01, demand 3): each starts after the last tree written so far.
use Rattle.std.specs.Prelude.{List, [], ◌++◌, ◌∷◌, ℕ, length}
use Rattle.graph.specs.Graph.{width}
use Rattle.checks.specs.Checks.{Outcome, answered, refused}
use Rattle.pages.specs.Pages.{last_of, pieces}
use Rattle.operations.specs.Operations.{Paged, graph_in, page_call}

-- what an answer adds: the first trees of its page, as many as its count; a refusal adds nothing
abbrev pub adds : ℕ → Outcome Paged → List ℕ → List (List ℕ)
adds w (refused e) page = []
adds w (answered a) page = pieces w a.count page

-- what a call of a run came to, and how many trees were written up to and with it
pub record Call : Type 0 where
  pub outcome : Outcome Paged
  pub up_to : ℕ

pub record Run : Type 0 where
  pub written : List (List ℕ)
  pub calls : List Call

-- the calls with these pages, where the trees `done` are written
unfoldable pub run_from : List ℕ → List (List ℕ) → List (List ℕ) → Run
run_from f done [] = record { written = done; calls = [] }
run_from f done (page ∷ pages) =
    let e = page_call f page (last_of done) in
    let now = done ++ adds (width (graph_in f)) e.outcome e.buffers in
    let later = run_from f now pages in
    record { written = later.written; calls = record { outcome = e.outcome; up_to = length now } ∷ later.calls }

-- no tree is written at first
abbrev pub run_of : List ℕ → List (List ℕ) → Run
run_of f pages = run_from f [] pages

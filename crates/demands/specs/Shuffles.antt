-- The same front from shuffled rows (document 02, #113), said over the definitions that the contracts cite: of two files that pass, where the rows of one's network
-- are a rearrangement of the other's, all else equal (`Shuffled` of crate shuffles). `shuffled` of proofs/Shuffles.antt is its proof.
use Rattle.std.specs.Prelude.{◌≡◌, ◌↔◌, ◌⊎◌, List, [], ◌++◌, ◌∷◌, ◌<◌, ℕ, get_or, length, T}
use Rattle.lists.proofs.Members.{◌∈◌}
use Rattle.graph.specs.Graph.{width}
use Rattle.checks.specs.Checks.{answered}
use Rattle.costs.specs.Costs.{front}
use Rattle.network_file.specs.File.{network_of, sizes_of}
use Rattle.pages.specs.Pages.{capacity, pieces}
use Rattle.operations.specs.Operations.{Fronted, front_call, graph_in, layouts_in}
use Rattle.shuffles.specs.Shuffles.{part_parallel, renamed_path}

-- h's tree p, with its rows renamed, is f's tree q; or the two part first at parallel rows
abbrev pub SameTree : List ℕ → List ℕ → List ℕ → List ℕ → Type 0
SameTree f numbers p q = (renamed_path numbers p ≡ q) ⊎ T (part_parallel (graph_in f) (renamed_path numbers p) q)

-- Front of both files
pub record FrontsAgree (f h numbers costs witnesses others paths : List ℕ) : Type 0 where
  -- the count and the mark, or the refusal
  pub outcomes : (front_call h others paths).outcome ≡ (front_call f costs witnesses).outcome
  -- the filled rows of the cost tables
  pub vectors_agree : (a : Fronted) → (front_call f costs witnesses).outcome ≡ answered a
      → pieces (sizes_of h).k a.count (front_call h others paths).buffers.costs ≡ pieces (sizes_of f).k a.count (front_call f costs witnesses).buffers.costs
  -- the witnesses beside them, row by row
  pub trees_agree : (a : Fronted) → (front_call f costs witnesses).outcome ≡ answered a → (i : ℕ) → i < a.count
      → SameTree f numbers (get_or (pieces (width (graph_in h)) a.count (front_call h others paths).buffers.witnesses) i [])
      (get_or (pieces (width (graph_in f)) a.count (front_call f costs witnesses).buffers.witnesses) i [])

-- p stands before q in a list
pub record StandsBefore (l : List (List ℕ)) (p q : List ℕ) : Type 0 where
  pub before : List (List ℕ)
  pub between : List (List ℕ)
  pub behind : List (List ℕ)
  pub stands : l ≡ before ++ p ∷ (between ++ q ∷ behind)

-- Row r of h's network is row `renamed numbers r` of f's.
pub record ShuffleClaim (f h numbers : List ℕ) : Type 0 where
  -- the front's vectors, marks and counts agree at equal capacity, whatever the tables hold
  pub front_same : front (network_of h) ≡ front (network_of f)
  pub fronts : (costs witnesses others paths : List ℕ)
      → capacity (sizes_of h).k (width (graph_in h)) others paths ≡ capacity (sizes_of f).k (width (graph_in f)) costs witnesses
      → FrontsAgree f h numbers costs witnesses others paths
  -- the trees of the whole list agree as sets once rows are renamed
  pub listed : (p : List ℕ) → p ∈ layouts_in h → renamed_path numbers p ∈ layouts_in f
  pub each : (q : List ℕ) → q ∈ layouts_in f → (p : List ℕ) × (p ∈ layouts_in h) × (renamed_path numbers p ≡ q)
  pub as_many : length (layouts_in h) ≡ length (layouts_in f)
  -- and so does the sequence of any two that do not part first at parallel rows
  pub sequence : (p q : List ℕ) → p ∈ layouts_in h → q ∈ layouts_in h → ¬ T (part_parallel (graph_in h) p q)
      → StandsBefore (layouts_in h) p q ↔ StandsBefore (layouts_in f) (renamed_path numbers p) (renamed_path numbers q)

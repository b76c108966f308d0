-- Demand 3, of trees by number: what an index holds that was built, and what is fetched from it (`index_claim`) or from any other (`fetch_claim`).
use mathlib.Core.Path.{◌∙◌, ◌≡◌, ap, ap₂, refl, sym}
use mathlib.Core.Logic.{◌↔◌}
use mathlib.Core.List.Memᴰ.{head as here}
use mathlib.Core.List.{List, [], ◌++◌, ◌∷◌}
use mathlib.Core.Option.{none}
use mathlib.Core.Bool.{true}
use Prim.Native.Nat.{◌%◌, ◌*◌, ◌+◌, ◌≤◌, ℕ}
use native.Mathlib.Omega.{arith}
use lib.Dec.{T, leb}
use lib.ListN.{drop, get_or, length}
use lib.Seq.{drop_at}
use Rattle.lists.specs.Lists.{any, member}
use Rattle.lists.proofs.Ascending.{get_d_at}
use Rattle.lists.proofs.Members.{◌∈◌}
use Rattle.lists.proofs.Tests.{T_true}
use Rattle.graph.specs.Graph.{width}
use Rattle.graph.proofs.Parts.{part_length}
use Rattle.checks.specs.Checks.{Check, Ended, answered, first_unmet, refused}
use Rattle.checks.proofs.Checks.{first_unmet_append, first_unmet_met, met_all}
use Rattle.checks.proofs.Ended.{ended_answered, unmet_parts}
use Rattle.costs.proofs.Layouts.{layouts_part}
use Rattle.network_file.specs.File.{file_checks, network_of, within}
use Rattle.pages.specs.Pages.{flat, pieces}
use Rattle.pages.proofs.Pages.{length_flat, pieces_flat}
use Rattle.operations.specs.Operations.{check, graph_in, layouts_in, over}
use Rattle.indexes.specs.Index.{fetch_call, fetch_checks, index_call, index_checks, indexed, spaced}
use Rattle.indexes.proofs.Checks.{spacing_least}
use Rattle.indexes.proofs.Every.{every_part, index_entry, index_is}
use Rattle.indexes.proofs.Fetch.{built_buffer, built_count, built_fetched, built_past, built_spaced, fetch_any}
use Rattle.demands.specs.Demands.{FetchClaim, IndexClaim, NoTree, Passes}
use Rattle.demands.proofs.Trees.{twelve}

module _ (f : List ℕ) (s : ℕ) (index : List ℕ) (n : ℕ) (e : (index_call f s index).outcome ≡ answered n) where
  abbrev L : List (List ℕ)
  L = layouts_in f

  abbrev w : ℕ
  w = width (graph_in f)

  low : 1 ≤ s
  low = spacing_least s (built_spaced f s index n e)

  long : (p : List ℕ) → p ∈ indexed s L → length p ≡ w
  long p m = part_length (layouts_part (network_of f)) p (every_part s L 0 p m)

  many : length (indexed s L) ≡ n
  many = built_count f s index n e

  read : pieces w n (index_call f s index).buffers ≡ indexed s L
  read =
      ap₂ (λ (k : ℕ) (l : List ℕ). pieces w k l) (sym many) (built_buffer f s index n e)
      ∙ pieces_flat w (indexed s L) (drop (length (flat (indexed s L))) index) long

  places : length (flat (indexed s L)) ≡ n * w
  places = length_flat w (indexed s L) long ∙ ap (λ (k : ℕ). k * w) many

  kept : drop (n * w) (index_call f s index).buffers ≡ drop (n * w) index
  kept =
      ap (drop (n * w)) (built_buffer f s index n e) ∙ drop_at (flat (indexed s L)) (drop (length (flat (indexed s L))) index) (n * w) places
      ∙ ap (λ (k : ℕ). drop k index) places

  pub index_claim : IndexClaim f s index n
  index_claim = record {
    every = λ i. (λ l. (index_entry s low L i).0 (omega (arith, many)), λ l. omega (arith, many, (index_entry s low L i).1 l));
    entries = λ i l. ap (λ (x : List (List ℕ)). get_or x i []) read ∙ index_is s low L i (omega (arith, many));
    rest = kept;
    fetched = λ t buffer room l. built_fetched f s index n e t buffer room l;
    past = λ t buffer room l. built_past f s index n e t buffer room l;
  }

pub fetch_claim : (f : List ℕ) (s : ℕ) (index : List ℕ) (t : ℕ) (buffer : List ℕ) (m : ℕ) → (fetch_call f s index t buffer).outcome ≡ answered m → FetchClaim f s index t buffer m
unfolding fetch_call
fetch_claim f s index t buffer m e =
    let (i, at, behind, call) = fetch_any f s index t buffer m e in
    let same : t % s ≡ m = (ended_answered (fetch_checks f s index t buffer) (t % s) buffer _ m e).1 in
    record {
      moves = sym same;
      place = i;
      entry = (get_d_at (layouts_in f) i [] at).1;
      reached = omega (arith, same);
      written = ap (λ (c : Ended ℕ (List ℕ)). c.buffers) call ∙ ap (λ (k : ℕ). over (get_or (layouts_in f) (i + k) []) buffer) same;
    }

-- 12, of a build: the spacing is in range, the file passes, and there is no tree
module _ (f : List ℕ) (s : ℕ) (index : List ℕ) where
  abbrev first : List Check
  first = file_checks f ++ (spaced s ∷ [])

  within_file : first_unmet first ≡ none → Passes f × (within 1 1000 s ≡ true)
  within_file h = let (ok, e) = unmet_parts (file_checks f) (spaced s ∷ []) h in (ok, (met_all (spaced s ∷ [])).0 e (spaced s) (here refl))

  pub index_none : ((index_call f s index).outcome ≡ refused 12) ↔ (T (within 1 1000 s) × NoTree f)
  unfolding index_call index_checks file_checks first_unmet member any
  index_none =
      let t = twelve f first (check 11 (leb (length (indexed s (layouts_in f)) * width (graph_in f)) (length index)) ∷ []) (λ h. (within_file h).0) refl refl _ index _ in (
        λ h. let (ok, absent) = t.0 h in let (file, right) = within_file ok in ((T_true _).1 right, (file, absent)),
        λ (right, (file, absent)). t.1 (first_unmet_append (file_checks f) (spaced s ∷ []) file ∙ first_unmet_met (spaced s) [] ((T_true _).0 right), absent),
      )

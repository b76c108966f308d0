-- What `front` hands to the search: the chart and the tables of an accepted file that has a tree (`searched`); and the front of the tables' network is the file's (`filled_for`).
use mathlib.Core.Path.{◌∙◌, ◌≡◌, ap, refl, subst, sym}
use mathlib.Core.Bool.{false, true}
use mathlib.Core.List.Memᴰ.{head as here}
use mathlib.Core.List.Memᴰ.{tail as there}
use mathlib.Core.List.{List, [], ◌∷◌, map}
use Prim.Native.Nat.{◌≤◌, ℕ}
use native.Mathlib.Omega.{arith}
use lib.Dec.{T}
use lib.ListN.{length, take}
use lib.Seq.{take_all}
use Rattle.lists.specs.Lists.{first, first_with}
use Rattle.lists.proofs.Maps.{map_same}
use Rattle.lists.proofs.Members.{◌∈◌}
use Rattle.checks.specs.Checks.{Outcome}
use Rattle.graph.specs.Graph.{Graph, is_tree}
use Rattle.graph.specs.Paths.{path_in}
use Rattle.graph.proofs.Tree.{minimal_tree, tree_out}
use Rattle.costs.specs.Costs.{cost_of, front, front_of, front_trees, front_vectors, tree_with}
use Rattle.costs.specs.Network.{Network}
use Rattle.states.proofs.With.{with_mem}
use Rattle.network_file.specs.File.{Sizes, network_of, sizes_of}
use Rattle.network_file.proofs.Accepted.{Accepted}
use Rattle.operations.specs.Operations.{Fronted, layouts_in, open_in}
use Rattle.chart.specs.Chart.{count_in, firsts_in, graph_in, limit_in, list_in, musts_in, seconds_in}
use Rattle.chart.proofs.Charts.{few}
use Rattle.chart.proofs.Laws.{firsts_length}
use Rattle.forests.proofs.Forest.{Forest}
use Rattle.chosen.specs.Chosen.{rows_on}
use Rattle.tally.specs.Kinds.{numbers_of}
use Rattle.tally.specs.Tally.{table_of}
use Rattle.tally.proofs.Same.{same_cost}
use Rattle.find.specs.Find.{Tables}
use Rattle.find.specs.Find as find
use Rattle.costing.specs.Costing.{costs_in, kind_by, kinds_in, leads_in, tops}
use Rattle.costing.proofs.Laws.{free_all, free_lie, musts_forest, musts_on, same_graph, tabled, tables_in, under_top}
use Rattle.completions.specs.Boxes.{inside}
use Rattle.fronted.specs.Filled.{Filled, FilledBy}
use Rattle.sought.specs.Sought.{Copied, Laid, Searched, sought_front, sought_witnesses}
use Rattle.sought.proofs.Padded.{padded_part, seconds_length}

-- the kinds of a file's criteria, as numbers
abbrev pub kinds_for : List ℕ → List ℕ
kinds_for f = numbers_of (map kind_by (kinds_in f))

-- networks that cost the same have the same front of trees, with the same witnesses
module _ (a b : Network) where
  first_same : (v : List ℕ) (trees : List (List ℕ)) → ((p : List ℕ) → p ∈ trees → cost_of a p ≡ cost_of b p) → first_with (cost_of a) v trees ≡ first_with (cost_of b) v trees
  unfolding first
  first_same v [] same = refl
  first_same v (p ∷ trees) same = rw (same p (here refl), first_same v trees (λ q m. same q (there m)))

  module _ (trees : List (List ℕ)) (same : (p : List ℕ) → p ∈ trees → cost_of a p ≡ cost_of b p) where
    vectors_same : front_vectors a trees ≡ front_vectors b trees
    vectors_same = ap front_of (map_same (cost_of a) (cost_of b) trees same)

    trees_same : front_trees a trees ≡ front_trees b trees
    unfolding front_trees tree_with
    trees_same = map_same (tree_with a trees) (tree_with b trees) (front_vectors a trees) (λ v m. ap path_in (first_same v trees same)) ∙ ap (map (tree_with b trees)) vectors_same

module _ {f c : List ℕ} {k : ℕ} (l : Laid f c k) where
  abbrev firsts : List ℕ
  firsts = firsts_in false c

  abbrev seconds : List ℕ
  seconds = seconds_in false c

  abbrev heads : List ℕ
  heads = firsts_in true c

  abbrev table : Graph
  table = find.graph_in firsts seconds (limit_in c)

  abbrev w : Network
  w = table_of (kinds_for f) k (costs_in f) (leads_in f)

  accepted : Accepted f
  accepted = l.listing.lists.file

  first_ends_lem : firsts ≡ (open_in f).first_ends
  first_ends_lem = ap (λ (x : Graph). x.first_ends) l.listing.graph

  second_ends_lem : seconds ≡ (open_in f).second_ends
  second_ends_lem = ap (λ (x : Graph). x.second_ends) l.listing.graph

  all_nodes_lem : limit_in c ≡ (sizes_of f).n
  all_nodes_lem = l.listing.limit ∙ ap (λ (s : Sizes). s.n) l.listing.lists.sizes

  criteria : k ≡ (sizes_of f).k
  criteria = l.criteria ∙ ap (λ (s : Sizes). s.k) l.listing.lists.sizes

  graph_is : table ≡ graph_in c
  graph_is = (rw (first_ends_lem, second_ends_lem, all_nodes_lem)) ∙ same_graph f ∙ sym l.listing.graph

  tables : Tables firsts seconds (limit_in c) k
  tables = rw (first_ends_lem, second_ends_lem, all_nodes_lem, criteria) (tables_in f accepted)

  musts_are : rows_on heads ≡ musts_in c
  musts_are = musts_on heads (omega (arith, firsts_length true c))

  -- the must rows make no ring, and are at most 31
  forest : Forest (open_in f) (musts_in c) × (length (musts_in c) ≤ 31)
  forest = let (p, m) = l.listing.some_tree_lem in rw l.listing.musts (musts_forest f accepted p (subst (λ (x : List (List ℕ)). p ∈ x) l.listing.list m))

  module _ (p : List ℕ) (m : p ∈ list_in c) where
    is_tree_lem : T (is_tree (graph_in c) p)
    is_tree_lem = let wf = l.listing.right.charted.formed in minimal_tree (graph_in c) wf p ((with_mem (graph_in c) wf (musts_in c) p).0 m).0

    same : cost_of w p ≡ cost_of (network_of f) p
    same = same_cost (network_of f) (kinds_for f) k (costs_in f) (leads_in f) (rw criteria (tabled f accepted)) p (tree_out (graph_in c) p is_tree_lem).once
        (λ r i. omega (arith, (tree_out (graph_in c) p is_tree_lem).rows r i, few c))

    under : T (inside (take k tops) (cost_of w p))
    under = rw (same, criteria) (under_top f accepted p (subst (λ (x : Graph). T (is_tree x p)) l.listing.graph is_tree_lem))

  given : Searched c (firsts_in false c) (seconds_in false c) (firsts_in true c) (kinds_for f) k (costs_in f) (leads_in f)
  given = record {
    ready = record { right = l.listing.right; tables = tables; graph_is = graph_is; musts_are = musts_are };
    all_musts = ap (take 31) musts_are ∙ take_all 31 (musts_in c) forest.1;
    footing = record {
      tables = tables;
      forest = subst (λ (x : Graph). Forest x (musts_in c)) (sym (graph_is ∙ l.listing.graph)) forest.0;
      lies = λ r m. free_lie firsts seconds heads (limit_in c) r m;
      all_free = λ r h n. free_all firsts seconds heads (limit_in c) r tables.few_rows h (λ i. n (subst (λ (x : List ℕ). r ∈ x) musts_are i));
    };
    under = under;
  }

  -- the rows' ends are the first places of the arrays
  pub searched : {m : ℕ} {firsts seconds heads : List ℕ} → m ≡ count_in c → Copied c firsts seconds heads
      → Searched c (take m firsts) (take m seconds) (take m heads) (kinds_for f) k (costs_in f) (leads_in f)
  searched {m} count copied =
      let low : m ≤ 256 = omega arith in
      let firsts = padded_part (firsts_in false c) m (firsts_length false c ∙ sym count) low in
      let seconds = padded_part (seconds_in false c) m (seconds_length false c ∙ sym count) low in
      let heads = padded_part (firsts_in true c) m (firsts_length true c ∙ sym count) low in
      rw (copied.first_ends_lem, copied.second_ends_lem, copied.must_firsts_lem, firsts, seconds, heads) given

  -- the front that is sought is the file's
  pub filled_for : {capacity : ℕ} {costs witnesses costs' witnesses' : List ℕ} {r : Outcome Fronted}
      → FilledBy (sought_front c (kinds_for f) k (costs_in f) (leads_in f)) (sought_witnesses c (kinds_for f) k (costs_in f) (leads_in f)) capacity costs witnesses r costs' witnesses'
      → Filled f capacity costs witnesses r costs' witnesses'
  filled_for h =
      let vectors : front_vectors w (list_in c) ≡ front (network_of f) = vectors_same w (network_of f) (list_in c) same ∙ ap (front_vectors (network_of f)) l.listing.list in
      let trees : front_trees w (list_in c) ≡ front_trees (network_of f) (layouts_in f) = trees_same w (network_of f) (list_in c) same ∙ ap (front_trees (network_of f)) l.listing.list in
      rw (← vectors, ← trees) h

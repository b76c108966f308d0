-- The three demands on the library, whole: `demand_1` on every input, `demand_2` of every file that passes, `demand_3` where its network has a tree.
use mathlib.Core.Path.{◌∙◌, ◌≡◌, ap, refl}
use mathlib.Core.Bool.{false}
use mathlib.Core.List.{List, [], ◌++◌, ◌∷◌}
use Prim.Native.Nat.{ℕ}
use lib.Dec.{leb}
use lib.ListN.{length}
use Rattle.lists.specs.Lists.{any, member}
use Rattle.graph.specs.Graph.{width}
use Rattle.graph.proofs.Parts.{part_distinct}
use Rattle.costs.proofs.Layouts.{layouts_part}
use Rattle.network_file.specs.File.{file_checks, network_of, open_of}
use Rattle.operations.specs.Operations.{check, cost_call, cost_checks, drawn_checks, front_call, front_checks, graph_in, order_call, order_checks, page_call, page_checks, reach_call, start_checks, tree_checks}
use Rattle.operations.proofs.Runs.{claim}
use Rattle.charges.specs.Charges.{charge_call, charge_checks}
use Rattle.counts.specs.Count.{count_call, count_checks}
use Rattle.indexes.specs.Index.{entry_checks, fetch_call, fetch_checks, index_call, index_checks}
use Rattle.edge_file.specs.Dimacs.{dimacs_call, edges_call, edges_checks, text_call, text_checks}
use Rattle.edge_file.specs.Text.{edges_of}
use Rattle.surveys.specs.Surveys.{survey_call, survey_checks}
use Rattle.offices.specs.Offices.{Counts, office_call, office_checks}
use Rattle.offices.proofs.Calls.{other_kept}
use Rattle.offices.proofs.Offices.{offices}
use Rattle.demands.specs.Demands.{Demand1, Demand2, Demand3, Passes, Tree, file_numbers, numbers, start_numbers}
use Rattle.demands.proofs.Counts.{count_claim}
use Rattle.demands.proofs.Fronts.{front_claim, front_is_lem}
use Rattle.demands.proofs.Indexes.{fetch_claim, index_claim, index_none}
use Rattle.demands.proofs.Pages.{complete, page_from}
use Rattle.demands.proofs.Refusals.{refuses_checked, refuses_ended, start_order}
use Rattle.demands.proofs.Trees.{drawn, listed_is, path_of_tree, tree_exists, tree_listed, twelve}

-- no check of a start has the number 12
start_others : (start : List ℕ) → member 12 (11 ∷ start_numbers start) ≡ false
unfolding member any
start_others [] = refl
start_others (r ∷ rs) = refl

page_others : (f page start : List ℕ) → member 12 (numbers (check 11 (leb (width (graph_in f)) (length page)) ∷ start_checks (network_of f) start)) ≡ false
page_others f page start = ap (λ (l : List ℕ). member 12 (11 ∷ l)) (start_order (network_of f) start) ∙ start_others start

pub demand_1 : (f rows : List ℕ) (criterion : ℕ) (buffer page start : List ℕ) (spacing : ℕ) (index : List ℕ) (tree : ℕ) (costs witnesses : List ℕ) (office h : ℕ) (counts : Counts)
    (text newer : List ℕ) → Demand1 f rows criterion buffer page start spacing index tree costs witnesses office h counts text newer
unfolding open_of reach_call count_call order_call cost_call charge_call page_call index_call fetch_call front_call office_call dimacs_call edges_call text_call survey_call
    file_checks count_checks order_checks cost_checks charge_checks page_checks index_checks fetch_checks front_checks office_checks edges_checks text_checks survey_checks drawn_checks tree_checks entry_checks
    member any
demand_1 f rows criterion buffer page start spacing index tree costs witnesses office h counts text newer = record {
  opens = refuses_checked (file_checks f) _;
  reaches = refuses_checked (file_checks f) _;
  tallies = refuses_checked (count_checks f) _;
  orders = refuses_ended (order_checks f rows buffer) _ buffer _;
  prices = refuses_ended (cost_checks f rows buffer) _ buffer _;
  charges = refuses_ended (charge_checks f rows criterion buffer) _ buffer _;
  pages = refuses_ended (page_checks f page start) _ page _;
  indexes = refuses_ended (index_checks f spacing index) _ index _;
  fetches = refuses_ended (fetch_checks f spacing index tree buffer) _ buffer _;
  fronts = refuses_ended (front_checks f costs witnesses) _ (record { costs = costs; witnesses = witnesses }) _;
  notes = refuses_ended (office_checks f rows office h counts (record { costs = costs; witnesses = witnesses })) _ (record { costs = costs; witnesses = witnesses }) _;
  reads = refuses_ended (edges_checks (edges_of text) buffer) _ buffer _;
  writes = refuses_ended (text_checks f buffer) _ buffer _;
  surveys = refuses_ended (survey_checks f newer buffer) _ buffer _;
  pages_none = twelve f (file_checks f) _ (λ ok. ok) refl (page_others f page start) _ page _;
  fronts_none = twelve f (file_checks f) _ (λ ok. ok) refl (start_others []) _ (record { costs = costs; witnesses = witnesses }) _;
  indexes_none = index_none f spacing index;
  file_order = refl;
  count_order = refl;
  order_order = refl;
  cost_order = refl;
  charge_order = refl;
  page_order = ap (λ (l : List ℕ). file_numbers ++ (12 ∷ 11 ∷ l)) (start_order (network_of f) start);
  index_order = refl;
  fetch_order = refl;
  front_order = refl;
  read_order = refl;
  write_order = refl;
  survey_order = refl;
  office_order = refl;
}

pub demand_2 : (f : List ℕ) → Passes f → Demand2 f
demand_2 f ok = record {
  exists = tree_exists f ok;
  trees_are_lem = listed_is f ok;
  ascending = (layouts_part (network_of f)).ascending;
  once = part_distinct (layouts_part (network_of f));
  each = path_of_tree f ok;
  counted = count_claim f ok;
  drawn = drawn f ok;
}

pub demand_3 : (f : List ℕ) → Passes f → (rows : List ℕ) → Tree f rows → Demand3 f
demand_3 f ok rows tree =
    let some = (tree_listed f ok).0 (rows, tree) in
    record {
      pages = claim f ok some;
      complete = complete f ok some;
      page_from = page_from f ok;
      indexes = index_claim f;
      fetches = fetch_claim f;
      is_front = front_is_lem f ok;
      fronts = front_claim f ok some;
      offices = offices f ok;
      others_kept = λ rows h counts lent x. let (costs, witnesses) = other_kept f h rows counts lent x in record { costs = costs; witnesses = witnesses };
    }

-- What the chart of a file tells: it is right, with the network's width and list (`right_given`, `leads_given`, `width_read`, `list_read`); where there is a tree its trees
-- can be listed (`walk_given`), from a start that meets its checks on (`start_given`), as one of the list does (`listed_met`), which shows that there is one (`listed_tree`).
use mathlib.Core.Path.{◌∙◌, ◌≡◌, ap, subst, sym}
use mathlib.Core.Bool.{true}
use mathlib.Core.Option.{none}
use mathlib.Core.List.{List}
use Prim.Native.Nat.{pred, ℕ}
use native.Mathlib.Omega.{arith}
use lib.ListN.{length}
use Rattle.lists.proofs.Members.{◌∈◌}
use Rattle.lists.proofs.Tests.{T_true}
use Rattle.checks.specs.Checks.{first_unmet}
use Rattle.chart.proofs.Charts.{Charts}
use Rattle.chart.proofs.Files.{file_charts, file_list, file_width}
use Rattle.chart.specs.Chart.{list_in, width_in}
use Rattle.graph.specs.Graph.{width}
use Rattle.grow.proofs.Leads.{MustsLead, file_leads}
use Rattle.network_file.proofs.Accepted.{Accepted, accepted}
use Rattle.network_file.specs.File.{network_of}
use Rattle.operations.proofs.Exists.{some_in, some_out}
use Rattle.operations.proofs.Files.{formed, node_count_lem}
use Rattle.operations.proofs.Runs.{listed_passes}
use Rattle.operations.specs.Operations.{graph_in, layouts_in, some_tree, start_checks}
use Rattle.pages.proofs.TreePages.{Starts}
use Rattle.fill.specs.Walkable.{Walkable}
use Rattle.start.specs.Start.{ChartOf}
use Rattle.start.proofs.Checks.{start_met}

module _ {f c : List ℕ} (o : ChartOf f c) where
  file : Accepted f
  file = accepted f o.met

  pub right_given : Charts c
  right_given = rw o.made (file_charts f file o.lent o.empty)

  pub leads_given : MustsLead c
  leads_given = rw o.made (file_leads f file o.lent o.empty)

  pub list_read : list_in c ≡ layouts_in f
  list_read = ap list_in o.made ∙ file_list f file o.lent o.empty

  pub width_read : width_in c ≡ width (graph_in f)
  width_read =
      let w : width_in c ≡ pred (length (graph_in f).nodes) = omega (arith, ap width_in o.made, file_width f file o.lent o.empty, node_count_lem f) in w

  pub walk_given : some_tree (layouts_in f) ≡ true → Walkable c
  walk_given e =
      let (tree, listed) = some_out (layouts_in f) ((T_true _).1 e) in
      record {
        right = right_given;
        several = omega (arith, ap width_in o.made, file_width f file o.lent o.empty, file.nodes_low);
        tree = tree;
        listed = subst (λ (l : List (List ℕ)). tree ∈ l) (sym list_read) listed;
      }

  module _ (start : List ℕ) where
    -- a start of the list
    module _ (m : start ∈ list_in c) where
      in_network : start ∈ layouts_in f
      in_network = subst (λ (l : List (List ℕ)). start ∈ l) list_read m

      pub listed_tree : some_tree (layouts_in f) ≡ true
      listed_tree = (T_true _).0 (some_in in_network)

      pub listed_met : first_unmet (start_checks (network_of f) start) ≡ none
      listed_met = listed_passes (network_of f) (formed f file) start in_network

    -- a start that meets its checks
    module _ (ok : first_unmet (start_checks (network_of f) start) ≡ none) where
      pub start_given : Starts (list_in c) start
      start_given = subst (λ (L : List (List ℕ)). Starts L start) (sym list_read) (start_met f o.met start ok)

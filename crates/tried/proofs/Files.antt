-- Trying rows in the chart of an accepted file is checks 8, 9, 10 and 15 of its network (`tried_file`).
use mathlib.Core.Path.{◌∙◌, ◌≡◌, ap, ap₂}
use mathlib.Core.Bool.{Bool, not}
use mathlib.Core.List.{List, [], ◌++◌, ◌∷◌, map, map-map}
use Prim.Native.Nat.{◌-◌, ℕ}
use native.Mathlib.Omega.{arith}
use lib.ListN.{get_or-map, get_or, length-map}
use Rattle.lists.specs.Lists.{all, both, has_all}
use Rattle.lists.proofs.Members.{filter_same}
use Rattle.graph.specs.Graph.{Graph, row_numbers}
use Rattle.checks.specs.Checks.{checked}
use Rattle.costs.specs.Layouts.{barred_at, is_must, keeps_states, must_at}
use Rattle.costs.specs.Network.{Row, graph_of, no_row}
use Rattle.network_file.specs.File.{network_of, sizes_of}
use Rattle.network_file.proofs.Accepted.{Accepted}
use Rattle.chart.specs.Chart.{Blank, file_chart_on}
use Rattle.chart.proofs.Entered.{bare}
use Rattle.chart.proofs.Files.{file_chartable, file_graph, file_limit, file_nodes, file_plant, file_rows, file_width}
use Rattle.chart.proofs.Made.{Chartable}
use Rattle.operations.specs.Operations.{check, drawn_checks, tree_checks}
use Rattle.tried.specs.Answers.{minimal_steps}
use Rattle.tried.specs.Tried.{tried_of}
use Rattle.tried.proofs.Trees.{Drawable, network_in, plain_in, tried_checks_lem}
use Rattle.words.specs.Words.{up_to}

module _ (f : List ℕ) (a : Accepted f) (c : List ℕ) (empty : Blank c) where
  abbrev chart : List ℕ
  chart = file_chart_on f c

  -- a row without its street and its costs has its ends and its state
  row_at_lem : (r : ℕ) → get_or (map bare (network_of f).rows) r no_row ≡ bare (get_or (network_of f).rows r no_row)
  row_at_lem r = get_or-map bare (network_of f).rows r no_row

  bare_able : Chartable (map bare (network_of f).rows) (sizes_of f).n 1 (up_to (sizes_of f).n) ((sizes_of f).n - 1)
  bare_able =
      let able = file_chartable f a in
      let long = length-map (network_of f).rows bare in
      record {
        few = omega (arith, able.few);
        first_high = λ r k. rw (row_at_lem r) (able.first_high r (omega arith));
        second_high = λ r k. rw (row_at_lem r) (able.second_high r (omega arith));
        limit_high = able.limit_high;
        members = able.members;
        plant_in_lem = able.plant_in_lem;
        wide = able.wide;
      }

  drawable : Drawable chart
  drawable = rw (file_rows f a c empty, file_limit f a c empty, file_plant f a c empty, file_nodes f a c empty, file_width f a c empty) bare_able

  plain : plain_in chart ≡ graph_of (network_of f)
  plain =
      let nodes = ap (λ (g : Graph). g.nodes) (file_graph f a c empty) in
      rw (nodes, file_plant f a c empty, file_rows f a c empty) (simp map-map)

  states : (rows : List ℕ) → keeps_states (network_in chart) rows ≡ keeps_states (network_of f) rows
  states rows =
      let musts = filter_same (λ r. is_must (get_or (map bare (network_of f).rows) r no_row).state) (must_at (network_of f)) (row_numbers (graph_of (network_of f)))
      (λ r i. ap (λ (row : Row). is_must row.state) (row_at_lem r)) in
      rw (file_rows f a c empty) (simp (row_at_lem, map-map) (ap (λ (l : List ℕ). both (has_all l rows) (all (λ r. not (barred_at (network_of f) r)) rows)) musts))

  pub tried_file : (rows : List ℕ) → tried_of (file_chart_on f c) rows ≡ checked (drawn_checks (network_of f) rows) (minimal_steps (graph_of (network_of f)) rows)
  unfolding drawn_checks
  tried_file rows = tried_checks_lem chart drawable rows
      ∙ ap₂ (λ (g : Graph) (kept : Bool). checked (tree_checks g rows ++ (check 15 kept ∷ [])) (minimal_steps g rows)) plain (states rows)

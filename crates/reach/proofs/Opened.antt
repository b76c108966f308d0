-- What Reach answers by Open's outcome (`reach_refused`, `reach_answered`).
use mathlib.Core.Path.{◌∙◌, ◌≡◌, ap, ap₂, sym}
use mathlib.Core.List.{List}
use Prim.Native.Nat.{◌%◌, ◌/◌, ℕ}
use lib.Count.{ones}
use lib.ListN.{length}
use Rattle.checks.specs.Checks.{answered, refused}
use Rattle.checks.proofs.Ended.{checked_met, checked_unmet}
use Rattle.graph.specs.Graph.{Graph}
use Rattle.network_file.specs.File.{Sizes, file_checks, open_of}
use Rattle.network_file.proofs.Accepted.{accepted}
use Rattle.network_file.proofs.Opened.{open_answered, open_refused}
use Rattle.chart.specs.Chart.{Blank, file_chart_on}
use Rattle.chart.proofs.Files.{file_charts, file_graph}
use Rattle.operations.specs.Operations.{reach_call, reached_nodes, word_of}
use Rattle.reach.specs.Reached.{reached_word}
use Rattle.reach.proofs.Word.{reached_size, reached_word_lem}

module _ (f : List ℕ) where
  pub reach_refused : (e : ℕ) → refused e ≡ open_of f → refused e ≡ reach_call f
  unfolding reach_call
  reach_refused e told = sym (checked_unmet (file_checks f) _ e (open_refused f e (sym told)))

  -- the chart c that was made of an empty one, and the word of its reached nodes
  pub reach_answered : (s : Sizes) (c₀ c : List ℕ) (reached : ℕ) → answered s ≡ open_of f → Blank c₀ → c ≡ file_chart_on f c₀ → reached ≡ reached_word c
      → answered (record { word = reached / 2 % 4294967296; size = ones (reached / 2 % 4294967296) }) ≡ reach_call f
  unfolding reach_call
  reach_answered s c₀ c reached opened empty made e =
      let met = (open_answered f s (sym opened)).0 in
      let a = accepted f met in
      let right = file_charts f a c₀ empty in
      let graph = file_graph f a c₀ empty in
      rw (e, made) (ap₂ (λ (w n : ℕ). answered (record { word = w; size = n }))
      (reached_word_lem right ∙ ap (λ (g : Graph). word_of (reached_nodes g)) graph) (reached_size right ∙ ap (λ (g : Graph). length (reached_nodes g)) graph)
      ∙ sym (checked_met (file_checks f) _ met))

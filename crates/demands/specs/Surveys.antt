-- A newer survey over an older (document 02, #106), said over the definitions that the contracts cite: which rows stand, what an answered call leaves, and surveys over themselves and over
-- nothing. `surveyed` of proofs/Surveys.antt is its proof.
use Rattle.std.specs.Prelude.{◌≡◌, ◌↔◌, List, [], ◌++◌, ◌*◌, ◌+◌, ◌≤◌, ℕ, T, drop, length, take}
use Rattle.lists.specs.Lists.{filter_b}
use Rattle.lists.proofs.Members.{◌∈◌}
use Rattle.checks.specs.Checks.{answered}
use Rattle.costs.specs.Network.{Network, Row}
use Rattle.network_file.specs.File.{network_of, version}
use Rattle.operations.specs.Operations.{over}
use Rattle.surveys.specs.Surveys.{has_pair, is_pair, survey_call, survey_file, survey_network, survivors}
use Rattle.demands.specs.Demands.{Passes}

-- two files of one frame: the same nodes, and the same kinds in sequence
pub record OneFrame (v w : Network) : Type 0 where
  pub nodes : v.node_count ≡ w.node_count
  pub kinds : v.kinds ≡ w.kinds

-- Which rows stand: an older row exactly if no newer row joins its two ends; the rows of a pair are the newer's if it has one, else the older's, each in their order.
pub record StandClaim (older newer : List Row) : Type 0 where
  pub exactly : (r : Row) → (r ∈ survivors older newer) ↔ ((r ∈ older) × ((q : Row) → q ∈ newer → ¬ T (is_pair r.first_end r.second_end q)))
  pub newer_rows : (u v : ℕ) → T (has_pair u v newer) → filter_b (is_pair u v) (survivors older newer ++ newer) ≡ filter_b (is_pair u v) newer
  pub older_rows : (u v : ℕ) → ¬ T (has_pair u v newer) → filter_b (is_pair u v) (survivors older newer ++ newer) ≡ filter_b (is_pair u v) older

-- A call that is answered, by n bytes: they are a file of version 2 that passes and says the rows that stand, and then the newer's; behind them the buffer is as it was.
pub record SurveyClaim (older newer buffer : List ℕ) (n : ℕ) : Type 0 where
  pub older_passes : Passes older
  pub newer_passes : Passes newer
  pub one_frame : OneFrame (network_of older) (network_of newer)
  pub few : length (survey_network (network_of older) (network_of newer)).rows ≤ 256
  pub second : version (take n (survey_call older newer buffer).buffers) ≡ 2
  pub passes : Passes (take n (survey_call older newer buffer).buffers)
  pub network : network_of (take n (survey_call older newer buffer).buffers) ≡ survey_network (network_of older) (network_of newer)
  pub long : n ≡ 9 + length (network_of older).kinds + length (survey_network (network_of older) (network_of newer)).rows * (5 + 4 * length (network_of older).kinds)
  pub rest : drop n (survey_call older newer buffer).buffers ≡ drop n buffer

pub record Surveys : Type 0 where
  pub stands : (older newer : List Row) → StandClaim older newer
  pub answers : (older newer buffer : List ℕ) (n : ℕ) → (survey_call older newer buffer).outcome ≡ answered n → SurveyClaim older newer buffer n
  -- files of one frame, with rows that fit together, are answered wherever there is room
  pub roomy : (older newer buffer : List ℕ) → Passes older → Passes newer → OneFrame (network_of older) (network_of newer)
      → length (survey_network (network_of older) (network_of newer)).rows ≤ 256 → length (survey_file older newer) ≤ length buffer
      → survey_call older newer buffer ≡ record { outcome = answered (length (survey_file older newer)); buffers = over (survey_file older newer) buffer }
  -- a survey over itself has the same rows, one over an older without rows the newer's, and one without rows the older's
  pub itself : (w : Network) → survey_network w w ≡ w
  pub over_nothing : (v w : Network) → OneFrame v w → v.rows ≡ [] → survey_network v w ≡ w
  pub nothing_over : (v w : Network) → w.rows ≡ [] → survey_network v w ≡ v

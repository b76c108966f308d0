-- The text by its lines: the edge lines of one row more (`lines_none`, `lines_more`), and the whole text as the `p` line and the edge lines of all rows (`text_lines`),
-- by the sizes as they were read; their limits in an accepted file (`sizes_few`).
use mathlib.Core.Path.{◌∙◌, ◌≡◌, ap, ap₂, refl, subst, sym}
use mathlib.Core.Option.{none}
use mathlib.Core.List.{List, [], ◌++◌, ◌∷◌, map}
use Prim.Native.Nat.{◌+◌, ◌<◌, ◌≤◌, ℕ}
use native.Mathlib.Omega.{arith}
use lib.ListN.{length, length-map, take}
use lib.Seq.{take_all}
use Rattle.lists.specs.Lists.{concat_map}
use Rattle.lists.proofs.Maps.{map_at}
use Rattle.lists.proofs.Sequences.{concat_map_take}
use Rattle.checks.specs.Checks.{first_unmet}
use Rattle.costs.specs.Network.{Network, no_row, row_at}
use Rattle.network_file.specs.File.{Sizes, file_checks, network_of, sizes_of}
use Rattle.network_file.proofs.Accepted.{accepted, rows_length}
use Rattle.edge_file.specs.Dimacs.{ends_in, ends_of, text_in}
use Rattle.edge_file.specs.Text.{Ends, edge_line, problem_line, text_of, with_feed}
use Rattle.edge_write.specs.Lines.{edge_lines}

-- an edge's line with its line feed
abbrev pub whole_line : Ends → List ℕ
whole_line e = with_feed (edge_line e)

pub lines_none : (w : Network) → edge_lines w 0 ≡ []
unfolding edge_lines concat_map
lines_none w = refl

pub lines_more : (w : Network) (r : ℕ) → r < length w.rows → edge_lines w (r + 1) ≡ edge_lines w r ++ whole_line (ends_in (row_at w r))
unfolding edge_lines
lines_more w r h =
    concat_map_take whole_line (ends_of w) r (ends_in no_row) (omega (arith, length-map w.rows ends_in))
    ∙ ap (λ (e : Ends). concat_map whole_line (take r (ends_of w)) ++ whole_line e) (map_at ends_in w.rows r no_row (ends_in no_row) h)

-- lines that are made and then ended, and lines that are made ended
lines_ended : (es : List Ends) → concat_map with_feed (map edge_line es) ≡ concat_map whole_line es
unfolding concat_map
lines_ended [] = refl
lines_ended (e ∷ es) = ap (λ (l : List ℕ). whole_line e ++ l) (lines_ended es)

module _ (f : List ℕ) (s : Sizes) (are : s ≡ sizes_of f) where
  ends_are : length (ends_of (network_of f)) ≡ s.m
  ends_are = length-map (network_of f).rows ends_in ∙ rows_length f ∙ ap {B = ℕ} (λ z. z.m) (sym are)

  nodes_are : (network_of f).node_count ≡ s.n
  unfolding network_of
  nodes_are = ap {B = ℕ} (λ z. z.n) (sym are)

  pub text_lines : text_in f ≡ with_feed (problem_line s.n s.m) ++ edge_lines (network_of f) s.m
  unfolding text_in text_of concat_map edge_lines
  text_lines =
      let es = ends_of (network_of f) in
      ap₂ (λ (n m : ℕ). with_feed (problem_line n m) ++ concat_map with_feed (map edge_line es)) nodes_are ends_are
      ∙ ap (λ (l : List ℕ). with_feed (problem_line s.n s.m) ++ l) (lines_ended es ∙ ap (concat_map whole_line) (sym (take_all s.m es (omega (arith, ends_are)))))

  -- the limits of an accepted file's sizes; it has as many rows as it says
  pub sizes_few : first_unmet (file_checks f) ≡ none → (s.n ≤ 32) × (s.m ≤ 256) × (s.m ≤ length (network_of f).rows)
  sizes_few met =
      let a = accepted f met in
      subst (λ (z : Sizes). (z.n ≤ 32) × (z.m ≤ 256) × (z.m ≤ length (network_of f).rows)) (sym are) (a.nodes_high, a.rows_high, omega (arith, a.rows))

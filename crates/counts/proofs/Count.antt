-- THE NUMBER EQUALS THE LIST'S LENGTH: of an accepted file the count by rows is how many trees the list has (`count_listed`), 0 without a tree.
-- Count's answer from what the code counts, which is the count over the matrix of the rows, held (`counted_is`, `count_answered`, `count_refused`).
use mathlib.Core.Path.{◌∙◌, ◌≡◌, ap, refl, sym}
use mathlib.Core.Option.{none}
use mathlib.Core.List.{List}
use Prim.Native.Nat.{◌<◌, ◌≤◌, min, ℕ}
use native.Mathlib.Omega.{arith}
use borrow.Author.Tests.{le-leb, lt-leb}
use lib.ListN.{length, length-map}
use Rattle.lists.proofs.Members.{range_in}
use Rattle.graph.specs.Graph.{first_end, second_end}
use Rattle.checks.specs.Checks.{answered, first_unmet, refused}
use Rattle.checks.proofs.Checks.{first_unmet_append}
use Rattle.checks.proofs.Ended.{checked_met, checked_unmet}
use Rattle.costs.specs.Network.{Network, Row, State}
use Rattle.costs.proofs.Layouts.{end_at, row_count}
use Rattle.network_file.specs.File.{file_checks, network_of, row_in, sizes_of}
use Rattle.network_file.proofs.Accepted.{Accepted, row_in_lem}
use Rattle.operations.specs.Operations.{graph_in, layouts_in}
use Rattle.operations.proofs.Files.{formed}
use Rattle.counts.specs.Count.{count_call, count_checks}
use Rattle.counts.specs.Matrix.{held_total, limit}
use Rattle.counts.specs.States.{empty, fill_held, states_of}
use Rattle.counts.specs.Trees.{tree_count}
use Rattle.counts.proofs.Fill.{Between}
use Rattle.counts.proofs.HeldSteps.{held_start}
use Rattle.counts.proofs.Listed.{tree_counted}
use Rattle.counts.proofs.Rows.{count_rows_lem}
use Rattle.counts.proofs.States.{layouts_kept}

module _ (f : List ℕ) (a : Accepted f) where
  abbrev w : Network
  w = network_of f

  abbrev ss : List State
  ss = states_of w

  long : length ss ≡ length (graph_in f).first_ends
  long = length-map w.rows (λ (row : Row). row.state) ∙ sym (row_count w)

  first : (r : ℕ) → r < (sizes_of f).m → first_end (graph_in f) r ≡ (row_in f r).first_end
  first r l = end_at w (λ x. x.first_end) refl r ∙ ap (λ (x : Row). x.first_end) (row_in_lem f r l)

  second : (r : ℕ) → r < (sizes_of f).m → second_end (graph_in f) r ≡ (row_in f r).second_end
  second r l = end_at w (λ x. x.second_end) refl r ∙ ap (λ (x : Row). x.second_end) (row_in_lem f r l)

  -- the rows of an accepted file lie between different nodes
  pub file_between : Between (graph_in f) (sizes_of f).n
  unfolding network_of
  file_between = record {
    nodes = refl;
    ends = λ r l. let k = known r l in let e = a.ends r k in record {
      first = range_in 1 (sizes_of f).n (first_end (graph_in f) r) (omega (arith, first r k, e.first_low)) (omega (arith, first r k, e.first_high));
      second = range_in 1 (sizes_of f).n (second_end (graph_in f) r) (omega (arith, second r k, e.second_low)) (omega (arith, second r k, e.second_high));
    };
    differ = λ r l d. let k = known r l in (a.ends r k).differ (sym (first r k) ∙ d ∙ second r k);
  }
    where
      known : (r : ℕ) → r < length (graph_in f).first_ends → r < (sizes_of f).m
      known r l = omega (arith, row_count w, a.rows)

  pub count_listed : tree_count w ≡ length (layouts_in f)
  count_listed = count_rows_lem w ∙ tree_counted (graph_in f) file_between.ends (formed f a) ss long ∙ ap length (layouts_kept w)

  -- what the code counts
  pub counted_is : held_total limit 0 1 (fill_held limit (graph_in f) 0 ss empty) (sizes_of f).n ≡ min limit (tree_count w)
  counted_is = held_start limit (graph_in f) (sizes_of f).n file_between ss long ∙ ap (min limit) (sym (count_rows_lem w))

-- Count's outcome, where r is what was counted, held
module _ (f : List ℕ) (ok : first_unmet (file_checks f) ≡ none) (r : ℕ) (e : r ≡ min limit (tree_count (network_of f))) where
  pub count_answered : r ≤ 4000000000 → count_call f ≡ answered r
  unfolding count_call count_checks first_unmet
  count_answered l =
      let same : tree_count (network_of f) ≡ r = omega arith in
      checked_met (count_checks f) (tree_count (network_of f)) (first_unmet_append (file_checks f) _ ok
      ∙ rw (le-leb (tree_count (network_of f)) 4000000000 (omega arith)) refl) ∙ ap answered same

  pub count_refused : 4000000000 < r → count_call f ≡ refused 25
  unfolding count_call count_checks first_unmet
  count_refused l = checked_unmet (count_checks f) (tree_count (network_of f)) 25 (first_unmet_append (file_checks f) _ ok
      ∙ rw (lt-leb (tree_count (network_of f)) 4000000000 (omega arith)) refl)

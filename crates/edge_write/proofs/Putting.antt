-- Lines put into a buffer: a word and two numbers (`line_put`), the edge lines of the first rows (`Rowed`, with its start and turn), and the whole text, written over
-- the first places of a buffer that has room (`text_put`).
use mathlib.Core.Path.{◌∙◌, ◌≡◌, ap, refl, sym}
use mathlib.Core.List.{List, [], ◌++◌, ◌∷◌}
use Prim.Native.Nat.{◌+◌, ◌<◌, ◌≤◌, ℕ}
use native.Mathlib.Omega.{arith}
use lib.ListN.{length}
use Rattle.costs.specs.Network.{Network, row_at}
use Rattle.network_file.specs.File.{Sizes, network_of, sizes_of}
use Rattle.operations.specs.Operations.{over}
use Rattle.printout.specs.Text.{Filled, filled, put}
use Rattle.printout.proofs.Laws.{behind, put_none, put_whole}
use Rattle.edge_file.specs.Dimacs.{ends_in, text_in}
use Rattle.edge_file.specs.Text.{Ends, problem_line, with_feed}
use Rattle.edge_write.specs.Lines.{edge_lines}
use Rattle.edge_write.proofs.Lines.{whole_line, lines_more, lines_none, text_lines}

pub line_put : (out : List ℕ) (at : ℕ) (word a b : List ℕ) {one two three four : List ℕ} {p q r s : ℕ} → filled one p ≡ put out at word → filled two q ≡ put one p (32 ∷ a)
    → filled three r ≡ put two q (32 ∷ b) → filled four s ≡ put three r (10 ∷ []) → filled four s ≡ put out at (((word ++ (32 ∷ a)) ++ (32 ∷ b)) ++ (10 ∷ []))
line_put out at word a b worded first second ended = behind out at _ _ (behind out at _ _ (behind out at word (32 ∷ a) worded first) second) ended

-- the lines of the first r rows stand in the buffer
pub record Rowed (w : Network) (m : ℕ) (out : List ℕ) (from : ℕ) (new : List ℕ) (at r : ℕ) : Type 0 where
  pub few : r ≤ m
  pub long : length new ≡ length out
  pub holds : filled new at ≡ put out from (edge_lines w r)

module _ {w : Network} {m : ℕ} {out : List ℕ} {from : ℕ} where
  pub rowed_start : Rowed w m out from out from 0
  rowed_start = record { few = omega arith; long = refl; holds = put_none out from ∙ ap (put out from) (sym (lines_none w)) }

  -- one line more, of a row's ends as they were read
  pub rowed_turn : {new next : List ℕ} {at end r : ℕ} → Rowed w m out from new at r → r < m → m ≤ length w.rows → (e : Ends) → e ≡ ends_in (row_at w r)
      → length next ≡ length new → filled next end ≡ put new at (whole_line e) → Rowed w m out from next end (r + 1)
  rowed_turn {new} {next} {at} {end} {r} p more there e read kept line = record {
    few = omega arith;
    long = kept ∙ p.long;
    holds =
        behind out from (edge_lines w r) (whole_line e) p.holds line
        ∙ ap (λ (d : Ends). put out from (edge_lines w r ++ whole_line d)) read
        ∙ ap (put out from) (sym (lines_more w r (omega arith)));
  }

pub text_put : (f : List ℕ) (s : Sizes) → s ≡ sizes_of f → (out : List ℕ) {between after : List ℕ} {at end : ℕ} → length (text_in f) ≤ length out
    → filled between at ≡ put out 0 (with_feed (problem_line s.n s.m)) → filled after end ≡ put between at (edge_lines (network_of f) s.m) → after ≡ over (text_in f) out
text_put f s are out fits problem edges =
    ap (λ (x : Filled). x.bytes) (behind out 0 _ _ problem edges ∙ ap (put out 0) (sym (text_lines f s are)) ∙ put_whole out (text_in f) fits)

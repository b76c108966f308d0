-- How long the text is: an edge line (`line_long`), the edge lines of the first rows (`Counted`, with its start and turn), and the whole (`text_long`).
-- An edge line has at most ten bytes.
use mathlib.Core.Path.{◌∙◌, ◌≡◌, ap, ap₂, sym}
use mathlib.Core.List.{List, [], ◌++◌, ◌∷◌}
use Prim.Native.Nat.{◌*◌, ◌+◌, ◌<◌, ◌≤◌, ℕ}
use native.Mathlib.Omega.{arith}
use lib.ListN.{length, length-append}
use Rattle.costs.specs.Network.{Network, row_at}
use Rattle.network_file.specs.File.{Sizes, network_of, sizes_of}
use Rattle.printout.specs.Text.{decimal_of}
use Rattle.edge_file.specs.Dimacs.{ends_in, text_in}
use Rattle.edge_file.specs.Text.{Ends, problem_line, with_feed}
use Rattle.edge_write.specs.Lines.{edge_lines}
use Rattle.edge_write.proofs.Lines.{whole_line, lines_more, lines_none, text_lines}

-- two numbers behind spaces, and a line feed
two_long : (a b : List ℕ) → length ((a ++ (32 ∷ b)) ++ (10 ∷ [])) ≡ length a + length b + 2
two_long a b = omega (arith, length-append (a ++ (32 ∷ b)) (10 ∷ []), length-append a (32 ∷ b))

pub line_long : (e : Ends) → length (whole_line e) ≡ 4 + length (decimal_of e.one) + length (decimal_of e.two)
line_long e = omega (arith, two_long (decimal_of e.one) (decimal_of e.two))

problem_long : (n m : ℕ) → length (with_feed (problem_line n m)) ≡ 9 + length (decimal_of n) + length (decimal_of m)
problem_long n m = omega (arith, two_long (decimal_of n) (decimal_of m))

-- the lines of the first r rows are counted
pub record Counted (w : Network) (m total r : ℕ) : Type 0 where
  pub few : r ≤ m
  pub short : total ≤ r * 10
  pub counts : total ≡ length (edge_lines w r)

module _ {w : Network} {m : ℕ} where
  pub counted_start : Counted w m 0 0
  counted_start = record { few = omega arith; short = omega arith; counts = sym (ap length (lines_none w)) }

  -- one line more, of a row's ends as they were read
  pub counted_turn : {total r : ℕ} → Counted w m total r → r < m → m ≤ length w.rows → (e : Ends) → e ≡ ends_in (row_at w r) → {long : ℕ} → long ≡ length (whole_line e)
      → long ≤ 10 → Counted w m (total + long) (r + 1)
  counted_turn {total} {r} p more there e read {long} counted few = record {
    few = omega arith;
    short = omega (arith, p.short);
    counts =
        ap₂ (λ (k l : ℕ). k + l) p.counts counted
        ∙ sym (length-append (edge_lines w r) (whole_line e))
        ∙ ap (λ (d : Ends). length (edge_lines w r ++ whole_line d)) read
        ∙ ap length (sym (lines_more w r (omega arith)));
  }

pub text_long : (f : List ℕ) (s : Sizes) → s ≡ sizes_of f → length (text_in f) ≡ 9 + length (decimal_of s.n) + length (decimal_of s.m) + length (edge_lines (network_of f) s.m)
text_long f s are =
    let lines = edge_lines (network_of f) s.m in
    ap length (text_lines f s are)
    ∙ length-append (with_feed (problem_line s.n s.m)) lines
    ∙ ap (λ (k : ℕ). k + length lines) (problem_long s.n s.m)

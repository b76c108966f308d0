-- Numbers held at the cap: lines with held numbers say the held edges (`lines_held`), whose checks come to the same (`held_unmet`), and which are the edges themselves where
-- all checks are met (`held_same`). A text has no more lines than bytes (`lines_few`).
use mathlib.Core.Path.{◌∙◌, ◌≡◌, ap, ap₂, refl, subst, sym}
use mathlib.Core.Bool.{Bool, false, not, true}
use mathlib.Core.Option.{Option, none, some}
use mathlib.Core.List.{List, [], ◌∷◌, map}
use Prim.Native.Nat.{◌*◌, ◌+◌, ◌<◌, ◌≤◌, min, suc, ℕ}
use native.Mathlib.Decide.{dec_lt}
use native.Mathlib.Omega.{arith}
use lib.Dec.{T, eqb, eqb→eq, leb, leb→le}
use lib.ListN.{length, length-map}
use Rattle.lists.specs.Lists.{all, both, filter_b, pick, sum}
use Rattle.lists.proofs.Tests.{T-both, T_false, T-same, eq→eqb}
use Rattle.checks.specs.Checks.{first_unmet}
use Rattle.network_file.specs.File.{ends_sound, within}
use Rattle.edge_file.specs.Dimacs.{edge_file, edges_checks, row_of}
use Rattle.edge_file.specs.Text.{Edges, Ends, Line, comment, cons_ends, cons_first, edge, edges_alone, edges_by, edges_in, edges_with, is_content, line_feed, lines_in, lines_of, other, parts_by, problem}
use Rattle.edge_file.proofs.Dimacs.{EdgesMet, read_long}
use Rattle.edge_lines.specs.Reading.{cap, held_ends, held_line, held_lines}

-- What held lines say

abbrev held_list : Option (List Ends) → Option (List Ends)
held_list none = none
held_list (some es) = some (map held_ends es)

abbrev pub held_edges : Edges → Edges
held_edges t = record { nodes = min cap t.nodes; count = min cap t.count; edges = map held_ends t.edges }

abbrev pub held_text : Option Edges → Option Edges
held_text none = none
held_text (some t) = some (held_edges t)

cons_held : (u v : ℕ) (o : Option (List Ends)) → cons_ends (min cap u) (min cap v) (held_list o) ≡ held_list (cons_ends u v o)
cons_held u v none = refl
cons_held u v (some es) = refl

alone_held : (ls : List Line) → edges_alone (filter_b is_content (map held_line ls)) ≡ held_list (edges_alone (filter_b is_content ls))
unfolding edges_alone filter_b
alone_held [] = refl
alone_held (comment ∷ ls) = alone_held ls
alone_held (problem n m ∷ ls) = refl
alone_held (edge u v ∷ ls) = ap (cons_ends (min cap u) (min cap v)) (alone_held ls) ∙ cons_held u v (edges_alone (filter_b is_content ls))
alone_held (other ∷ ls) = refl

with_held : (n m : ℕ) (o : Option (List Ends)) → edges_with (min cap n) (min cap m) (held_list o) ≡ held_text (edges_with n m o)
with_held n m none = refl
with_held n m (some es) = refl

pub lines_held : (ls : List Line) → edges_by (map held_line ls) ≡ held_text (edges_by ls)
unfolding edges_by edges_in filter_b
lines_held [] = refl
lines_held (comment ∷ ls) = lines_held ls
lines_held (problem n m ∷ ls) = ap (edges_with (min cap n) (min cap m)) (alone_held ls) ∙ with_held n m (edges_alone (filter_b is_content ls))
lines_held (edge u v ∷ ls) = refl
lines_held (other ∷ ls) = refl

-- A cap above a limit leaves the tests by that limit as they are

within_held : (low high x : ℕ) → high < cap → within low high (min cap x) ≡ within low high x
within_held low high x h = elim (dec_lt x cap) [
  | yes l ↦ let e : min cap x ≡ x = omega arith in rw e
  | no l ↦ T-same (within low high (min cap x)) (within low high x)
      (λ t. let u = leb→le (min cap x) high ((T-both (leb low (min cap x)) (leb (min cap x) high)).0 t).1 in absurd (omega arith))
      (λ t. let u = leb→le x high ((T-both (leb low x) (leb x high)).0 t).1 in absurd (omega arith))
]

equal_held : (l x : ℕ) → l < cap → eqb l (min cap x) ≡ eqb l x
equal_held l x h = T-same (eqb l (min cap x)) (eqb l x)
    (λ t. let u = eqb→eq l (min cap x) t in eq→eqb l x (omega arith))
    (λ t. let u = eqb→eq l x t in eq→eqb l (min cap x) (omega arith))

-- two ends that are nodes
abbrev sound : ℕ → Ends → Bool
sound n e = ends_sound n (row_of e)

pub sound_high : (n : ℕ) (e : Ends) → T (sound n e) → (e.one ≤ n) × (e.two ≤ n)
sound_high n e t =
    let (x, r) = (T-both (within 1 n e.one) (both (within 1 n e.two) (not (eqb e.one e.two)))).0 t in
    let y = ((T-both (within 1 n e.two) (not (eqb e.one e.two))).0 r).0 in
    (leb→le e.one n ((T-both (leb 1 e.one) (leb e.one n)).0 x).1, leb→le e.two n ((T-both (leb 1 e.two) (leb e.two n)).0 y).1)

-- held ends that lie below the cap are the ends
held_low : (e : Ends) → (held_ends e).one < cap → (held_ends e).two < cap → held_ends e ≡ e
held_low e a b =
    let x : min cap e.one ≡ e.one = omega arith in
    let y : min cap e.two ≡ e.two = omega arith in
    ap₂ (λ (u v : ℕ). record { one = u; two = v }) x y

sound_held : (n : ℕ) (e : Ends) → n < cap → sound n (held_ends e) ≡ sound n e
sound_held n e h = T-same (sound n (held_ends e)) (sound n e)
    (λ t. let (a, b) = sound_high n (held_ends e) t in subst (λ (x : Ends). T (sound n x)) (held_low e (omega arith) (omega arith)) t)
    (λ t. let (a, b) = sound_high n e t in subst (λ (x : Ends). T (sound n x)) (sym (held_low e (omega arith) (omega arith))) t)

all_held : (n : ℕ) → n < cap → (es : List Ends) → all (ends_sound n) (map row_of (map held_ends es)) ≡ all (ends_sound n) (map row_of es)
unfolding all
all_held n h [] = refl
all_held n h (e ∷ es) = ap₂ both (sound_held n e h) (all_held n h es)

-- CHECKS: those of held edges come to the same
module _ (t : Edges) (buffer : List ℕ) (few : length t.edges < cap) where
  same_count : eqb (length (map held_ends t.edges)) (min cap t.count) ≡ eqb (length t.edges) t.count
  same_count = ap (λ (n : ℕ). eqb n (min cap t.count)) (length-map t.edges held_ends) ∙ equal_held (length t.edges) t.count few

  same_sizes : both (within 2 32 (min cap t.nodes)) (within 0 256 (min cap t.count)) ≡ both (within 2 32 t.nodes) (within 0 256 t.count)
  same_sizes = ap₂ both (within_held 2 32 t.nodes (omega arith)) (within_held 0 256 t.count (omega arith))

  same_long : length (edge_file (held_edges t)) ≡ length (edge_file t)
  same_long = read_long (held_edges t) ∙ ap (λ (n : ℕ). 10 + n * 8) (length-map t.edges held_ends) ∙ sym (read_long t)

  pub held_unmet : first_unmet (edges_checks (some (held_edges t)) buffer) ≡ first_unmet (edges_checks (some t) buffer)
  unfolding first_unmet edges_checks
  held_unmet = elim (dec_lt 32 t.nodes) [
    | yes l ↦
        let above : both (within 2 32 t.nodes) (within 0 256 t.count) ≡ false
        = (T_false (both (within 2 32 t.nodes) (within 0 256 t.count))).0 (λ s.
        let high = leb→le t.nodes 32 ((T-both (leb 2 t.nodes) (leb t.nodes 32)).0 ((T-both (within 2 32 t.nodes) (within 0 256 t.count)).0 s).0).1 in omega arith) in
        rw (same_count, same_sizes, above)
    | no l ↦
        let nodes : min cap t.nodes ≡ t.nodes = omega arith in
        rw (same_count, same_sizes, same_long, nodes, all_held t.nodes (omega arith) t.edges)
  ]

-- SAME: where all are met no number was held
all_low : (n : ℕ) → n < cap → (es : List Ends) → T (all (ends_sound n) (map row_of es)) → map held_ends es ≡ es
unfolding all
all_low n h [] t = refl
all_low n h (e ∷ es) t =
    let (first, others) = (T-both (ends_sound n (row_of e)) (all (ends_sound n) (map row_of es))).0 t in
    let (a, b) = sound_high n e first in
    ap₂ {C = List Ends} (λ x l. x ∷ l) (held_low e (omega arith) (omega arith)) (all_low n h es others)

pub held_same : {t : Edges} {buffer : List ℕ} → EdgesMet t buffer → held_edges t ≡ t
held_same {t} {buffer} m =
    let high = leb→le t.nodes 32 ((T-both (leb 2 t.nodes) (leb t.nodes 32)).0 m.nodes).1 in
    let rows = leb→le t.count 256 ((T-both (leb 0 t.count) (leb t.count 256)).0 m.rows).1 in
    let nodes : min cap t.nodes ≡ t.nodes = omega arith in
    let count : min cap t.count ≡ t.count = omega arith in
    rw (nodes, count, all_low t.nodes (omega arith) t.edges m.ends)

-- FEW: a text has no more lines than bytes
abbrev total : List (List ℕ) → ℕ
total parts = sum (map length parts)

first_long : (b : ℕ) (parts : List (List ℕ)) → 1 ≤ length parts → (length (cons_first b parts) ≡ length parts) × (total (cons_first b parts) ≡ total parts + 1)
unfolding sum
first_long b [] h = absurd (omega arith)
first_long b (p ∷ ps) h = (refl, omega arith)

parts_long : (s : ℕ) (l : List ℕ) → (1 ≤ length (parts_by s l)) × (total (parts_by s l) + length (parts_by s l) ≡ length l + 1)
unfolding parts_by sum
parts_long s [] = (omega arith, refl)
parts_long s (b ∷ l) = go (eqb b s) (parts_long s l)
  where
    go : (t : Bool) → (1 ≤ length (parts_by s l)) × (total (parts_by s l) + length (parts_by s l) ≡ length l + 1)
        → let ps = pick t ([] ∷ parts_by s l) (cons_first b (parts_by s l)) in (1 ≤ length ps) × (total ps + length ps ≡ suc (length l) + 1)
    go true (least, long) = (omega arith, omega arith)
    go false (least, long) = let (same, more) = first_long b (parts_by s l) least in (omega arith, omega arith)

lines_short : (parts : List (List ℕ)) → 1 ≤ length parts → length (lines_in parts) + 1 ≤ total parts + length parts
unfolding lines_in sum
lines_short [] h = absurd (omega arith)
lines_short ([] ∷ []) h = omega arith
lines_short ((b ∷ bytes) ∷ []) h = omega arith
lines_short (p ∷ q ∷ ps) h = omega (arith, lines_short (q ∷ ps) (omega arith))

pub lines_few : (text : List ℕ) → length (lines_of text) ≤ length text
unfolding lines_of
lines_few text = let (least, long) = parts_long line_feed text in omega (arith, lines_short (parts_by line_feed text) least)

pub held_few : (text : List ℕ) → length (held_lines text) ≤ length text
held_few text = omega (arith, length-map (lines_of text) held_line, lines_few text)

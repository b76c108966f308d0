-- One pass over lines decides check 16 and gives the numbers (`scan_lines_lem`); it counts no more edges than there are lines (`scan-few`). The edge lines' bytes are
-- those of the edges, in sequence (`seen_bytes`).
use mathlib.Core.Path.{◌∙◌, ◌≡◌, ap, ap₂, refl, sym}
use mathlib.Core.Bool.{Bool, ◌&&◌, ◌||◌, false, not, true}
use mathlib.Core.Option.{Option, none-ne-some, some-injective, none, some}
use mathlib.Core.List.{List, [], ◌++◌, ◌∷◌, map}
use Prim.Native.Nat.{◌+◌, ◌≤◌, suc, ℕ}
use native.Mathlib.Omega.{arith}
use lib.ListN.{length}
use Rattle.lists.specs.Lists.{all, concat_map, filter_b}
use Rattle.network_file.specs.File.{ends_sound}
use Rattle.edge_file.specs.Dimacs.{row_of}
use Rattle.edge_file.specs.Text.{Edges, Ends, Line, comment, cons_ends, edge, edges_alone, edges_by, edges_in, edges_with, is_content, other, problem}
use Rattle.edge_read.specs.Scan.{Scan, line_bytes, scan_line, scan_lines, scan_start, sound_ends}

-- a scan with no fault so far, behind the `p` line
abbrev after : ℕ → ℕ → ℕ → Bool → Scan
after n m e b = record { bad = false; seen = true; nodes = n; count = m; edges = e; sound = b }

abbrev all_sound : ℕ → List Ends → Bool
all_sound n es = all (ends_sound n) (map row_of es)

bad_stays : (s : Scan) (ls : List Line) → s.bad ≡ true → (scan_lines s ls).bad ≡ true
unfolding scan_lines
bad_stays s [] e = e
bad_stays s (comment ∷ ls) e = bad_stays s ls e
bad_stays s (problem n m ∷ ls) e = bad_stays (scan_line s (problem n m)) ls (ap {B = Bool} (λ b. b || s.seen) e)
bad_stays s (edge u v ∷ ls) e = bad_stays (scan_line s (edge u v)) ls (ap {B = Bool} (λ b. b || not s.seen) e)
bad_stays s (other ∷ ls) e = bad_stays (scan_line s other) ls refl

-- behind the `p` line
abbrev ScanEnds : Option (List Ends) → ℕ → ℕ → ℕ → Bool → Scan → Type 0
ScanEnds none n m e b r = r.bad ≡ true
ScanEnds (some es) n m e b r = r ≡ after n m (e + length es) (b && all_sound n es)

one_more : (o : Option (List Ends)) (u v n m e : ℕ) (b : Bool) (r : Scan) → ScanEnds o n m (suc e) (b && sound_ends n u v) r → ScanEnds (cons_ends u v o) n m e b r
unfolding all
one_more none u v n m e b r h = h
one_more (some es) u v n m e b r h = h ∙ ap₂ {C = Scan} (after n m) (omega arith) (both_on b)
  where
    both_on : (b : Bool) → ((b && sound_ends n u v) && all_sound n es) ≡ (b && (sound_ends n u v && all_sound n es))
    both_on true = refl
    both_on false = refl

scan_ends : (ls : List Line) (n m e : ℕ) (b : Bool) → ScanEnds (edges_alone (filter_b is_content ls)) n m e b (scan_lines (after n m e b) ls)
unfolding scan_lines edges_alone filter_b all
scan_ends [] n m e b = ap₂ {C = Scan} (after n m) (omega arith) (and-true b)
  where
    and-true : (b : Bool) → b ≡ (b && true)
    and-true true = refl
    and-true false = refl
scan_ends (comment ∷ ls) n m e b = scan_ends ls n m e b
scan_ends (problem a c ∷ ls) n m e b = bad_stays _ ls refl
scan_ends (edge u v ∷ ls) n m e b = one_more (edges_alone (filter_b is_content ls)) u v n m e b _ (scan_ends ls n m (suc e) (b && sound_ends n u v))
scan_ends (other ∷ ls) n m e b = bad_stays _ ls refl

-- what a scan says of what lines say: check 16 is not met, or the numbers
abbrev pub Scanned : Option Edges → Scan → Type 0
Scanned none s = (not s.bad && s.seen) ≡ false
Scanned (some t) s = s ≡ after t.nodes t.count (length t.edges) (all_sound t.nodes t.edges)

bad_scanned : (s : Scan) → s.bad ≡ true → (not s.bad && s.seen) ≡ false
bad_scanned s e = ap {B = Bool} (λ b. not b && s.seen) e

with_ends : (o : Option (List Ends)) (n m : ℕ) (r : Scan) → ScanEnds o n m 0 true r → Scanned (edges_with n m o) r
with_ends none n m r h = bad_scanned r h
with_ends (some es) n m r h = h ∙ ap (λ (x : ℕ). after n m x (all_sound n es)) (omega arith)

-- SCAN: one pass over the lines says whether check 16 is met, and then the numbers
pub scan_lines_lem : (ls : List Line) → Scanned (edges_by ls) (scan_lines scan_start ls)
unfolding scan_lines edges_by edges_in filter_b
scan_lines_lem [] = refl
scan_lines_lem (comment ∷ ls) = scan_lines_lem ls
scan_lines_lem (problem n m ∷ ls) = with_ends (edges_alone (filter_b is_content ls)) n m _ (scan_ends ls n m 0 true)
scan_lines_lem (edge u v ∷ ls) = bad_scanned (scan_lines _ ls) (bad_stays _ ls refl)
scan_lines_lem (other ∷ ls) = bad_scanned (scan_lines _ ls) (bad_stays _ ls refl)

-- The edges among lines

cons_some : (u v : ℕ) (o : Option (List Ends)) (es : List Ends) → cons_ends u v o ≡ some es
    → (rest : List Ends) × (o ≡ some rest) × (es ≡ record { one = u; two = v } ∷ rest)
cons_some u v none es e = absurd (none-ne-some es e)
cons_some u v (some l) es e = (l, refl, sym (some-injective _ _ e))

-- the bytes of an edge line, by its ends
abbrev pub wrapped : Ends → List ℕ
wrapped e = line_bytes (edge e.one e.two)

-- lines that are edges alone, but for comments, have no more edges than lines, and their bytes
alone_seen : (ls : List Line) (es : List Ends) → edges_alone (filter_b is_content ls) ≡ some es → (length es ≤ length ls) × (concat_map line_bytes ls ≡ concat_map wrapped es)
unfolding edges_alone filter_b concat_map
alone_seen [] es e = rw (sym (some-injective _ _ e)) (omega arith, refl)
alone_seen (comment ∷ ls) es e = let (few, same) = alone_seen ls es e in (omega arith, same)
alone_seen (problem n m ∷ ls) es e = absurd (none-ne-some es e)
alone_seen (edge u v ∷ ls) es e =
    let (rest, f, q) = cons_some u v (edges_alone (filter_b is_content ls)) es e in
    let (few, same) = alone_seen ls rest f in
    rw q (omega arith, ap (λ (l : List ℕ). line_bytes (edge u v) ++ l) same)
alone_seen (other ∷ ls) es e = absurd (none-ne-some es e)

with_some : (n m : ℕ) (o : Option (List Ends)) (t : Edges) → edges_with n m o ≡ some t → o ≡ some t.edges
with_some n m none t e = absurd (none-ne-some t e)
with_some n m (some es) t e = ap {B = Option (List Ends)} (λ x. some x.edges) (some-injective _ t e)

-- SEEN: a second pass meets the edges in sequence
pub lines_seen : (ls : List Line) (t : Edges) → edges_by ls ≡ some t → (length t.edges ≤ length ls) × (concat_map line_bytes ls ≡ concat_map wrapped t.edges)
unfolding edges_by edges_in filter_b concat_map
lines_seen [] t e = absurd (none-ne-some t e)
lines_seen (comment ∷ ls) t e = let (few, same) = lines_seen ls t e in (omega arith, same)
lines_seen (problem n m ∷ ls) t e = let (few, same) = alone_seen ls t.edges (with_some n m (edges_alone (filter_b is_content ls)) t e) in (omega arith, same)
lines_seen (edge u v ∷ ls) t e = absurd (none-ne-some t e)
lines_seen (other ∷ ls) t e = absurd (none-ne-some t e)

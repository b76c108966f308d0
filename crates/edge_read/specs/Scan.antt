-- What one pass over the lines of a text comes to (`scan_lines`), the checks by it (`scan_checks`), and the bytes that a second pass writes (`line_bytes`).
-- `proofs/Scans.antt` ties them to what the text says.
use Rattle.std.specs.Prelude.{Bool, ◌&&◌, ◌||◌, false, not, true, List, [], ◌++◌, ◌∷◌, ◌%◌, ◌*◌, ◌+◌, suc, ℕ, eqb, leb}
use Rattle.checks.specs.Checks.{Check}
use Rattle.network_file.specs.Bytes.{u16_bytes, u32_bytes}
use Rattle.network_file.specs.File.{ends_sound, within}
use Rattle.operations.specs.Operations.{check}
use Rattle.edge_file.specs.Dimacs.{row_of}
use Rattle.edge_file.specs.Text.{Line, comment, edge, other, problem}

-- What the lines have said so far: one was of no form, or in the wrong place (`bad`); the `p` line was met, with its numbers; so many edge lines; their ends
-- are nodes, and differ (`sound`)
pub record Scan : Type 0 where
  pub bad : Bool
  pub seen : Bool
  pub nodes : ℕ
  pub count : ℕ
  pub edges : ℕ
  pub sound : Bool

-- two ends are nodes 1 to n, and they differ
abbrev pub sound_ends : ℕ → ℕ → ℕ → Bool
sound_ends n u v = ends_sound n (row_of (record { one = u; two = v }))

abbrev pub scan_line : Scan → Line → Scan
scan_line s comment = s
scan_line s (problem n m) = record { bad = s.bad || s.seen; seen = true; nodes = n; count = m; edges = s.edges; sound = s.sound }
scan_line s (edge u v) = record {
  bad = s.bad || not s.seen;
  seen = s.seen;
  nodes = s.nodes;
  count = s.count;
  edges = suc s.edges;
  sound = s.sound && sound_ends s.nodes u v;
}
scan_line s other = record { bad = true; seen = s.seen; nodes = s.nodes; count = s.count; edges = s.edges; sound = s.sound }

unfoldable pub scan_lines : Scan → List Line → Scan
scan_lines s [] = s
scan_lines s (l ∷ ls) = scan_lines (scan_line s l) ls

abbrev pub scan_start : Scan
scan_start = record { bad = false; seen = false; nodes = 0; count = 0; edges = 0; sound = true }

-- the length of the file, by the number of its rows
abbrev pub file_length : ℕ → ℕ
file_length m = 10 + m * 8

-- the checks of reading, by the scan of a text and the places of the buffer
unfoldable pub scan_checks : Scan → ℕ → List Check
scan_checks s places =
    check 16 (not s.bad && s.seen)
    ∷ check 17 (eqb s.edges s.count)
    ∷ check 3 (within 2 32 s.nodes && within 0 256 s.count)
    ∷ check 6 s.sound
    ∷ check 11 (leb (file_length s.edges) places)
    ∷ []

-- the file's first ten bytes, by its nodes and rows
abbrev pub head_bytes : ℕ → ℕ → List ℕ
head_bytes n m = 1 ∷ (u32_bytes (5 + m * 8) ++ (n ∷ (u16_bytes m ++ (1 ∷ 0 ∷ []))))

-- the eight bytes of a line's row; a line that is no edge line has none
abbrev pub line_bytes : Line → List ℕ
line_bytes (edge u v) = u % 256 ∷ v % 256 ∷ 0 ∷ 0 ∷ 0 ∷ 0 ∷ 0 ∷ 1 ∷ []
line_bytes comment = []
line_bytes (problem n m) = []
line_bytes other = []

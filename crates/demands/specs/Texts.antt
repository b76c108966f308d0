-- DIMACS edge files (document 02, #104), said over the definitions that the contracts cite: what a text that was read leaves, what is written for a file that passes, and that reading our own
-- text gives the same nodes and ends, in sequence. `texts` of proofs/Texts.antt is its proof.
use Rattle.std.specs.Prelude.{◌≡◌, List, [], ◌∷◌, map, ◌*◌, ◌+◌, ◌≤◌, ℕ, drop, length, take}
use Rattle.std.proofs.Math.Option.{some}
use Rattle.lists.specs.Lists.{all, both}
use Rattle.checks.specs.Checks.{answered, first_unmet}
use Rattle.network_file.specs.File.{ends_sound, file_checks, network_of, within}
use Rattle.operations.specs.Operations.{check, over}
use Rattle.edge_file.specs.Dimacs.{dimacs_call, edge_file, edge_network, ends_of, row_of, text_call, text_in}
use Rattle.edge_file.specs.Text.{Edges, edges_of}
use Rattle.demands.specs.Demands.{Passes}

-- a text that was read, into n bytes: they are a file that passes and says the text's network, with one added criterion, each cost 1, street 0, rows in file order; behind them the buffer is as it was
pub record ReadClaim (text buffer : List ℕ) (n : ℕ) : Type 0 where
  pub said : Edges
  pub says : edges_of text ≡ some said
  pub counted : length said.edges ≡ said.count
  pub passes : Passes (take n (dimacs_call text buffer).buffers)
  pub network : network_of (take n (dimacs_call text buffer).buffers) ≡ edge_network said
  pub rest : drop n (dimacs_call text buffer).buffers ≡ drop n buffer

-- a file that was written as text, of n bytes: it passes, and the text says its nodes and its rows' ends, in sequence; behind it the buffer is as it was
pub record WriteClaim (f buffer : List ℕ) (n : ℕ) : Type 0 where
  pub passes : Passes f
  pub written : take n (text_call f buffer).buffers ≡ text_in f
  pub says : edges_of (text_in f) ≡ some (record { nodes = (network_of f).node_count; count = length (ends_of (network_of f)); edges = ends_of (network_of f) })
  pub rest : drop n (text_call f buffer).buffers ≡ drop n buffer

-- our own text, read again: it is answered wherever there is room
pub record AgainClaim (f buffer : List ℕ) : Type 0 where
  pub file : List ℕ
  pub long : length file ≡ 10 + length (ends_of (network_of f)) * 8
  pub reads : length file ≤ length buffer → dimacs_call (text_in f) buffer ≡ record { outcome = answered (length file); buffers = over file buffer }
  pub nodes : (network_of file).node_count ≡ (network_of f).node_count
  pub ends : ends_of (network_of file) ≡ ends_of (network_of f)

pub record Texts : Type 0 where
  pub reads : (text buffer : List ℕ) (n : ℕ) → (dimacs_call text buffer).outcome ≡ answered n → ReadClaim text buffer n
  pub writes : (f buffer : List ℕ) (n : ℕ) → (text_call f buffer).outcome ≡ answered n → WriteClaim f buffer n
  pub again : (f buffer : List ℕ) → Passes f → AgainClaim f buffer
  -- 3 and 6, asked of numbers of any length, are what the file's own checks come to
  pub own : (t : Edges) → length t.edges ≡ t.count → first_unmet (file_checks (edge_file t))
      ≡ first_unmet (check 3 (both (within 2 32 t.nodes) (within 0 256 t.count)) ∷ check 6 (all (ends_sound t.nodes) (map row_of t.edges)) ∷ [])

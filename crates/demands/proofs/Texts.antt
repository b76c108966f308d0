-- DIMACS edge files: what reading and writing leave, and reading our own text (`texts`).
use mathlib.Core.Path.{◌∙◌, ◌≡◌, ap, refl, sym}
use mathlib.Core.Option.{Option, none-ne-some, none, some}
use mathlib.Core.List.{List}
use Prim.Native.Nat.{ℕ}
use lib.ListN.{drop, length, take}
use Rattle.checks.specs.Checks.{Ended, answered, first_unmet}
use Rattle.checks.proofs.Ended.{ended_answered, ended_met, unmet_parts}
use Rattle.operations.specs.Operations.{over}
use Rattle.operations.proofs.Over.{over_drop, over_take}
use Rattle.edge_file.specs.Dimacs.{dimacs_call, edge_file, edges_call, edges_checks, edges_or, ends_of, text_call, text_checks, text_in}
use Rattle.edge_file.specs.Text.{Edges, edges_of}
use Rattle.edge_file.proofs.Dimacs.{again, again_ends, again_long, again_nodes, again_read, edges_met, own_checks_lem, read_accepted}
use Rattle.edge_file.proofs.Text.{read_back_lem}
use Rattle.network_file.specs.File.{file_checks, network_of}
use Rattle.demands.specs.Demands.{Passes}
use Rattle.demands.specs.Texts.{AgainClaim, ReadClaim, Texts, WriteClaim}

module _ (text buffer : List ℕ) (n : ℕ) (e : (dimacs_call text buffer).outcome ≡ answered n) where
  call_is : (o : Option Edges) → edges_of text ≡ o → dimacs_call text buffer ≡ edges_call o buffer
  unfolding dimacs_call
  call_is o f = ap (λ (x : Option Edges). edges_call x buffer) f

  met_is : (o : Option Edges) → edges_of text ≡ o → (first_unmet (edges_checks o buffer) ≡ none) × (length (edge_file (edges_or o)) ≡ n)
  unfolding edges_call
  met_is o f =
      let file = edge_file (edges_or o) in
      ended_answered (edges_checks o buffer) (length file) buffer (over file buffer) n (sym (ap (λ (c : Ended ℕ (List ℕ)). c.outcome) (call_is o f)) ∙ e)

  read_said : (t : Edges) → edges_of text ≡ some t → ReadClaim text buffer n
  unfolding edges_call
  read_said t f =
      let (met, long) = met_is (some t) f in
      let left : (dimacs_call text buffer).buffers ≡ over (edge_file t) buffer
      = ap (λ (c : Ended ℕ (List ℕ)). c.buffers) (call_is (some t) f ∙ ended_met (edges_checks (some t) buffer) (length (edge_file t)) buffer (over (edge_file t) buffer) met) in
      let file : take n (dimacs_call text buffer).buffers ≡ edge_file t = ap (take n) left ∙ over_take (edge_file t) buffer long in
      let (passes, network) = read_accepted t buffer met in
      record {
        said = t;
        says = f;
        counted = (edges_met t buffer met).counted;
        passes = ap (λ (x : List ℕ). first_unmet (file_checks x)) file ∙ passes;
        network = ap network_of file ∙ network;
        rest = ap (drop n) left ∙ over_drop (edge_file t) buffer long;
      }

  pub read_claim : ReadClaim text buffer n
  unfolding first_unmet edges_checks
  read_claim = go (edges_of text) refl
    where
      go : (o : Option Edges) → edges_of text ≡ o → ReadClaim text buffer n
      go none f = absurd (none-ne-some 16 (sym (met_is none f).0))
      go (some t) f = read_said t f

write_claim : (f buffer : List ℕ) (n : ℕ) → (text_call f buffer).outcome ≡ answered n → WriteClaim f buffer n
unfolding text_call text_checks text_in
write_claim f buffer n e =
    let (met, long) = ended_answered (text_checks f buffer) (length (text_in f)) buffer (over (text_in f) buffer) n e in
    let left : (text_call f buffer).buffers ≡ over (text_in f) buffer
    = ap (λ (c : Ended ℕ (List ℕ)). c.buffers) (ended_met (text_checks f buffer) (length (text_in f)) buffer (over (text_in f) buffer) met) in
    record {
      passes = (unmet_parts (file_checks f) _ met).0;
      written = ap (take n) left ∙ over_take (text_in f) buffer long;
      says = read_back_lem (network_of f).node_count (ends_of (network_of f));
      rest = ap (drop n) left ∙ over_drop (text_in f) buffer long;
    }

again_claim : (f buffer : List ℕ) → Passes f → AgainClaim f buffer
again_claim f buffer ok = record {
  file = again f ok;
  long = again_long f ok;
  reads = again_read f ok buffer;
  nodes = again_nodes f ok;
  ends = again_ends f ok;
}

pub texts : Texts
texts = record { reads = read_claim; writes = write_claim; again = again_claim; own = own_checks_lem }

-- What reading writes is a file that Open accepts, and it says the text's network (`read_accepted`); 3 and 6 are what its own checks come to (`own_checks_lem`).
-- Reading the text of an accepted network is answered, and gives the same nodes and ends, in sequence (`again_read`, `again_nodes`, `again_ends`).
use mathlib.Core.Path.{◌∙◌, ◌≡◌, ap, refl, subst, sym}
use mathlib.Core.Logic.{inl}
use mathlib.Core.Bool.{Bool, false, true}
use mathlib.Core.Option.{Option, none, some}
use mathlib.Core.List.Memᴰ.{head as here}
use mathlib.Core.List.Memᴰ.{of_map as map_out}
use mathlib.Core.List.Memᴰ.{tail as there}
use mathlib.Core.List.{List, [], ◌∷◌, map}
use Prim.Native.Nat.{◌*◌, ◌+◌, ◌≤◌, ℕ}
use native.Mathlib.Omega.{arith}
use lib.Dec.{T, eqb, eqb→eq, leb, leb→le, le→leb}
use lib.ListN.{length, length-map}
use Rattle.lists.specs.Lists.{all, both, pick}
use Rattle.lists.proofs.Members.{◌∈◌, all_in, all_out}
use Rattle.lists.proofs.Tests.{T-both, T_true, eq→eqb}
use Rattle.checks.specs.Checks.{Check, answered, first_unmet}
use Rattle.checks.proofs.Checks.{met_all}
use Rattle.checks.proofs.Ended.{ended_met}
use Rattle.costs.specs.Network.{Network, Row, State}
use Rattle.network_file.specs.File.{costs_sound, ends_met, ends_sound, file_checks, network_of, within}
use Rattle.network_file.proofs.Accepted.{Accepted, accepted}
use Rattle.network_file.proofs.Bytes.{Limits, Sayable, file_checks_lem, file_long, file_met, file_network}
use Rattle.operations.specs.Operations.{check, over}
use Rattle.edge_file.specs.Dimacs.{dimacs_call, edge_file, edge_network, edges_call, edges_checks, ends_in, ends_of, row_of, text_in}
use Rattle.edge_file.specs.Text.{Edges, Ends}
use Rattle.edge_file.proofs.Text.{read_back_lem}

-- The network of an edge list

edge_sayable : (t : Edges) → Sayable 1 (edge_network t)
edge_sayable t = record {
  known = inl refl;
  wide = λ r m. let (e, _, q) = map_out row_of t.edges m in ap {B = ℕ} (λ x. length x.costs) (sym q);
  opened = λ r m _. let (e, _, q) = map_out row_of t.edges m in ap {B = State} (λ x. x.state) (sym q);
}

edge_costs : (es : List Ends) → T (all costs_sound (map row_of es))
unfolding all
edge_costs [] = tt
edge_costs (e ∷ es) = edge_costs es

-- what the checks of a text come to where all are met
pub record EdgesMet (t : Edges) (buffer : List ℕ) : Type 0 where
  pub counted : length t.edges ≡ t.count
  pub nodes : T (within 2 32 t.nodes)
  pub rows : T (within 0 256 t.count)
  pub ends : T (all (ends_sound t.nodes) (map row_of t.edges))
  pub room : length (edge_file t) ≤ length buffer

module _ (t : Edges) (buffer : List ℕ) (h : first_unmet (edges_checks (some t) buffer) ≡ none) where
  met : (c : Check) → c ∈ edges_checks (some t) buffer → T c.met
  met c m = (T_true c.met).1 ((met_all (edges_checks (some t) buffer)).0 h c m)

  pub edges_met : EdgesMet t buffer
  unfolding edges_checks
  edges_met =
      let (nodes, rows) = (T-both (within 2 32 t.nodes) (within 0 256 t.count)).0 (met (check 3 (both (within 2 32 t.nodes) (within 0 256 t.count))) (there (there (here refl)))) in
      record {
        counted = eqb→eq (length t.edges) t.count (met (check 17 (eqb (length t.edges) t.count)) (there (here refl)));
        nodes = nodes;
        rows = rows;
        ends = met (check 6 (all (ends_sound t.nodes) (map row_of t.edges))) (there (there (there (here refl))));
        room = leb→le (length (edge_file t)) (length buffer) (met (check 11 (leb (length (edge_file t)) (length buffer))) (there (there (there (there (here refl))))));
      }

  edge_limits : Limits (edge_network t)
  edge_limits = record {
    nodes = edges_met.nodes;
    rows = subst (λ (m : ℕ). T (within 0 256 m)) (sym (length-map t.edges row_of ∙ edges_met.counted)) edges_met.rows;
    criteria = tt;
    ends = edges_met.ends;
    costs = edge_costs t.edges;
  }

  -- ACCEPTED: the file is one that Open accepts, and says the text's network
  pub read_accepted : (first_unmet (file_checks (edge_file t)) ≡ none) × (network_of (edge_file t) ≡ edge_network t)
  unfolding edge_file
  read_accepted = (file_met 1 (edge_network t) (edge_sayable t) edge_limits, file_network 1 (edge_network t) (edge_sayable t))

-- OWN CHECKS: 3 and 6 are what that file's own checks come to
both_true : (b : Bool) → both b true ≡ b
both_true true = refl
both_true false = refl

pub own_checks_lem : (t : Edges) → length t.edges ≡ t.count → first_unmet (file_checks (edge_file t))
    ≡ first_unmet (check 3 (both (within 2 32 t.nodes) (within 0 256 t.count)) ∷ check 6 (all (ends_sound t.nodes) (map row_of t.edges)) ∷ [])
unfolding first_unmet edge_file
own_checks_lem t e =
    file_checks_lem 1 (edge_network t) (edge_sayable t)
    ∙ ap {B = Option ℕ} (λ m. pick (both (within 2 32 t.nodes) (both (within 0 256 m) true))
    (pick (all (ends_sound t.nodes) (map row_of t.edges)) (pick (all costs_sound (map row_of t.edges)) none (some 7)) (some 6)) (some 3)) (length-map t.edges row_of ∙ e)
    ∙ (rw (both_true (within 0 256 t.count), (T_true (all costs_sound (map row_of t.edges))).0 (edge_costs t.edges)))

-- its length: 10 bytes and 8 for each row
pub read_long : (t : Edges) → length (edge_file t) ≡ 10 + length t.edges * 8
unfolding edge_file
read_long t = file_long 1 (edge_network t) (edge_sayable t) ∙ ap {B = ℕ} (λ m. 10 + m * 8) (length-map t.edges row_of)

-- Reading our own text

-- the ends of an edge list's network
ends_edge : (n m : ℕ) (es : List Ends) → ends_of (edge_network (record { nodes = n; count = m; edges = es })) ≡ es
ends_edge n m [] = refl
ends_edge n m (e ∷ es) = ap (λ (l : List Ends). e ∷ l) (ends_edge n m es)

module _ (f : List ℕ) (h : first_unmet (file_checks f) ≡ none) where
  -- the nodes, and the rows' ends
  abbrev n : ℕ
  n = (network_of f).node_count

  abbrev es : List Ends
  es = ends_of (network_of f)

  -- what the text says
  abbrev said : Edges
  said = record { nodes = n; count = length es; edges = es }

  -- the file that reading writes
  abbrev pub again : List ℕ
  again = edge_file said

  ends_met_lem : T (ends_met f)
  unfolding file_checks
  ends_met_lem = (T_true (ends_met f)).1 ((met_all (file_checks f)).0 h (check 6 (ends_met f)) (there (there (there (there (there (here refl)))))))

  ends_sound_lem : T (all (ends_sound n) (map row_of es))
  unfolding ends_met network_of
  ends_sound_lem = all_in (ends_sound n) (map row_of es) (λ r m.
      let (e, i, q) = map_out row_of es m in
      let (o, j, p) = map_out ends_in (network_of f).rows i in
      subst (λ (x : Row). T (ends_sound n x)) q
      (subst (λ (x : Ends). T (ends_sound n (row_of x))) p (all_out (ends_sound n) ends_met_lem j)))

  own_met : (buffer : List ℕ) → length again ≤ length buffer → first_unmet (edges_checks (some said) buffer) ≡ none
  unfolding first_unmet network_of edges_checks
  own_met buffer l = rw (
    (T_true (eqb (length es) (length es))).0 (eq→eqb (length es) _ refl),
    (T_true (both (within 2 32 n) (within 0 256 (length es)))).0 ((T-both (within 2 32 n) (within 0 256 (length es))).1 sizes_in_lem),
    (T_true (all (ends_sound n) (map row_of es))).0 ends_sound_lem,
    (T_true (leb (length again) (length buffer))).0 (le→leb (length again) (length buffer) l),
  )
    where
      a : Accepted f
      a = accepted f h

      few : length es ≤ 256
      few = omega (arith, length-map (network_of f).rows ends_in, a.rows, a.rows_high)

      sizes_in_lem : T (within 2 32 n) × T (within 0 256 (length es))
      sizes_in_lem = (
        (T-both (leb 2 n) (leb n 32)).1 (le→leb 2 n a.nodes_low, le→leb n 32 a.nodes_high),
        (T-both (leb 0 (length es)) (leb (length es) 256)).1 (le→leb 0 (length es) (omega arith), le→leb (length es) 256 few),
      )

  -- READ AGAIN: our own text is answered, unless the buffer is too short, with a network of the same nodes and ends, in sequence
  pub again_read : (buffer : List ℕ) → length again ≤ length buffer → dimacs_call (text_in f) buffer ≡ record { outcome = answered (length again); buffers = over again buffer }
  unfolding dimacs_call edges_call text_in
  again_read buffer l =
      ap (λ (o : Option Edges). edges_call o buffer) (read_back_lem n es)
      ∙ ended_met (edges_checks (some said) buffer) (length again) buffer (over again buffer) (own_met buffer l)

  again_network : network_of again ≡ edge_network said
  unfolding edge_file
  again_network = file_network 1 (edge_network said) (edge_sayable said)

  pub again_nodes : (network_of again).node_count ≡ (network_of f).node_count
  again_nodes = ap (λ (w : Network). w.node_count) again_network

  pub again_ends : ends_of (network_of again) ≡ ends_of (network_of f)
  again_ends = ap ends_of again_network ∙ ends_edge n (length es) es

  pub again_long : length again ≡ 10 + length (ends_of (network_of f)) * 8
  again_long = read_long said

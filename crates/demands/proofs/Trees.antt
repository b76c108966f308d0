-- Demand 2, of a file that passes: the one minimal path of each spanning tree (`path_of_tree`); Order, Cost, the charge and an office's entry of a tree of
-- the network (`drawn`); and when there is one: the list has a first member (`tree_listed`), which Reach's size and the must rows tell (`tree_exists`); 12 says that
-- there is none (`twelve`).
use mathlib.Core.Path.{◌∙◌, ◌≡◌, ap, refl, subst, sym}
use mathlib.Core.Logic.{◌↔◌}
use mathlib.Core.Bool.{false, true}
use mathlib.Core.Option.{none, some}
use mathlib.Core.List.{List, [], ◌++◌, ◌∷◌}
use Prim.Native.Nat.{◌≤◌, pred, ℕ}
use native.Mathlib.Omega.{arith}
use lib.Dec.{T, eqb, leb, le→leb, ltb, lt→ltb}
use lib.ListN.{get_or, length}
use borrow.Author.Tests.{eq-eqb}
use Rattle.lists.specs.Lists.{all, member}
use Rattle.lists.proofs.Members.{◌∈◌, all_in, member_in}
use Rattle.lists.proofs.Tests.{T_false, T_true}
use Rattle.graph.specs.Graph.{Graph, is_tree, width}
use Rattle.graph.specs.Paths.{is_minimal, path_in}
use Rattle.graph.proofs.PathOf.{path_of_tree_lem}
use Rattle.graph.proofs.Tree.{minimal_tree, minimal_unique, tree_out}
use Rattle.checks.specs.Checks.{Check, Ended, answered, ended, first_unmet, refused}
use Rattle.checks.proofs.Checks.{first_unmet_append, first_unmet_met}
use Rattle.checks.proofs.Ended.{checked_met, ended_met, ended_refused, ended_unmet, stops_only}
use Rattle.costs.specs.Costs.{added_cost, cost_of}
use Rattle.costs.specs.Layouts.{keeps_states}
use Rattle.costs.specs.Network.{Network}
use Rattle.costs.proofs.Layouts.{keeps_same, layouts_mem}
use Rattle.network_file.specs.File.{file_checks, network_of, sizes_of}
use Rattle.network_file.proofs.Accepted.{Accepted, accepted}
use Rattle.operations.specs.Operations.{FrontTables, check, cost_call, cost_checks, drawn_checks, graph_in, layouts_in, order_call, order_checks, over, reach_call, some_tree, tree_checks}
use Rattle.operations.proofs.Costs.{path_costs}
use Rattle.operations.proofs.Exists.{size_listed, some_in, some_out}
use Rattle.operations.proofs.Files.{formed}
use Rattle.operations.proofs.Passing.{greatest_cost}
use Rattle.charges.specs.Charges.{Split, added_at, charge_call, charge_checks, charge_of, charged_nodes}
use Rattle.charges.proofs.Charges.{split, total_cost}
use Rattle.table.specs.Enter.{Row}
use Rattle.offices.specs.Offices.{Counts, entry_of, fits_in, half_of, half_rows, note_of, office_call, office_checks, rows_after, tables_fit, written}
use Rattle.offices.proofs.Calls.{entry_is}
use Rattle.demands.specs.Demands.{ChargeClaim, Drawn, Exists, Passes, PathOfTree, Tree, numbers}

module _ (f : List ℕ) (ok : Passes f) where
  abbrev g : Graph
  g = graph_in f

  abbrev net : Network
  net = network_of f

  a : Accepted f
  a = accepted f ok

  pub listed_is : (p : List ℕ) → p ∈ layouts_in f → Tree f p × T (is_minimal g p)
  listed_is p m = let (t, keeps) = (layouts_mem net (formed f a) p).0 m in ((minimal_tree g (formed f a) p t, keeps), t)

  pub path_of_tree : (rows : List ℕ) → T (is_tree (graph_in f) rows) → PathOfTree f rows
  path_of_tree rows t =
      let (p, found, minimal, within, around) = path_of_tree_lem g (formed f a) rows t in
      record {
        path = p;
        minimal = minimal;
        within = within;
        around = around;
        only = λ q m i o. minimal_unique g (formed f a) q p m minimal (λ r h. around r (i r h)) (λ r h. o r (within r h));
        listed = (
          λ t. (layouts_mem net (formed f a) p).1 (minimal, keeps_same net rows p around within t),
          λ m. keeps_same net p rows within around ((layouts_mem net (formed f a) p).0 m).1,
        );
        priced = sym (path_costs f a rows p t found);
        greatest = greatest_cost f a rows t;
      }

  -- Order, Cost, the charge and an entry

  module _ (rows : List ℕ) (tree : Tree f rows) where
    abbrev path : List ℕ
    path = (path_of_tree rows tree.0).path

    drawn_met : first_unmet (drawn_checks net rows) ≡ none
    unfolding drawn_checks tree_checks first_unmet
    drawn_met =
        let t = tree_out g rows tree.0 in
        let many : eqb (length rows) (width g) ≡ true = eq-eqb (length rows) (width g) (ap pred t.size) in
        let known : all (λ r. ltb r (length g.first_ends)) rows ≡ true =
        (T_true _).0 (all_in (λ r. ltb r (length g.first_ends)) rows (λ q i. lt→ltb q (length g.first_ends) (t.rows q i))) in
        rw (many, known, (T_true (is_tree g rows)).0 tree.0, (T_true (keeps_states net rows)).0 tree.1) refl

    -- with room for the answer, and whatever else is asked, all checks are met
    room_met : (c : Check) (others : List Check) → c.met ≡ true → first_unmet others ≡ none → first_unmet (file_checks f ++ drawn_checks net rows ++ (c ∷ others)) ≡ none
    room_met c others room met =
        first_unmet_append (file_checks f ++ drawn_checks net rows) (c ∷ others) (first_unmet_append (file_checks f) (drawn_checks net rows) ok ∙ drawn_met)
        ∙ first_unmet_met c others room ∙ met

    charged : (criterion : ℕ) (buffer : List ℕ) → T (added_at net criterion) → charged_nodes f ≤ length buffer → ChargeClaim f rows path criterion buffer
    unfolding charge_call charge_checks first_unmet path_of_tree
    charged criterion buffer t room =
        let total = added_cost net criterion rows in
        let of_cost : total ≡ get_or (cost_of net path) criterion 0 = sym (total_cost net rows criterion t) ∙ ap (λ (v : List ℕ). get_or v criterion 0) (path_of_tree rows tree.0).priced in
        let known = check 22 (added_at net criterion) in
        record {
          charge = charge_of total (charged_nodes f);
          splits = subst (λ (x : ℕ). Split x (charged_nodes f) (charge_of total (charged_nodes f))) of_cost (split total (charged_nodes f) (omega (arith, a.nodes_low)));
          answers = ended_met (charge_checks f rows criterion buffer) _ buffer _
              (room_met (check 11 (leb (charged_nodes f) (length buffer))) (known ∷ []) ((T_true _).0 (le→leb _ _ room)) (first_unmet_met known [] ((T_true _).0 t)));
        }

    -- an office's call, by what is entered
    abbrev entering : ℕ → ℕ → Counts → FrontTables → Row → Type 0
    entering office h counts lent e =
        let before = half_rows f h (half_of office) counts lent in
        T (tables_fit (sizes_of f).k (width g) office h counts lent) → T (fits_in h before e)
        → office_call f rows office h counts lent ≡ record { outcome = answered (note_of before e); buffers = written (sizes_of f).k (width g) h (half_of office) (rows_after before e) lent }

    entered : (office h : ℕ) (counts : Counts) (lent : FrontTables) → entering office h counts lent (entry_of net rows)
    unfolding office_call office_checks first_unmet
    entered office h counts lent fit room =
        let last = check 24 (fits_in h (half_rows f h (half_of office) counts lent) (entry_of net rows)) in
        ended_met (office_checks f rows office h counts lent) _ lent _
        (room_met (check 11 (tables_fit (sizes_of f).k (width g) office h counts lent)) (last ∷ []) ((T_true _).0 fit) (first_unmet_met last [] ((T_true _).0 room)))

    pub drawn : Drawn f rows path
    unfolding order_call cost_call order_checks cost_checks first_unmet path_of_tree
    drawn = record {
      orders = λ buffer room. ended_met (order_checks f rows buffer) tt buffer _ (room_met (check 11 (leb (width g) (length buffer))) [] ((T_true _).0 (le→leb _ _ room)) refl)
          ∙ ap (λ (p : List ℕ). record { outcome = answered tt; buffers = over p buffer }) (ap path_in (path_of_tree_lem g (formed f a) rows tree.0).1);
      prices = λ buffer room. ended_met (cost_checks f rows buffer) tt buffer _ (room_met (check 11 (leb (sizes_of f).k (length buffer))) [] ((T_true _).0 (le→leb _ _ room)) refl)
          ∙ ap (λ (v : List ℕ). record { outcome = answered tt; buffers = over v buffer }) (path_of_tree rows tree.0).priced;
      charges = charged;
      enters = λ office h counts lent. subst (entering office h counts lent)
          (entry_is net rows (path_of_tree rows tree.0).priced (path_of_tree_lem g (formed f a) rows tree.0).1) (entered office h counts lent);
    }

  -- Whether there is a tree

  pub tree_listed : ((rows : List ℕ) × Tree f rows) ↔ T (some_tree (layouts_in f))
  tree_listed = (
    λ (rows, tree). some_in ((path_of_tree rows tree.0).listed.0 tree.1),
    λ t. let (p, m) = some_out (layouts_in f) t in (p, (listed_is p m).0),
  )

  pub tree_exists : Exists f
  unfolding reach_call
  tree_exists = record {
    reach = _;
    reaches = checked_met (file_checks f) _ ok;
    exactly = (λ t. (size_listed f a).0 (tree_listed.0 t), λ h. tree_listed.1 ((size_listed f a).1 h));
  }

-- Check 12 behind checks that the file's are among, and that have no other 12: it is the first that is not met exactly if these are met and there is no tree.
module _ (f : List ℕ) (first behind : List Check) (passes : first_unmet first ≡ none → Passes f)
    (before_others : member 12 (numbers first) ≡ false) (others : member 12 (numbers behind) ≡ false) where
  abbrev cs : List Check
  cs = first ++ (check 12 (some_tree (layouts_in f)) ∷ behind)

  not_in : (l : List ℕ) → member 12 l ≡ false → ¬ (12 ∈ l)
  not_in l e m = (T_false (member 12 l)).1 e (member_in m)

  abbrev pub Twelve : Type 0
  Twelve = (first_unmet first ≡ none) × ((rows : List ℕ) → ¬ Tree f rows)

  stops_none : (first_unmet cs ≡ some 12) ↔ Twelve
  stops_none =
      let s = stops_only first (check 12 (some_tree (layouts_in f))) behind (not_in _ before_others) (not_in _ others) in (
        λ h. let (ok, unmet) = s.0 h in (ok, λ rows t. (T_false (some_tree (layouts_in f))).1 unmet ((tree_listed f (passes ok)).0 (rows, t))),
        λ (ok, absent). s.1 (ok, (T_false (some_tree (layouts_in f))).0 (λ t. let (rows, tree) = (tree_listed f (passes ok)).1 t in absent rows tree)),
      )

  pub twelve : {A B : Type 0} (x : A) (before after : B) → ((ended cs x before after).outcome ≡ refused 12) ↔ Twelve
  twelve x before after = (
    λ h. stops_none.0 (ended_refused cs x before after 12 h),
    λ n. ap (λ (e : Ended _ _). e.outcome) (ended_unmet cs x before after 12 (stops_none.1 n)),
  )

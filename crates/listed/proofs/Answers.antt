-- What `listed` comes to by Open's answer and the first path (`listed_stops`, `listed_none`, `listed_some`), and what its callers learn from its answer:
-- of the file (`Lists`), and of the chart that they lent (`Listing`).
use mathlib.Core.Path.{◌∙◌, ◌≡◌, ap, refl, subst, sym}
use mathlib.Core.Bool.{false, true}
use mathlib.Core.Option.{none, some}
use mathlib.Core.List.Memᴰ.{head as here}
use mathlib.Core.List.{List, [], ◌∷◌}
use Prim.Native.Nat.{◌-◌, ℕ}
use native.Mathlib.Omega.{arith}
use Rattle.std.specs.Prelude.{None, Result, Some}
use Rattle.std.specs.Option.{is_some}
use Rattle.std.specs.declared.option.Option as code
use Rattle.lists.proofs.Members.{◌∈◌}
use Rattle.lists.proofs.Tests.{T_false, T_true}
use Rattle.checks.specs.Checks.{answered, first_unmet, refused}
use Rattle.checks.proofs.Checks.{first_unmet_append, first_unmet_met, first_unmet_unmet, met_all}
use Rattle.checks.proofs.Ended.{checked_answered, checked_met, checked_refused, checked_unmet, first_unmet_stops, unmet_parts}
use Rattle.costs.specs.Layouts.{must_rows}
use Rattle.network_file.specs.File.{Sizes, file_checks, network_of, open_of, sizes_of}
use Rattle.network_file.proofs.Accepted.{Accepted, accepted}
use Rattle.network_file.proofs.Opened.{open_answered, open_refused}
use Rattle.network.specs.Answers.{opened_of}
use Rattle.refusals.specs.declared.Refusal.{Refusal}
use Rattle.fields.specs.declared.Header.{Header}
use Rattle.operations.specs.Operations.{check, layouts_in, open_in, some_tree}
use Rattle.operations.proofs.Exists.{some_in, some_out}
use Rattle.chart.specs.Chart.{Blank, file_chart_on, graph_in, limit_in, list_in, musts_in, nodes_in, plant_in, width_in}
use Rattle.chart.proofs.Charts.{Charts}
use Rattle.chart.proofs.Files.{file_charts, file_graph, file_limit, file_list, file_musts, file_nodes, file_plant, file_width}
use Rattle.paths.specs.Path.{keys_of}
use Rattle.grow.proofs.Leads.{MustsLead, file_leads}
use Rattle.walk.specs.Walk.{first_in, next_of}
use Rattle.paths.specs.declared.Path.{Path}
use Rattle.walk.proofs.Behind.{first_none, first_some}
use Rattle.listed.specs.Listed.{listed_call, listed_checks}
use Rattle.words.specs.Words.{up_to}

-- A TREE EXISTS exactly if a first path is answered
pub some_first : {c : List ℕ} → Charts c → MustsLead c → (n : code.Option Path) → next_of n ≡ first_in c → some_tree (list_in c) ≡ is_some n
some_first {c} right lead None e = (T_false (some_tree (list_in c))).0 (λ t. let (p, m) = some_out (list_in c) t in first_none right (sym e) p m)
some_first {c} right lead (Some path) e = (T_true (some_tree (list_in c))).0 (some_in (first_some right lead (keys_of path) (sym e)).1.listed)

-- By Open's answer

module _ (f : List ℕ) where
  pub listed_stops : (e : ℕ) → refused e ≡ open_of f → refused e ≡ listed_call f
  unfolding listed_call
  listed_stops e told = sym (checked_unmet (listed_checks f) _ e (first_unmet_stops (file_checks f) (check 12 (some_tree (layouts_in f)) ∷ []) e (open_refused f e (sym told))))

  -- not all of Open's checks are met where it refuses
  pub refused_met : (e : ℕ) → refused e ≡ open_of f → ¬ (first_unmet (file_checks f) ≡ none)
  refused_met e told met = let z : ◌≡◌ {A = ℕ} 0 1 = cc (open_refused f e (sym told)) in omega arith

  module _ (s : Sizes) (opened : answered s ≡ open_of f) where
    met : first_unmet (file_checks f) ≡ none
    met = (open_answered f s (sym opened)).0

    last : first_unmet (listed_checks f) ≡ first_unmet (check 12 (some_tree (layouts_in f)) ∷ [])
    last = first_unmet_append (file_checks f) (check 12 (some_tree (layouts_in f)) ∷ []) met

    -- the first path that the code has found over the chart that it has made
    module _ (c₀ c : List ℕ) (n : code.Option Path) (made : c ≡ file_chart_on f c₀) (found : next_of n ≡ first_in c) (empty : Blank c₀) where
      test : some_tree (layouts_in f) ≡ is_some n
      test =
          let a = accepted f met in
          ap some_tree (sym (file_list f a c₀ empty)) ∙ some_first (file_charts f a c₀ empty) (file_leads f a c₀ empty) n (found ∙ ap first_in made)

      pub listed_none : is_some n ≡ false → refused 12 ≡ listed_call f
      unfolding listed_call
      listed_none e = sym (checked_unmet (listed_checks f) _ 12 (last ∙ first_unmet_unmet (check 12 (some_tree (layouts_in f))) [] (test ∙ e)))

      pub listed_some : is_some n ≡ true → answered s ≡ listed_call f
      unfolding listed_call first_unmet
      listed_some e =
          ap answered (sym (open_answered f s (sym opened)).1)
          ∙ sym (checked_met (listed_checks f) _ (last ∙ first_unmet_met (check 12 (some_tree (layouts_in f))) [] (test ∙ e)))

-- By its answer

module _ (f : List ℕ) where
  pub refused_by_lem : (e : ℕ) → listed_call f ≡ refused e → first_unmet (listed_checks f) ≡ some e
  unfolding listed_call
  refused_by_lem e h = checked_refused (listed_checks f) _ e h

  -- Open's checks are met, and there is a tree
  pub record Lists (s : Sizes) : Type 0 where
    pub all : first_unmet (listed_checks f) ≡ none
    pub met : first_unmet (file_checks f) ≡ none
    pub file : Accepted f
    pub tree : some_tree (layouts_in f) ≡ true
    pub sizes : s ≡ sizes_of f

  pub answered_by : (s : Sizes) → listed_call f ≡ answered s → Lists s
  unfolding listed_call
  answered_by s h =
      let (all, same) = checked_answered (listed_checks f) _ s h in
      let (of_file, behind) = unmet_parts (file_checks f) (check 12 (some_tree (layouts_in f)) ∷ []) all in
      record {
        all = all;
        met = of_file;
        file = accepted f of_file;
        tree = (met_all (check 12 (some_tree (layouts_in f)) ∷ [])).0 behind (check 12 (some_tree (layouts_in f))) (here refl);
        sizes = sym same;
      }

  -- and the chart is that of the network: it is right, and some tree is in its list
  pub record Listing (s : Sizes) (c : List ℕ) : Type 0 where
    pub lists : Lists s
    pub right : Charts c
    pub limit : limit_in c ≡ s.n
    pub plant : plant_in c ≡ 1
    pub nodes : nodes_in c ≡ up_to s.n
    pub width : width_in c ≡ s.n - 1
    pub graph : graph_in c ≡ open_in f
    pub musts : musts_in c ≡ must_rows (network_of f)
    pub list : list_in c ≡ layouts_in f
    pub some_tree_lem : (p : List ℕ) × (p ∈ list_in c)

  -- what `listed` promises, of an empty chart c₀ that was lent and is c now
  module _ {c₀ c : List ℕ} (r : Result Header Refusal) (s : Sizes) (empty : Blank c₀)
      (promised : (Blank c₀ → opened_of r ≡ listed_call f) × (first_unmet (file_checks f) ≡ none → c ≡ file_chart_on f c₀)) where
    pub listing : opened_of r ≡ answered s → Listing s c
    listing e =
        let l = answered_by s (sym (promised.0 empty) ∙ e) in
        let a = l.file in
        subst (Listing s) (sym (promised.1 l.met)) (record {
          lists = l;
          right = file_charts f a c₀ empty;
          limit = rw l.sizes (file_limit f a c₀ empty);
          plant = file_plant f a c₀ empty;
          nodes = rw l.sizes (file_nodes f a c₀ empty);
          width = rw l.sizes (file_width f a c₀ empty);
          graph = file_graph f a c₀ empty;
          musts = file_musts f a c₀ empty;
          list = file_list f a c₀ empty;
          some_tree_lem = some_out _ (rw (file_list f a c₀ empty) ((T_true _).1 l.tree));
        })

-- What document 01 says in passing: the greatest cost is 31,000,000 (`greatest_cost`), a spanning tree has no cycle (`no_cycle`), and
-- count 0 comes only where the start is the list's last tree (`count_zero`). The longest file is `longest` of crate network_file.
use mathlib.Core.Path.{◌∙◌, ◌≡◌, ap, refl, subst, sym}
use mathlib.Core.Bool.{true}
use mathlib.Core.Option.{none-ne-some, some-injective, none, some}
use mathlib.Core.List.Memᴰ.{head as here}
use mathlib.Core.List.Memᴰ.{tail as there}
use mathlib.Core.List.{List, [], ◌∷◌}
use Prim.Native.Nat.{◌/◌, ◌<◌, ◌≤◌, suc, zero, ℕ}
use native.Mathlib.Nat.{le-div_iff_mul-le}
use native.Mathlib.Omega.{arith}
use lib.Dec.{T, leb}
use lib.ListN.{drop, get_elem?, length}
use borrow.Author.Tests.{leb-true}
use Rattle.lists.proofs.Ascending.{mem_at}
use Rattle.lists.proofs.Distinct.{Distinct}
use Rattle.lists.proofs.Members.{◌∈◌}
use Rattle.lists.proofs.Tests.{T_true}
use Rattle.graph.specs.Graph.{Graph, is_tree, width}
use Rattle.graph.specs.Paths.{is_minimal}
use Rattle.graph.proofs.Minimal.{WellFormed}
use Rattle.graph.proofs.Parts.{part_distinct}
use Rattle.graph.proofs.Tree.{tree_out}
use Rattle.checks.specs.Checks.{Check, answered, first_unmet}
use Rattle.checks.proofs.Checks.{met_all}
use Rattle.checks.proofs.Ended.{ended_answered, unmet_parts}
use Rattle.costs.specs.Costs.{cost_of}
use Rattle.costs.specs.Layouts.{keeps_states, layouts}
use Rattle.costs.specs.Network.{Network, graph_of}
use Rattle.costs.proofs.Layouts.{layouts_mem, layouts_part}
use Rattle.forests.proofs.Forest.{Forest}
use Rattle.forests.proofs.Spanning.{tree_forest}
use Rattle.bounds.proofs.Limits.{costs_most}
use Rattle.network_file.specs.File.{file_checks, network_of}
use Rattle.network_file.proofs.Accepted.{Accepted, accepted}
use Rattle.pages.specs.Pages.{behind, last_of, page_count, rest_after}
use Rattle.pages.proofs.Pages.{behind_drop}
use Rattle.operations.specs.Operations.{Paged, check, drawn_checks, graph_in, layouts_in, page_call, page_checks, some_tree, start_checks, tree_checks}
use Rattle.operations.proofs.Files.{formed, node_count_lem, wide}

-- A spanning tree has no cycle: its rows are a forest.
pub no_cycle : (f : List ℕ) → Accepted f → (rows : List ℕ) → T (is_tree (graph_in f) rows) → Forest (graph_in f) rows
no_cycle f a = tree_forest (graph_in f) (formed f a)

-- The greatest cost of a spanning tree, in any criterion.
pub greatest_cost : (f : List ℕ) → Accepted f → (rows : List ℕ) → T (is_tree (graph_in f) rows) → (x : ℕ) → x ∈ cost_of (network_of f) rows → x ≤ 31000000
unfolding cost_of
greatest_cost f a rows t x m =
    omega (arith, costs_most (network_of f) 1000000 a.costs rows x m, (tree_out (graph_in f) rows t).size, node_count_lem f, a.nodes_high)

-- Count 0

-- what stands at a place behind which there is nothing is the last
last_at : (L : List (List ℕ)) (i : ℕ) (p : List ℕ) → get_elem? L i ≡ some p → drop (suc i) L ≡ [] → last_of L ≡ p
last_at [] i p e h = absurd (none-ne-some _ e)
last_at (q ∷ []) zero p e h = some-injective _ _ e
last_at (q ∷ []) (suc i) p e h = absurd (none-ne-some _ e)
last_at (q ∷ r ∷ L) zero p e h = let z : ◌≡◌ {A = ℕ} 0 1 = cc in absurd (omega arith)
last_at (q ∷ r ∷ L) (suc i) p e h = last_at (r ∷ L) i p e h

none_behind : (L : List (List ℕ)) (p : List ℕ) → Distinct L → p ∈ L → behind p L ≡ [] → last_of L ≡ p
none_behind L p once m h = let (i, e) = mem_at m in last_at L i p e (sym (behind_drop L i p once e) ∙ h)

-- a page with room for a tree takes none only if none is left
none_left : (w : ℕ) (page : List ℕ) (rest : List (List ℕ)) → 0 < w → w ≤ length page → page_count w page rest ≡ 0 → rest ≡ []
none_left w page [] pos room z = refl
none_left w page (p ∷ rest) pos room z =
    let one : 1 ≤ length page / w = (le-div_iff_mul-le {k = w} {x = 1} {y = length page} pos).1 (omega arith) in absurd (omega arith)

-- a start that is given and meets its checks is a tree of the list
pub start_listed : (w : Network) → WellFormed (graph_of w) → (r : ℕ) (rs : List ℕ) → first_unmet (start_checks w (r ∷ rs)) ≡ none → (r ∷ rs) ∈ layouts w
unfolding start_checks drawn_checks tree_checks
start_listed w wf r rs h =
    let met = (met_all (start_checks w (r ∷ rs))).0 h in
    (layouts_mem w wf (r ∷ rs)).1 (
      (T_true _).1 (met (check 13 (is_minimal (graph_of w) (r ∷ rs))) (there (there (there (there (here refl)))))),
      (T_true _).1 (met (check 15 (keeps_states w (r ∷ rs))) (there (there (there (here refl))))),
    )

module _ (f page : List ℕ) where
  abbrev g : Graph
  g = graph_in f

  abbrev L : List (List ℕ)
  L = layouts_in f

  abbrev behind_file : List ℕ → List Check
  behind_file start = check 12 (some_tree L) ∷ check 11 (leb (width g) (length page)) ∷ start_checks (network_of f) start

  zero_from : (start : List ℕ) → first_unmet (file_checks f) ≡ none → first_unmet (behind_file start) ≡ none
      → page_count (width g) page (rest_after L start) ≡ 0 → (last_of L ≡ start) × (start ∈ L)
  zero_from start ok h z =
      let a = accepted f ok in
      let met = (met_all (behind_file start)).0 h in
      let room = leb-true (width g) (length page) (met (check 11 (leb (width g) (length page))) (there (here refl))) in
      go start (λ c m. met c (there (there m))) (none_left (width g) page (rest_after L start) (wide f a) room z)
    where
      tree : T (some_tree L)
      tree = (T_true _).1 ((met_all (behind_file start)).0 h (check 12 (some_tree L)) (here refl))

      go : (start : List ℕ) → ((c : Check) → c ∈ start_checks (network_of f) start → c.met ≡ true) → rest_after L start ≡ [] → (last_of L ≡ start) × (start ∈ L)
      go [] met e = absurd (subst (λ (l : List (List ℕ)). T (some_tree l)) e tree)
      go (r ∷ rs) met e =
          let m = start_listed (network_of f) (formed f (accepted f ok)) r rs ((met_all (start_checks (network_of f) (r ∷ rs))).1 met) in
          (none_behind L (r ∷ rs) (part_distinct (layouts_part (network_of f))) m e, m)

  -- Count 0 comes only where the start is the list's last tree.
  pub count_zero : (start : List ℕ) (x : Paged) → (page_call f page start).outcome ≡ answered x → x.count ≡ 0
      → (last_of (layouts_in f) ≡ start) × (start ∈ layouts_in f)
  unfolding page_call page_checks
  count_zero start x e z =
      let (met, same) = ended_answered (page_checks f page start) _ page _ x e in
      let (ok, behind) = unmet_parts (file_checks f) (behind_file start) met in
      zero_from start ok behind (ap (λ (y : Paged). y.count) same ∙ z)

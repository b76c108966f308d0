-- Demand 3, of the front: it has exactly the vectors of the network's trees that no tree's vector dominates (`front_is_lem`); and Front with tables that have
-- room for a row (`front_claim`), which a call that is answered has (`front_answered`).
use mathlib.Core.Path.{◌∙◌, ◌≡◌, ap, refl, subst, sym}
use mathlib.Core.Logic.{◌↔◌}
use mathlib.Core.List.Memᴰ.{head as here}
use mathlib.Core.List.Memᴰ.{map as map_in}
use mathlib.Core.List.Memᴰ.{not-nil as mem_nil}
use mathlib.Core.List.Memᴰ.{of_map as map_out}
use mathlib.Core.List.Memᴰ.{tail as there}
use mathlib.Core.List.{List, [], ◌∷◌}
use mathlib.Core.Option.{none}
use Prim.Native.Nat.{◌*◌, ◌<◌, ◌≤◌, min, ℕ}
use native.Mathlib.Omega.{arith}
use lib.Dec.{T, leb, leb→le, le→leb}
use lib.ListN.{drop, get_or, length, take}
use lib.Seq.{drop_at, get_or-take, length-take-le}
use Rattle.lists.specs.Lists.{both}
use Rattle.lists.proofs.Ascending.{get_or_mem, take_min}
use Rattle.lists.proofs.Maps.{map_at}
use Rattle.lists.proofs.Members.{◌∈◌, take_out}
use Rattle.lists.proofs.Orders.{ascending_distinct}
use Rattle.lists.proofs.Tests.{T-both, T_true}
use Rattle.graph.specs.Graph.{width}
use Rattle.graph.proofs.Parts.{part_length}
use Rattle.checks.specs.Checks.{Check, Ended, answered, first_unmet}
use Rattle.checks.proofs.Checks.{first_unmet_append, first_unmet_met, met_all}
use Rattle.checks.proofs.Ended.{ended_answered, ended_met}
use Rattle.costs.specs.Costs.{cost_of, dominates, front, front_trees, tree_with, vectors}
use Rattle.costs.specs.Network.{Network}
use Rattle.costs.proofs.Layouts.{layouts_part}
use Rattle.costs.proofs.FrontTrees.{front_listed, front_trees_length, witness_first, witness_out}
use Rattle.costs.proofs.Fronts.{Sized, front_ascending, front_members}
use Rattle.costs.proofs.Networks.{vectors_sized}
use Rattle.costs.proofs.Vectors.{vector_order}
use Rattle.network_file.specs.File.{file_checks, network_of, sizes_of}
use Rattle.network_file.proofs.Accepted.{accepted}
use Rattle.pages.specs.Pages.{capacity, flat, pieces}
use Rattle.pages.proofs.Pages.{length_flat}
use Rattle.operations.specs.Operations.{FrontTables, Fronted, check, front_call, front_checks, front_over, graph_in, layouts_in, over, some_tree}
use Rattle.operations.proofs.Over.{over_rows}
use Rattle.demands.specs.Demands.{Costs, FirstTree, FrontClaim, FrontIs, Passes}
use Rattle.demands.proofs.Trees.{listed_is, path_of_tree}

-- The front by trees

module _ (f : List ℕ) (ok : Passes f) where
  abbrev net : Network
  net = network_of f

  tree_vector : (v : List ℕ) → (v ∈ vectors net) ↔ Costs f v
  tree_vector v = (
    λ m. let (p, i, e) = map_out (cost_of net) (layouts_in f) m in (p, (listed_is f ok p i).0, e),
    λ (rows, (t, keeps), e). let p = path_of_tree f ok rows t in
        subst (λ (x : List ℕ). x ∈ vectors net) (sym p.priced ∙ e) (map_in (cost_of net) (p.listed.0 keeps)),
  )

  pub front_is_lem : FrontIs f
  front_is_lem = record {
    members = λ v. let m = front_members v (vectors net) in (
      λ i. let (listed, u) = m.0 i in ((tree_vector v).0 listed, λ rows t. u (cost_of net rows) ((tree_vector _).1 (rows, t, refl))),
      λ (c, u). m.1 ((tree_vector v).1 c, λ x i d. let (rows, t, e) = (tree_vector x).0 i in u rows t (subst (λ (y : List ℕ). T (dominates y v)) (sym e) d)),
    );
    ascending = front_ascending (vectors net);
    once = ascending_distinct vector_order (front net) (front_ascending (vectors net));
  }

-- Front's call

-- as many as there are, where more would fit
take_least : (n : ℕ) (l : List (List ℕ)) → take (min (length l) n) l ≡ take n l
take_least n l = let e : min (length l) n ≡ min n (length l) = omega arith in ap (λ (m : ℕ). take m l) e ∙ take_min n l

module _ (f : List ℕ) (ok : Passes f) (tree : T (some_tree (layouts_in f))) where
  abbrev w : Network
  w = network_of f

  -- all vectors of the front have k components
  front_sized : (v : List ℕ) → v ∈ front w → length v ≡ (sizes_of f).k
  front_sized v m = vectors_sized w (layouts_in f) v ((front_members v (vectors w)).0 m).0 ∙ (accepted f ok).kinds

  module _ (costs witnesses : List ℕ) (wide : (sizes_of f).k ≤ length costs) (long : width (graph_in f) ≤ length witnesses) where
    -- the vectors of the front, and the trees beside them
    abbrev F : List (List ℕ)
    F = front w

    abbrev W : List (List ℕ)
    W = front_trees w (layouts_in f)

    as_many : length W ≡ length F
    as_many = front_trees_length w (layouts_in f)

    abbrev cap : ℕ
    cap = capacity (sizes_of f).k (width (graph_in f)) costs witnesses

    abbrev count : ℕ
    count = min (length F) cap

    met : first_unmet (front_checks f costs witnesses) ≡ none
    unfolding front_checks
    met =
        first_unmet_append (file_checks f) _ ok
        ∙ first_unmet_met (check 12 (some_tree (layouts_in f))) _ ((T_true _).0 tree)
        ∙ first_unmet_met (check 11 (both (leb (sizes_of f).k (length costs)) (leb (width (graph_in f)) (length witnesses)))) []
        ((T_true _).0 ((T-both (leb (sizes_of f).k (length costs)) (leb (width (graph_in f)) (length witnesses))).1 (le→leb _ _ wide, le→leb _ _ long)))
        ∙ (met_all []).1 (λ c m. absurd (mem_nil m))

    abbrev fronted : Fronted
    fronted = record { count = count; whole = leb (length F) cap }

    -- both tables afterwards
    abbrev after : FrontTables
    after = record { costs = over (flat (take count F)) costs; witnesses = over (flat (take count W)) witnesses }

    ends : front_call f costs witnesses ≡ record { outcome = answered fronted; buffers = after }
    unfolding front_call front_over
    ends =
        ended_met (front_checks f costs witnesses) _ (record { costs = costs; witnesses = witnesses }) _ met
        ∙ (rw ((accepted f ok).kinds, take_least cap F, ← as_many, take_least cap W))

    trees_sized : (p : List ℕ) → p ∈ W → length p ≡ width (graph_in f)
    trees_sized p m = part_length (layouts_part w) p (front_listed w (layouts_in f) p m)

    vectors_read : pieces (sizes_of f).k count after.costs ≡ take count F
    vectors_read = over_rows (sizes_of f).k count F costs front_sized (omega arith)

    trees_read : pieces (width (graph_in f)) count after.witnesses ≡ take count W
    trees_read = over_rows (width (graph_in f)) count W witnesses trees_sized (omega (arith, as_many))

    -- what stands behind the rows
    abbrev behind_rows : ℕ → List (List ℕ) → List ℕ → Type 0
    behind_rows k rows table = drop (count * k) (over (flat (take count rows)) table) ≡ drop (count * k) table

    rest_kept : (k : ℕ) (rows : List (List ℕ)) (table : List ℕ) → Sized k rows → count ≤ length rows → behind_rows k rows table
    rest_kept k rows table sized few =
        let places : length (flat (take count rows)) ≡ count * k =
        length_flat k (take count rows) (λ p m. sized p (take_out count rows m)) ∙ ap (λ (n : ℕ). n * k) (length-take-le count rows few) in
        drop_at (flat (take count rows)) (drop (length (flat (take count rows))) table) (count * k) places ∙ ap (λ (n : ℕ). drop n table) places

    module _ (i : ℕ) (h : i < count) where
      abbrev v : List ℕ
      v = get_or F i []

      -- row i of both tables
      vector_at : get_or (pieces (sizes_of f).k count after.costs) i [] ≡ v
      vector_at = ap (λ (l : List (List ℕ)). get_or l i []) vectors_read ∙ get_or-take count F i [] h

      tree_at : get_or (pieces (width (graph_in f)) count after.witnesses) i [] ≡ tree_with w (layouts_in f) v
      unfolding front_trees
      tree_at = ap (λ (l : List (List ℕ)). get_or l i []) trees_read ∙ get_or-take count W i [] h ∙ map_at (tree_with w (layouts_in f)) F i [] [] (omega arith)

      first_tree : FirstTree f v (tree_with w (layouts_in f) v)
      first_tree =
          let m : v ∈ vectors w = ((front_members v (vectors w)).0 (get_or_mem F i [] (omega arith))).0 in
          let (before, behind, stands, none_before) = witness_first w (layouts_in f) v m in
          record { before = before; behind = behind; stands = stands; priced = (witness_out w (layouts_in f) v m).1; none_before = none_before }

    pub front_claim : FrontClaim f costs witnesses
    front_claim = record {
      answer = fronted;
      answers = ap (λ (e : Ended Fronted FrontTables). e.outcome) ends;
      count = refl;
      whole = (leb→le (length F) cap, le→leb (length F) cap);
      vectors_are = rw ends vectors_read;
      trees_are_lem = λ i h. rw (ends, vector_at i h, tree_at i h) (first_tree i h);
      costs_rest = rw ends (rest_kept (sizes_of f).k F costs front_sized (omega arith));
      witnesses_rest = rw ends (rest_kept (width (graph_in f)) W witnesses trees_sized (omega (arith, as_many)));
    }

pub front_answered : (f : List ℕ) (ok : Passes f) (costs witnesses : List ℕ) (a : Fronted) → (front_call f costs witnesses).outcome ≡ answered a
    → (c : FrontClaim f costs witnesses) × (c.answer ≡ a)
unfolding front_call front_checks
front_answered f ok costs witnesses a h =
    let room : Check = check 11 (both (leb (sizes_of f).k (length costs)) (leb (width (graph_in f)) (length witnesses))) in
    let tree : Check = check 12 (some_tree (layouts_in f)) in
    let met = (ended_answered (front_checks f costs witnesses) _ _ _ a h).0 in
    let each = (met_all (tree ∷ room ∷ [])).0 (sym (first_unmet_append (file_checks f) (tree ∷ room ∷ []) ok) ∙ met) in
    let (wide, long) = (T-both (leb (sizes_of f).k (length costs)) (leb (width (graph_in f)) (length witnesses))).0 ((T_true _).1 (each room (there (here refl)))) in
    let c = front_claim f ok ((T_true _).1 (each tree (here refl))) costs witnesses (leb→le _ _ wide) (leb→le _ _ long) in
    let e : answered c.answer ≡ answered a = sym c.answers ∙ h in
    (c, cc)

-- THE SAME FRONT FROM SHUFFLED ROWS (`shuffled`): the front, its counts and marks at equal capacity, the list as a set, and its sequence but for parallel rows.
use mathlib.Core.Path.{◌∙◌, ◌≡◌, ap, ap₂, refl, subst, sym}
use mathlib.Core.Logic.{◌↔◌, ◌⊎◌, inl, inr, ⊎_elim}
use mathlib.Core.Bool.{Bool}
use mathlib.Core.List.{List, [], ◌++◌, ◌∷◌, map}
use mathlib.Core.List.Memᴰ.{append_cases}
use mathlib.Core.List.Memᴰ.{append_right}
use mathlib.Core.List.Memᴰ.{cases_cons as mem_cases}
use mathlib.Core.List.Memᴰ.{head as here}
use mathlib.Core.List.Memᴰ.{not-nil as mem_nil}
use Prim.Native.Nat.{◌<◌, ℕ}
use lib.Dec.{T, leb, ltb}
use lib.ListN.{get_or, length, take}
use Rattle.lists.specs.Lists.{both}
use Rattle.lists.proofs.Members.{◌∈◌, mem_stands}
use Rattle.lists.proofs.Orders.{Ascending, StrictTotal, less_asym}
use Rattle.lists.proofs.Tests.{T-same}
use Rattle.graph.specs.Graph.{width}
use Rattle.graph.specs.Paths.{path_less, place_of}
use Rattle.graph.proofs.Listing.{AtMost}
use Rattle.graph.proofs.Trees.{path_order}
use Rattle.checks.specs.Checks.{answered, checked, ended, first_unmet, outcome_by}
use Rattle.checks.proofs.Checks.{first_unmet_append}
use Rattle.costs.specs.Costs.{cost_of}
use Rattle.costs.proofs.Layouts.{layouts_part}
use Rattle.network_file.specs.File.{file_checks, network_of, sizes_of}
use Rattle.network_file.proofs.Accepted.{accepted}
use Rattle.pages.specs.Pages.{capacity, pieces}
use Rattle.pages.proofs.Pages.{capacity_some}
use Rattle.operations.specs.Operations.{Fronted, front_call, front_checks, front_over, graph_in, layouts_in, some_tree}
use Rattle.operations.proofs.Exists.{some_in, some_out}
use Rattle.operations.proofs.Files.{wide}
use Rattle.shuffles.specs.Shuffles.{Shuffled, part_parallel, renamed, renamed_path}
use Rattle.shuffles.proofs.Costs.{cost_renamed, front_renamed}
use Rattle.shuffles.proofs.Renames.{Renaming, first_renamed, layout_from, layout_known, layout_renamed, layouts_as_many, order_renamed, turned}
use Rattle.shuffles.proofs.Shuffles.{renaming}
use Rattle.demands.specs.Demands.{FirstTree, FrontClaim, Passes}
use Rattle.demands.specs.Shuffles.{FrontsAgree, SameTree, ShuffleClaim, StandsBefore}
use Rattle.demands.proofs.Fronts.{front_answered}

-- In a list that ascends a member stands before another exactly if it is less

before_less : (less : List ℕ → List ℕ → Bool) (before : List (List ℕ)) (p : List ℕ) {q : List ℕ} (behind : List (List ℕ)) → Ascending less (before ++ p ∷ behind) → q ∈ behind → T (less p q)
before_less less [] p {q} behind up m = up.0 q m
before_less less (x ∷ before) p behind up m = before_less less before p behind up.1 m

stands_less : (less : List ℕ → List ℕ → Bool) (l : List (List ℕ)) {p q : List ℕ} → Ascending less l → StandsBefore l p q → T (less p q)
stands_less less l {p} {q} up s = before_less less s.before p (s.between ++ q ∷ s.behind) (subst (Ascending less) s.stands up) (append_right s.between (here refl))

less_stands : {D : List ℕ → Type 0} {less : List ℕ → List ℕ → Bool} → StrictTotal D less → (l : List (List ℕ)) (p q : List ℕ) → Ascending less l → p ∈ l → q ∈ l → T (less p q)
    → StandsBefore l p q
less_stands order [] p q up i j t = absurd (mem_nil i)
less_stands {D} {less} order (x ∷ l) p q up i j t = go (mem_cases i) (mem_cases j) (λ k m. less_stands order l p q up.1 k m t)
  where
    go : (p ≡ x) ⊎ (p ∈ l) → (q ≡ x) ⊎ (q ∈ l) → (p ∈ l → q ∈ l → StandsBefore l p q) → StandsBefore (x ∷ l) p q
    go (inl a) (inl b) later = absurd (order.irrefl x (rw (a, b) at t))
    go (inl a) (inr k) later = let (between, behind, e) = mem_stands k in
        record { before = []; between = between; behind = behind; stands = ap₂ (λ (y : List ℕ) (rest : List (List ℕ)). y ∷ rest) (sym a) e }
    go (inr k) (inl b) later = absurd (less_asym order p x (subst (λ (y : List ℕ). T (less p y)) b t) (up.0 p k))
    go (inr k) (inr m) later = let s = later k m in record { before = x ∷ s.before; between = s.between; behind = s.behind; stands = ap (λ (rest : List (List ℕ)). x ∷ rest) s.stands }

-- The trees of the list with a vector: the first of them is at most each
first_most : (f : List ℕ) {v p : List ℕ} → FirstTree f v p → (q : List ℕ) → q ∈ layouts_in f → cost_of (network_of f) q ≡ v → AtMost (graph_in f) p q
first_most f {v} {p} t q m e = ⊎_elim
    (λ (i : q ∈ t.before). absurd (t.none_before q i e))
    (λ (i : q ∈ p ∷ t.behind). ⊎_elim (λ (d : q ≡ p). inl (sym d))
    (λ (j : q ∈ t.behind). inr (before_less (path_less (graph_in f)) t.before p t.behind (subst (Ascending (path_less (graph_in f))) t.stands (layouts_part (network_of f)).ascending) j))
    (mem_cases i))
    (append_cases t.before (subst (λ (l : List (List ℕ)). q ∈ l) t.stands m))

first_listed : (f : List ℕ) {v p : List ℕ} → FirstTree f v p → p ∈ layouts_in f
first_listed f {v} {p} t = subst (λ (l : List (List ℕ)). p ∈ l) (sym t.stands) (append_right t.before (here refl))

module _ (f h numbers : List ℕ) (ok : Passes f) (passes : Passes h) (s : Shuffled (network_of f) (network_of h) numbers) where
  n : Renaming (network_of f) (network_of h) (renamed numbers) (place_of numbers)
  n = renaming s

  -- The sequence

  sequence : (p q : List ℕ) → p ∈ layouts_in h → q ∈ layouts_in h → ¬ T (part_parallel (graph_in h) p q)
      → StandsBefore (layouts_in h) p q ↔ StandsBefore (layouts_in f) (renamed_path numbers p) (renamed_path numbers q)
  sequence p q i j d =
      let same = order_renamed n p q i j d in
      let here_up = (layouts_part (network_of h)).ascending in
      let there_up = (layouts_part (network_of f)).ascending in (
        λ b. less_stands (path_order (graph_in f)) (layouts_in f) (renamed_path numbers p) (renamed_path numbers q) there_up (layout_renamed n p i) (layout_renamed n q j)
            (rw same (stands_less (path_less (graph_in h)) (layouts_in h) here_up b)),
        λ b. less_stands (path_order (graph_in h)) (layouts_in h) p q here_up i j (rw (sym same) (stands_less (path_less (graph_in f)) (layouts_in f) there_up b)),
      )

  -- The witness: the first trees with one vector

  first_same : (v p q : List ℕ) → FirstTree h v p → FirstTree f v q → SameTree f numbers p q
  first_same v p q a b =
      let i = first_listed h a in
      let j = first_listed f b in
      let k = layout_renamed (turned n) q j in
      first_renamed n p q i j
      (first_most h a (map (place_of numbers) q) k (cost_renamed (turned n) q (layout_known (network_of f) q j) ∙ b.priced))
      (first_most f b (renamed_path numbers p) (layout_renamed n p i) (cost_renamed n p (layout_known (network_of h) p i) ∙ a.priced))

  -- Front

  trees_met : some_tree (layouts_in h) ≡ some_tree (layouts_in f)
  trees_met = T-same (some_tree (layouts_in h)) (some_tree (layouts_in f))
      (λ t. let (p, i) = some_out (layouts_in h) t in some_in (layout_renamed n p i))
      (λ t. let (q, j) = some_out (layouts_in f) t in some_in (layout_renamed (turned n) q j))

  module _ (costs witnesses others paths : List ℕ)
      (level : capacity (sizes_of h).k (width (graph_in h)) others paths ≡ capacity (sizes_of f).k (width (graph_in f)) costs witnesses) where
    rooms : both (leb (sizes_of h).k (length others)) (leb (width (graph_in h)) (length paths)) ≡ both (leb (sizes_of f).k (length costs)) (leb (width (graph_in f)) (length witnesses))
    rooms = capacity_some (sizes_of h).k (width (graph_in h)) others paths (accepted h passes).criteria_low (wide h (accepted h passes))
        ∙ ap (ltb 0) level ∙ sym (capacity_some (sizes_of f).k (width (graph_in f)) costs witnesses (accepted f ok).criteria_low (wide f (accepted f ok)))

    stops : first_unmet (front_checks h others paths) ≡ first_unmet (front_checks f costs witnesses)
    unfolding front_checks
    stops = first_unmet_append (file_checks h) _ passes ∙ rw (trees_met, rooms) refl ∙ sym (first_unmet_append (file_checks f) _ ok)

    outcomes : (front_call h others paths).outcome ≡ (front_call f costs witnesses).outcome
    unfolding front_call front_over ended checked
    outcomes = ap₂ outcome_by stops (rw ((accepted h passes).kinds, (accepted f ok).kinds, front_renamed n, level) refl)

    module _ (a : Fronted) (answers : (front_call f costs witnesses).outcome ≡ answered a) where
      of_f : (c : FrontClaim f costs witnesses) × (c.answer ≡ a)
      of_f = front_answered f ok costs witnesses a answers

      of_h : (c : FrontClaim h others paths) × (c.answer ≡ a)
      of_h = front_answered h passes others paths a (outcomes ∙ answers)

      vectors_agree : pieces (sizes_of h).k a.count (front_call h others paths).buffers.costs ≡ pieces (sizes_of f).k a.count (front_call f costs witnesses).buffers.costs
      vectors_agree =
          let (c, e) = of_f in
          let (d, i) = of_h in
          rw i at d.vectors_are ∙ ap (take a.count) (front_renamed n) ∙ sym (rw e at c.vectors_are)

      trees_agree : (i : ℕ) → i < a.count
          → SameTree f numbers (get_or (pieces (width (graph_in h)) a.count (front_call h others paths).buffers.witnesses) i [])
          (get_or (pieces (width (graph_in f)) a.count (front_call f costs witnesses).buffers.witnesses) i [])
      trees_agree i l =
          let (c, e) = of_f in
          let (d, j) = of_h in
          first_same _ _ _ (rw vectors_agree at (rw j at d.trees_are_lem i l)) (rw e at c.trees_are_lem i l)

    fronts_agree : FrontsAgree f h numbers costs witnesses others paths
    fronts_agree = record { outcomes = outcomes; vectors_agree = vectors_agree; trees_agree = trees_agree }

  pub shuffled : ShuffleClaim f h numbers
  shuffled = record {
    front_same = front_renamed n;
    fronts = fronts_agree;
    listed = layout_renamed n;
    each = layout_from n;
    as_many = layouts_as_many n;
    sequence = sequence;
  }

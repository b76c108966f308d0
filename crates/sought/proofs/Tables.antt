-- The lent tables row by row (`Standing`): the first n rows of the front stand in them (`standing_start`), the vector found and its witness are the next row (`row_more`); at the
-- end none is left (`row_whole`), or one more row does not fit (`row_cut`).
use mathlib.Core.Path.{◌∙◌, ◌≡◌, ap, refl, subst, sym}
use mathlib.Core.Bool.{Bool, false, not, true}
use Rattle.std.specs.Option.{is_some}
use Rattle.std.specs.Prelude.{None, Option as Maybe, Some}
use mathlib.Core.Option.{none}
use mathlib.Core.List.Memᴰ.{of_map as map_out}
use mathlib.Core.List.{List, [], ◌++◌, ◌∷◌, append-nil, map}
use Prim.Native.Nat.{◌*◌, ◌+◌, ◌/◌, ◌<◌, ◌≤◌, min, suc, zero, ℕ}
use native.Mathlib.Nat.{mod-eq_of_lt, mul-div_cancel, mul-le-mul_right, one-mul}
use native.Mathlib.Numerals.{add-one}
use native.Mathlib.Omega.{arith}
use lib.Dec.{T}
use lib.ListN.{drop, get_or, length, length-map, take}
use lib.Seq.{drop_at, ext_get_or, get_or-take, length-take-le, paste, take-add, take_all, take_at}
use borrow.Author.Tests.{le-leb, le-ltb, lt-leb, lt-ltb}
use Rattle.lists.proofs.Maps.{map_at, map_drop, map_take}
use Rattle.lists.proofs.Members.{◌∈◌, length_snoc, take_out}
use Rattle.checks.specs.Checks.{answered}
use Rattle.graph.specs.Graph.{Graph}
use Rattle.graph.proofs.Minimal.{WellFormed}
use Rattle.graph.proofs.Parts.{part_length}
use Rattle.costs.specs.Costs.{cost_of, front_trees, tree_with}
use Rattle.costs.specs.Network.{Network}
use Rattle.costs.proofs.FrontTrees.{front_listed, front_trees_length}
use Rattle.costs.proofs.Fronts.{Sized, front_out}
use Rattle.tables.proofs.Known.{Known}
use Rattle.pages.specs.Pages.{flat, pieces}
use Rattle.pages.proofs.Pages.{pieces_flat}
use Rattle.passes.proofs.Written.{over_length, over_more, part_long}
use Rattle.states.proofs.With.{with_part_lem}
use Rattle.operations.specs.Operations.{over}
use Rattle.completions.specs.Boxes.{inside}
use Rattle.completions.proofs.Least.{Lowered, Open, region_whole}
use Rattle.completions.proofs.NextRow.{Good, Of, all_known, known_empty, good_value, known_first, known_more, values, values_sized}
use Rattle.completions.proofs.Boxes.{inside_at_lem}
use Rattle.completions.proofs.Witness.{Fine, NoneBefore, witness_is, witness_some}
use Rattle.chosen.specs.Chosen.{rows_on}
use Rattle.chart.specs.Chart.{graph_in, limit_in, list_in, musts_in, width_in}
use Rattle.tally.specs.Tally.{kind_of, table_of}
use Rattle.find.specs.Find as find
use Rattle.costing.specs.Costing.{free_in, tops}
use Rattle.least.specs.Least.{known_rows, least_of}
use Rattle.paths.specs.Path.{rows_in}
use Rattle.paths.specs.declared.Path.{Path}
use Rattle.fronted.specs.Filled.{FilledBy, Holding}
use Rattle.sought.specs.Sought.{First, NextOf, Searched, Wanted, lowest, row_of, sought_front, sought_witnesses, step_up, up_from, word}

nothing_below : (c : ℕ) → get_or lowest c 0 ≡ 0
nothing_below zero = refl
nothing_below (suc zero) = refl
nothing_below (suc (suc zero)) = refl
nothing_below (suc (suc (suc zero))) = refl
nothing_below (suc (suc (suc (suc c)))) = refl

tops_at : (c : ℕ) → c < 4 → get_or tops c 0 ≡ 33554432
tops_at zero l = refl
tops_at (suc zero) l = refl
tops_at (suc (suc zero)) l = refl
tops_at (suc (suc (suc zero))) l = refl
tops_at (suc (suc (suc (suc c)))) l = absurd (omega arith)

-- the limits one above a vector
up_at : (k : ℕ) (v : List ℕ) (c : ℕ) → c < 4 → get_or (up_from k v) c 0 ≡ step_up k c (get_or v c 0)
unfolding up_from
up_at k v zero l = refl
up_at k v (suc zero) l = refl
up_at k v (suc (suc zero)) l = refl
up_at k v (suc (suc (suc zero))) l = refl
up_at k v (suc (suc (suc (suc c)))) l = absurd (omega arith)

-- the words of a vector
row_at_lem : (v : List ℕ) (c : ℕ) → c < 4 → get_or (row_of v) c 0 ≡ word (get_or v c 0)
unfolding row_of
row_at_lem v zero l = refl
row_at_lem v (suc zero) l = refl
row_at_lem v (suc (suc zero)) l = refl
row_at_lem v (suc (suc (suc zero))) l = refl
row_at_lem v (suc (suc (suc (suc c)))) l = absurd (omega arith)

pub row_is : (v row : List ℕ) → length row ≡ 4 → ((i : ℕ) → i < 4 → get_or row i 0 ≡ word (get_or v i 0)) → row ≡ row_of v
unfolding row_of
row_is v row long each = ext_get_or 0 row (row_of v) long (λ i h. let low : i < 4 = omega arith in each i low ∙ sym (row_at_lem v i low))

four_long : (k : ℕ) (v : List ℕ) → k ≤ 4 → (length (take k (row_of v)) ≡ k) × (length (take k (up_from k v)) ≡ k)
unfolding row_of up_from
four_long k v h = (length-take-le k (row_of v) h, length-take-le k (up_from k v) h)

-- the places that are copied are those of another list
pub paste_part : (d : List ℕ) (at : ℕ) (s t : List ℕ) (n : ℕ) → take n s ≡ take n t → paste d at s n ≡ paste d at t n
paste_part d at s t n e = ap (λ (x : List ℕ). take at d ++ x ++ drop (at + n) d) e

step_is : (k c x : ℕ) → c < k → x < 33554432 → step_up k c x ≡ suc x
step_is k c x h l = rw (lt-ltb c k h) (omega arith)

pub up_past : (k : ℕ) (v : List ℕ) (c : ℕ) → k ≤ c → c < 4 → 0 < get_or (up_from k v) c 0
up_past k v c h l = rw (up_at k v c l, le-ltb c k h) (omega arith)

-- the search is asked with the chart's greatest node, its must rows and the free rows
pub next_on : {c firsts seconds heads kinds : List ℕ} {k : ℕ} {prices leads : List ℕ} → Searched c firsts seconds heads kinds k prices leads → {limit : ℕ} {musts free : List ℕ}
    → limit ≡ limit_in c → musts ≡ take 31 (rows_on heads) → free ≡ free_in firsts seconds heads limit → (costs : List ℕ) (n : ℕ) (best : Maybe (List ℕ))
    → NextOf firsts seconds limit kinds k prices leads musts free costs n best
    → NextOf firsts seconds (limit_in c) kinds k prices leads (musts_in c) (free_in firsts seconds heads (limit_in c)) costs n best
next_on {firsts = firsts} {seconds = seconds} {heads = heads} s at all rest costs n best next = rw (rest, at, all ∙ s.all_musts) at next

module _ {c firsts seconds heads kinds : List ℕ} {k : ℕ} {prices leads : List ℕ} (s : Searched c firsts seconds heads kinds k prices leads) (four : length kinds ≡ 4)
    {capacity : ℕ} {costs₀ witnesses₀ : List ℕ} (lent : Holding capacity k (width_in c) costs₀ witnesses₀) where
  abbrev g : Graph
  g = graph_in c

  abbrev width : ℕ
  width = width_in c

  abbrev must : List ℕ
  must = musts_in c

  abbrev w : Network
  w = table_of kinds k prices leads

  abbrev F : List (List ℕ)
  F = sought_front c kinds k prices leads

  abbrev L : List (List ℕ)
  L = sought_witnesses c kinds k prices leads

  abbrev wf : WellFormed g
  wf = s.ready.right.charted.formed

  kinds_long : length w.kinds ≡ k
  unfolding table_of
  kinds_long = length-map (take k kinds) kind_of ∙ length-take-le k kinds (omega (arith, four, s.ready.tables.few_criteria))

  vectors_long : Sized k F
  vectors_long v m = values_sized g wf w must v (front_out (values g wf w must) m).0 ∙ kinds_long

  trees_long : Sized width L
  trees_long p m = omega (arith, part_length (with_part_lem g must) p (front_listed w (list_in c) p m), s.ready.right.wide)

  trees_few : length L ≡ length F
  trees_few = front_trees_length w (list_in c)

  tops_past : (i : ℕ) → k ≤ i → i < 4 → 0 < get_or tops i 0
  tops_past i h l = omega (arith, tops_at i l)

  -- the first n rows stand in the tables
  pub record Standing (n : ℕ) (costs witnesses : List ℕ) : Type 0 where
    pub few : n ≤ length F
    pub fits : n ≤ capacity
    pub known : Known (values g wf w must) (take n F)
    pub costs_are : costs ≡ over (flat (take n F)) costs₀
    pub witnesses_are : witnesses ≡ over (flat (take n L)) witnesses₀

  pub standing_start : Standing 0 costs₀ witnesses₀
  unfolding flat
  standing_start = record { few = omega arith; fits = omega arith; known = known_empty g wf w must; costs_are = refl; witnesses_are = refl }

  module _ {n : ℕ} {costs witnesses : List ℕ} (st : Standing n costs witnesses) where
    known_fits : (x : ℕ) → n * x ≤ capacity * x
    known_fits x = mul-le-mul_right x st.fits

    pub standing_long : (length costs ≡ length costs₀) × (length witnesses ≡ length witnesses₀)
    standing_long = (
      ap length st.costs_are ∙ over_length k F vectors_long n st.few costs₀ (omega (arith, lent.costs_fit, known_fits k)),
      ap length st.witnesses_are ∙ over_length width L trees_long n (omega (arith, st.few, trees_few)) witnesses₀ (omega (arith, lent.trees_fit, known_fits width)),
    )

    pub standing_fits : n * k ≤ length costs
    standing_fits = omega (arith, standing_long.0, lent.costs_fit, known_fits k)

    -- one more fits
    pub standing_room : ¬ (n ≡ capacity) → Holding (n + 1) k width costs witnesses
    standing_room more =
        let less : n + 1 ≤ capacity = omega (arith, st.fits) in
        record {
          costs_fit = omega (arith, standing_long.0, lent.costs_fit, mul-le-mul_right k less);
          trees_fit = omega (arith, standing_long.1, lent.trees_fit, mul-le-mul_right width less);
        }

    -- the known rows are read back
    known_rows_lem : known_rows k (take (n * k) costs) ≡ take n F
    known_rows_lem =
        let long = part_long k F vectors_long n st.few in
        let here : take (n * k) costs ≡ flat (take n F) = ap (take (n * k)) st.costs_are ∙ take_at (flat (take n F)) (drop (length (flat (take n F))) costs₀) (n * k) long in
        let count : length (flat (take n F)) / k ≡ n = ap (λ (x : ℕ). x / k) long ∙ mul-div_cancel n s.ready.tables.some_criteria in
        ap (known_rows k) here
        ∙ ap (λ (m : ℕ). pieces k m (flat (take n F))) (count ∙ sym (length-take-le n F st.few))
        ∙ ap (pieces k (length (take n F))) (sym (append-nil (flat (take n F))))
        ∙ pieces_flat k (take n F) [] (λ v m. vectors_long v (take_out n F m))

    abbrev pub Next : Maybe (List ℕ) → Type 0
    Next best = NextOf firsts seconds (limit_in c) kinds k prices leads (musts_in c) (free_in firsts seconds heads (limit_in c)) costs n best

    abbrev OfHere : List ℕ → Type 0
    OfHere = Of g wf w must

    -- the search is over the graph of its tables, which is the chart's
    abbrev table : Graph
    table = find.graph_in firsts seconds (limit_in c)

    abbrev OfIn : Graph → List ℕ → Type 0
    OfIn x v = (p : List ℕ) × Good x must p × (cost_of w p ≡ v)

    -- what was found is the next row of the front
    lowered : (best : Maybe (List ℕ)) → Next best → Lowered OfHere (Open (take n F) (take k tops)) (Open (take n F) (take k tops)) none (least_of k best)
    lowered best next =
        subst (λ (x : Graph). Lowered (OfIn x) (Open (take n F) (take k tops)) (Open (take n F) (take k tops)) none (least_of k best)) s.ready.graph_is
        (subst (λ (rows : List (List ℕ)). Lowered (OfIn table) (Open rows (take k tops)) (Open rows (take k tops)) none (least_of k best)) known_rows_lem
        (region_whole (OfIn table) (known_rows k (take (n * k) costs)) lowest (take k tops) none (least_of k best) nothing_below (next s.footing tops_past)))

    under : (v : List ℕ) → OfHere v → T (inside (take k tops) v)
    under v o =
        let (p, i, e) = map_out (cost_of w) (list_in c) ((good_value g wf w must v).0 o) in
        subst (λ (x : List ℕ). T (inside (take k tops) x)) e (s.under p i)

    pub row_whole : Next None → FilledBy F L capacity costs₀ witnesses₀ (answered (record { count = n; whole = true })) costs witnesses
    row_whole next =
        let all : take n F ≡ F = all_known g wf w must (take n F) st.known (take k tops) under (lowered None next) in
        let end : length F ≡ n = sym (ap length all) ∙ length-take-le n F st.few in
        let count : min (length F) capacity ≡ n = omega (arith, st.fits) in
        record {
          answer = rw (count, le-leb _ _ (subst (λ (x : ℕ). x ≤ capacity) (sym end) st.fits));
          costs_are = st.costs_are ∙ ap (λ (x : List (List ℕ)). over (flat x) costs₀) (take_all n F (omega (arith, end)) ∙ sym (take_all capacity F (omega (arith, end, st.fits))));
          witnesses_are = st.witnesses_are ∙ ap (λ (x : List (List ℕ)). over (flat x) witnesses₀)
              (take_all n L (omega (arith, end, trees_few)) ∙ sym (take_all capacity L (omega (arith, end, st.fits, trees_few))));
        }

    module _ (vector : List ℕ) (next : Next (Some vector)) where
      abbrev v : List ℕ
      v = take k vector

      more : Known (values g wf w must) (take n F ++ (v ∷ [])) × (v ∈ F) × (length (take n F) < length F)
      more = known_more g wf w must (take n F) st.known (take k tops) under v (lowered (Some vector) next)

      longer : n < length F
      longer = omega (arith, more.2, length-take-le n F st.few)

      pub row_cut : n ≡ capacity → FilledBy F L capacity costs₀ witnesses₀ (answered (record { count = n; whole = false })) costs witnesses
      row_cut e =
          let count : min (length F) capacity ≡ n = omega (arith, longer) in
          record {
            answer = rw (count, lt-leb _ _ (subst (λ (x : ℕ). x < length F) e longer));
            costs_are = subst (λ (m : ℕ). costs ≡ over (flat (take m F)) costs₀) e st.costs_are;
            witnesses_are = subst (λ (m : ℕ). witnesses ≡ over (flat (take m L)) witnesses₀) e st.witnesses_are;
          }

      -- each component is below the top
      low : (i : ℕ) → i < k → get_or vector i 0 < 33554432
      low i h =
          let o = (good_value g wf w must v).1 (front_out (values g wf w must) more.1).0 in
          omega (
            arith,
            inside_at_lem (take k tops) v i (under v o) (omega (arith, vectors_long v more.1)),
            get_or-take k vector i 0 h,
            get_or-take k tops i 0 h,
            tops_at i (omega (arith, s.ready.tables.few_criteria)),
          )

      pub row_read : take k (row_of vector) ≡ v
      row_read =
          let few = s.ready.tables.few_criteria in
          let long = (four_long k vector few).0 in
          ext_get_or 0 (take k (row_of vector)) v (long ∙ sym (vectors_long v more.1)) (λ i h.
          let inside_k : i < k = omega (arith, long) in
          get_or-take k (row_of vector) i 0 inside_k ∙ row_at_lem vector i (omega arith) ∙ mod-eq_of_lt (omega (arith, low i inside_k))
          ∙ sym (get_or-take k vector i 0 inside_k))

      ups : take k (up_from k vector) ≡ map suc v
      ups = ext_get_or 0 (take k (up_from k vector)) (map suc v) (long ∙ sym (length-map v suc ∙ vectors_long v more.1)) (λ i h. at i (omega (arith, long)))
        where
          long : length (take k (up_from k vector)) ≡ k
          long = (four_long k vector s.ready.tables.few_criteria).1

          at : (i : ℕ) → i < k → get_or (take k (up_from k vector)) i 0 ≡ get_or (map suc v) i 0
          at i h =
              get_or-take k (up_from k vector) i 0 h
              ∙ up_at k vector i (omega (arith, s.ready.tables.few_criteria))
              ∙ step_is k i (get_or vector i 0) h (low i h)
              ∙ sym (map_at suc v i 0 0 (omega (arith, vectors_long v more.1)) ∙ ap suc (get_or-take k vector i 0 h))

      pub row_wanted : Wanted c kinds k prices leads (up_from k vector)
      row_wanted = subst (λ (x : List ℕ). (q : List ℕ) × Fine g w must x q) (sym ups) (witness_some g w must v more.1)

      module _ (path : Path) (first : First c kinds k prices leads (up_from k vector) path) where
        witness : tree_with w (list_in c) v ≡ rows_in path
        witness = witness_is g w must v more.1 (rows_in path) (subst (λ (x : List ℕ). Fine g w must x (rows_in path)) ups first.fine)
            (subst (λ (x : List ℕ). NoneBefore g w must x (rows_in path)) ups first.none_before)

        pub path_long : length (rows_in path) ≡ width
        path_long = omega (arith, part_length (with_part_lem g must) (rows_in path) first.fine.0, s.ready.right.wide)

        next_vectors : take n F ++ (v ∷ []) ≡ take (n + 1) F
        next_vectors = known_first g wf w must (take n F ++ (v ∷ [])) more.0
            ∙ ap (λ (m : ℕ). take m F) (length_snoc (take n F) v ∙ ap suc (length-take-le n F st.few) ∙ sym (add-one n))

        vector_here : take 1 (drop n F) ≡ v ∷ []
        vector_here = sym (drop_at (take n F) (take 1 (drop n F)) n (length-take-le n F st.few)) ∙ ap (drop n) (sym (take-add n 1 F) ∙ sym next_vectors)
            ∙ drop_at (take n F) (v ∷ []) n (length-take-le n F st.few)

        tree_here : take 1 (drop n L) ≡ rows_in path ∷ []
        unfolding front_trees
        tree_here = ap (take 1) (sym (map_drop (tree_with w (list_in c)) n F)) ∙ sym (map_take (tree_with w (list_in c)) 1 (drop n F)) ∙ ap (map (tree_with w (list_in c))) vector_here
            ∙ ap (λ (p : List ℕ). p ∷ []) witness

        module _ (fits : ¬ (n ≡ capacity)) (costs' witnesses' row trees : List ℕ) (new_costs : costs' ≡ paste costs (n * k) row k) (is_row : take k row ≡ v)
            (new_witnesses : witnesses' ≡ paste witnesses (n * width) trees width) (is_tree_lem : take width trees ≡ rows_in path) where
          pub row_more : Standing (n + 1) costs' witnesses'
          unfolding pieces
          row_more = record {
            few = omega (arith, longer);
            fits = omega (arith, st.fits);
            known = subst (Known (values g wf w must)) next_vectors more.0;
            costs_are = new_costs ∙ ap (λ (x : ℕ). paste costs (n * k) row x) (sym (one-mul k)) ∙ (rw st.costs_are
                (over_more k F vectors_long n st.few costs₀ 1 1 row (omega arith) (omega (arith, longer)) (ap (λ (x : List ℕ). x ∷ []) is_row ∙ sym vector_here)));
            witnesses_are = new_witnesses ∙ ap (λ (x : ℕ). paste witnesses (n * width) trees x) (sym (one-mul width)) ∙ (rw st.witnesses_are
                (over_more width L trees_long n (omega (arith, st.few, trees_few)) witnesses₀ 1 1 trees (omega arith) (omega (arith, longer, trees_few))
                (ap (λ (x : List ℕ). x ∷ []) is_tree_lem ∙ sym tree_here)));
          }

    -- what one more search says of rows that fill the tables
    pub row_last : n ≡ capacity → (best : Maybe (List ℕ)) → Next best → (whole : Bool) → is_some best ≡ not whole
        → FilledBy F L capacity costs₀ witnesses₀ (answered (record { count = n; whole = whole })) costs witnesses
    row_last e None next true d = row_whole next
    row_last e None next false d = cc
    row_last e (Some vector) next false d = row_cut vector next e
    row_last e (Some vector) next true d = cc

-- THE NUMBER EQUALS THE LIST'S LENGTH: the count by dropping and by merging is how many trees of the list keep the rows' states (`tree_counted`).
-- The trees that avoid a row and those that contain it are matched with those of the graph without it and merged along it, as in crate forests, here for
-- the trees that pass a test of their other rows.
use mathlib.Core.Path.{◌∙◌, ◌≡◌, ap, ap₂, refl, subst, sym}
use mathlib.Core.Logic.{◌↔◌, ⊎_elim}
use mathlib.Core.Bool.{Bool, ◌&&◌, false, not, true}
use mathlib.Core.List.{List, [], ◌∷◌, map}
use mathlib.Core.List.Memᴰ.{cases_cons as mem_cases}
use mathlib.Core.List.Memᴰ.{eq_of_singleton}
use mathlib.Core.List.Memᴰ.{head as here}
use mathlib.Core.List.Memᴰ.{cast as mem_cast}
use mathlib.Core.List.Memᴰ.{not-nil as mem_nil}
use mathlib.Core.List.Memᴰ.{tail as there}
use Prim.Native.Nat.{◌*◌, ◌+◌, ◌<◌, ◌≤◌, suc, ℕ}
use native.Mathlib.Decide.{ℕ_discrete}
use native.Mathlib.Omega.{arith}
use lib.Dec.{T, T_not, not_T}
use lib.ListN.{get_or-map, get_or, length, length-map, length-set, set}
use lib.Seq.{get_or-set_other}
use Rattle.lists.specs.Lists.{filter_b, keep_if, member}
use Rattle.lists.proofs.Distinct.{Distinct, filter_distinct}
use Rattle.lists.proofs.Members.{◌∈◌, ◌⊆◌, cons_⊆, filter_in, filter_out, filter_whole, mem_elim, member_in, member_out}
use Rattle.lists.proofs.Tests.{T-both}
use Rattle.graph.specs.Graph.{Graph, first_end, is_tree, second_end}
use Rattle.graph.specs.Paths.{trees}
use Rattle.graph.proofs.Growth.{Joins, back, forth}
use Rattle.graph.proofs.Minimal.{WellFormed}
use Rattle.graph.proofs.Tree.{tree_out}
use Rattle.graph.proofs.Trees.{trees_distinct}
use Rattle.forests.specs.Forests.{cut, goes, merged, rename, stays, without}
use Rattle.forests.proofs.Contraction.{Ends, contains_tree, merge_gone, merged_ends, merged_formed, merged_tree, rename_other, rename_this}
use Rattle.forests.proofs.Counts.{listed_tree, listed_unique, tree_listed}
use Rattle.forests.proofs.Cuts.{cut_back, cut_in, cut_old, cut_out}
use Rattle.forests.proofs.Deletion.{without_formed, without_gone, without_tree}
use Rattle.forests.proofs.Forest.{forest_ends, forest_nil}
use Rattle.forests.proofs.Joined.{Lies, lies_known}
use Rattle.forests.proofs.Matching.{matched}
use Rattle.forests.proofs.Spanning.{full_tree, tree_forest}
use Rattle.counts.specs.Counting.{Link, count}
use Rattle.counts.specs.Trees.{unite, whole}
use Rattle.costs.specs.Network.{State, barred, must, «open»}
use Rattle.counts.specs.States.{keeps_from, keeps_row, links_from, link_count, weight_of}
use Rattle.counts.proofs.Alike.{alone, differ, labels, no_node, whole_alone, whole_differ}
use Rattle.counts.proofs.Labels.{Coarser, unite_coarser, unite_joins, unite_least}
use Rattle.counts.proofs.Laws.{count_equal, merged_apart, merged_loop, merged_count}

-- a test of a tree's rows but e
abbrev pub Ignores : ℕ → (List ℕ → Bool) → Type 0
Ignores e t = (p q : List ℕ) → ((r : ℕ) → ¬ (r ≡ e) → (r ∈ p) ↔ (r ∈ q)) → T (t p) → T (t q)

-- how many trees pass a test
abbrev pub passing : (List ℕ → Bool) → Graph → ℕ
passing t g = length (filter_b t (trees g))

module _ (g : Graph) (wf : WellFormed g) (e : ℕ) (t : List ℕ → Bool) (ig : Ignores e t) where
  -- those without e that pass, and those with e that pass
  abbrev without_e : List ℕ → Bool
  without_e p = not (member e p) && t p

  abbrev with_e : List ℕ → Bool
  with_e p = member e p && t p

  abbrev Same : List ℕ → List ℕ → Type 0
  Same p q = (p ⊆ q) × (q ⊆ p)

  same_test : (p q : List ℕ) → Same p q → T (t p) → T (t q)
  same_test p q s = ig p q (λ r n. (s.0 r, s.1 r))

  out : {p : List ℕ} → p ∈ filter_b without_e (trees g) → (p ∈ trees g) × (¬ (e ∈ p)) × T (t p)
  out {p} i = let (j, x) = filter_out without_e (trees g) i in let (n, y) = (T-both (not (member e p)) (t p)).0 x in
      (j, λ k. T_not (member e p) n (member_in k), y)

  pub avoiding_passing : passing without_e g ≡ passing t (without g e)
  avoiding_passing = matched Same (filter_b without_e (trees g)) (filter_b t (trees (without g e))) (filter_distinct _ (trees g) (trees_distinct g))
      (filter_distinct _ (trees (without g e)) (trees_distinct (without g e)))
      (λ p i.
      let (j, n, x) = out i in
      let (q, k, (v, w)) = tree_listed (without g e) wf' p ((without_tree g wf e p).1 (listed_tree g wf j, n)) in
      (q, filter_in t k (same_test p q (w, v) x), (w, v)))
      into
      (λ p c q i j k r s. listed_unique g wf (out i).0 (out j).0 (λ x m. s.1 x (r.0 x m)) (λ x m. r.1 x (s.0 x m)))
      (λ p q d i j k r s. listed_unique (without g e) wf' (filter_out t _ j).0 (filter_out t _ k).0 (λ x m. s.0 x (r.1 x m)) (λ x m. r.0 x (s.1 x m)))
    where
      wf' : WellFormed (without g e)
      wf' = without_formed g wf e

      into : (q : List ℕ) → q ∈ filter_b t (trees (without g e)) → (p : List ℕ) × (p ∈ filter_b without_e (trees g)) × Same p q
      into q i =
          let (j, x) = filter_out t (trees (without g e)) i in
          let (y, n) = (without_tree g wf e q).0 (listed_tree (without g e) wf' j) in
          let (p, k, s) = tree_listed g wf q y in (
            p,
            filter_in without_e k ((T-both (not (member e p)) (t p)).1
                (not_T (member e p) (λ z. n (s.0 e (member_out e p z))), same_test q p (s.1, s.0) x)),
            s,
          )

  module _ (l : Lies g e) (n : ¬ (first_end g e ≡ second_end g e)) where
    abbrev With : List ℕ → List ℕ → Type 0
    With p q = (p ⊆ (e ∷ q)) × ((e ∷ q) ⊆ p)

    with_test : (p q : List ℕ) → With p q → (r : ℕ) → ¬ (r ≡ e) → (r ∈ p) ↔ (r ∈ q)
    with_test p q s r k = (λ i. ⊎_elim (λ z. absurd (k z)) (λ j. j) (mem_cases (s.0 r i)), λ i. s.1 r (there i))

    merged_listed : {q : List ℕ} → q ∈ trees (merged g e) → T (is_tree g (e ∷ q)) × (¬ (e ∈ q))
    merged_listed {q} i = (merged_tree g wf e l n q).0 (listed_tree (merged g e) (merged_formed g wf e l n) i)

    drop_e : {q d : List ℕ} → ¬ (e ∈ q) → q ⊆ (e ∷ d) → q ⊆ d
    drop_e k s x m = ⊎_elim (λ c. absurd (k (mem_cast (sym c) m))) (λ j. j) (mem_cases (s x m))

    pub containing_passing : passing with_e g ≡ passing t (merged g e)
    containing_passing = matched With (filter_b with_e (trees g)) (filter_b t (trees (merged g e))) (filter_distinct _ (trees g) (trees_distinct g))
        (filter_distinct _ (trees (merged g e)) (trees_distinct (merged g e))) across back
        (λ p c q i j k r s. listed_unique g wf (filter_out with_e _ i).0 (filter_out with_e _ j).0 (λ x m. s.1 x (r.0 x m)) (λ x m. r.1 x (s.0 x m)))
        (λ p q d i j k r s. let a = (filter_out t _ j).0 in let b = (filter_out t _ k).0 in listed_unique (merged g e) (merged_formed g wf e l n) a b
        (drop_e (merged_listed a).1 (λ x m. s.0 x (r.1 x (there m)))) (drop_e (merged_listed b).1 (λ x m. r.0 x (s.1 x (there m)))))
      where
        across : (p : List ℕ) → p ∈ filter_b with_e (trees g) → (q : List ℕ) × (q ∈ filter_b t (trees (merged g e))) × With p q
        across p i =
            let (j, x) = filter_out with_e (trees g) i in
            let (y, z) = (T-both (member e p) (t p)).0 x in
            let tree = listed_tree g wf j in
            let m = member_out e p y in
            let (q, k, (v, w)) = tree_listed (merged g e) (merged_formed g wf e l n) (cut e p) ((contains_tree g wf e l n p (tree_out g p tree).once m).0 tree) in
            let s : With p q = (
              λ x i. mem_elim (λ (y : ℕ). y ∈ e ∷ q) (cut_back e p x i) (here refl) (λ o. there (w x o)),
              cons_⊆ m (λ x i. cut_old e p x (v x i)),
            ) in (q, filter_in t k (ig p q (with_test p q s) z), s)

        back : (q : List ℕ) → q ∈ filter_b t (trees (merged g e)) → (p : List ℕ) × (p ∈ filter_b with_e (trees g)) × With p q
        back q i =
            let (j, x) = filter_out t (trees (merged g e)) i in
            let (p, k, s) = tree_listed g wf (e ∷ q) (merged_listed j).0 in
            (p, filter_in with_e k ((T-both (member e p) (t p)).1 (member_in (s.1 e (here refl)), ig q p (λ r d. ((with_test p q s r d).1, (with_test p q s r d).0)) x)), s)

  -- a row that is a loop is in no tree
  pub loop_passing : first_end g e ≡ second_end g e → passing with_e g ≡ 0
  loop_passing d = none (filter_b with_e (trees g)) (λ p i.
      let (j, x) = filter_out with_e (trees g) i in
      forest_ends (tree_forest g wf p (listed_tree g wf j)) (member_out e p ((T-both (member e p) (t p)).0 x).0) d)
    where
      none : (l : List (List ℕ)) → ((p : List ℕ) → ¬ (p ∈ l)) → length l ≡ 0
      none [] h = refl
      none (p ∷ l) h = absurd (h p (here refl))

-- those with a row and those without it make up all that pass
keep_if_parts : (b c : Bool) (x : List ℕ) (l m k : List (List ℕ)) → length k ≡ length l + length m
    → length (keep_if c x k) ≡ length (keep_if (not b && c) x l) + length (keep_if (b && c) x m)
keep_if_parts true true x l m k e = omega arith
keep_if_parts true false x l m k e = e
keep_if_parts false true x l m k e = omega arith
keep_if_parts false false x l m k e = e

pub filter_parts : (b c : List ℕ → Bool) (l : List (List ℕ)) → length (filter_b c l) ≡ length (filter_b (λ p. not (b p) && c p) l) + length (filter_b (λ p. b p && c p) l)
unfolding filter_b
filter_parts b c [] = omega arith
filter_parts b c (x ∷ l) = keep_if_parts (b x) (c x) x _ _ _ (filter_parts b c l)

-- what is asked of later rows ignores an earlier one
row_ignores : (s : State) (e r : ℕ) → ¬ (r ≡ e) → (p q : List ℕ) → ((x : ℕ) → ¬ (x ≡ e) → (x ∈ p) ↔ (x ∈ q)) → T (keeps_row s r p) → T (keeps_row s r q)
row_ignores «open» e r n p q h t = tt
row_ignores must e r n p q h t = member_in ((h r n).0 (member_out r p t))
row_ignores barred e r n p q h t = not_T (member r q) (λ z. T_not (member r p) t (member_in ((h r n).1 (member_out r q z))))

keeps_ignores : (e r : ℕ) (ss : List State) → e < r → Ignores e (keeps_from r ss)
unfolding keeps_from
keeps_ignores e r [] l p q h t = tt
keeps_ignores e r (s ∷ ss) l p q h t =
    let (a, b) = (T-both (keeps_row s r p) (keeps_from (suc r) ss p)).0 t in
    (T-both (keeps_row s r q) (keeps_from (suc r) ss q)).1 (row_ignores s e r (λ z. omega arith) p q h a, keeps_ignores e (suc r) ss (omega arith) p q h b)

-- A graph h that shows what is left of g after its rows below r are dropped or merged: node v of g is node lab v of h

pub record Shown (g h : Graph) (lab : ℕ → ℕ) (r : ℕ) : Type 0 where
  pub formed : WellFormed h
  pub idle : (q : ℕ) → q < r → ¬ Lies h q
  pub size : length h.first_ends ≡ length g.first_ends
  pub firsts : (q : ℕ) → r ≤ q → first_end h q ≡ lab (first_end g q)
  pub seconds : (q : ℕ) → r ≤ q → second_end h q ≡ lab (second_end g q)
  pub to : (u : ℕ) → u ∈ g.nodes → lab u ∈ h.nodes
  pub from : (v : ℕ) → v ∈ h.nodes → (u : ℕ) × (u ∈ g.nodes) × (lab u ≡ v)

pub shown_start : (g : Graph) → WellFormed g → Shown g g (λ v. v) 0
shown_start g wf = record {
  formed = wf;
  idle = λ q l. absurd (omega arith);
  size = refl;
  firsts = λ q l. refl;
  seconds = λ q l. refl;
  to = λ u i. i;
  from = λ v i. (v, i, refl);
}

module _ (g h : Graph) (lab : ℕ → ℕ) (r : ℕ) (s : Shown g h lab r) where
  shown_without : Shown g (without h r) lab (suc r)
  shown_without = record {
    formed = without_formed h s.formed r;
    idle = λ q l k. elim (ℕ_discrete q r) [
      | yes e ↦ without_gone h s.formed r (subst (Lies (without h r)) e k)
      | no n ↦ s.idle q (omega arith) (record {
        first = mem_cast (sym (get_or-set_other h.first_ends r q 0 0 n)) k.first;
        second = mem_cast (sym (get_or-set_other h.second_ends r q 0 0 n)) k.second;
      })
    ];
    size = length-set h.first_ends r 0 ∙ s.size;
    firsts = λ q l. get_or-set_other h.first_ends r q 0 0 (λ e. omega arith) ∙ s.firsts q (omega arith);
    seconds = λ q l. get_or-set_other h.second_ends r q 0 0 (λ e. omega arith) ∙ s.seconds q (omega arith);
    to = s.to;
    from = s.from;
  }

  module _ (k : Lies h r) (n : ¬ (first_end h r ≡ second_end h r)) where
    abbrev a : ℕ
    a = stays h r

    abbrev b : ℕ
    b = goes h r

    ends : Ends h r a b
    ends = merged_ends h r k n

    end_merged : (l : List ℕ) (q : ℕ) → ¬ (q ≡ r) → get_or (set (map (rename a b) l) r 0) q 0 ≡ rename a b (get_or l q 0)
    end_merged l q d =
        let z : rename a b 0 ≡ 0 = rename_other a b 0 (λ d. s.formed.no_zero (mem_cast d ends.go)) in
        get_or-set_other (map (rename a b) l) r q 0 0 d ∙ subst (λ (x : ℕ). get_or (map (rename a b) l) q x ≡ rename a b (get_or l q 0)) z (get_or-map (rename a b) l q 0)

    node_merged : (v : ℕ) → v ∈ h.nodes → rename a b v ∈ cut b h.nodes
    node_merged v m = elim (ℕ_discrete v b) [
      | yes d ↦ mem_cast (rename_this a b v d) (cut_in b ends.stay ends.differ)
      | no d ↦ mem_cast (rename_other a b v d) (cut_in b m d)
    ]

    node_back : (v : ℕ) → rename a b v ∈ cut b h.nodes → v ∈ h.nodes
    node_back v m = elim (ℕ_discrete v b) [
      | yes d ↦ mem_cast d ends.go
      | no d ↦ cut_old b h.nodes v (mem_cast (sym (rename_other a b v d)) m)
    ]

    shown_merged : Shown g (merged h r) (λ v. rename a b (lab v)) (suc r)
    shown_merged = record {
      formed = merged_formed h s.formed r k n;
      idle = λ q l j. elim (ℕ_discrete q r) [
        | yes e ↦ merge_gone h s.formed r a b ends (subst (Lies (merged h r)) e j)
        | no d ↦ s.idle q (omega arith) (record {
          first = node_back (first_end h q) (mem_cast (sym (end_merged h.first_ends q d)) j.first);
          second = node_back (second_end h q) (mem_cast (sym (end_merged h.second_ends q d)) j.second);
        })
      ];
      size = length-set (map (rename a b) h.first_ends) r 0 ∙ length-map h.first_ends (rename a b) ∙ s.size;
      firsts = λ q l. end_merged h.first_ends q (λ e. omega arith) ∙ ap (rename a b) (s.firsts q (omega arith));
      seconds = λ q l. end_merged h.second_ends q (λ e. omega arith) ∙ ap (rename a b) (s.seconds q (omega arith));
      to = λ u i. node_merged (lab u) (s.to u i);
      from = λ v i.
          let (j, d) = cut_out b h.nodes i in
          let (u, m, e) = s.from v j in
          (u, m, ap (rename a b) e ∙ rename_other a b v d);
    }

    -- the labels join the same nodes as those of the count
    labels_merged : (ns : List ℕ) (es : List Link) → count ns (unite lab (first_end g r) (second_end g r)) es ≡ count ns (λ v. rename a b (lab v)) es
    labels_merged ns es = by ends.row
      where
        p : first_end h r ≡ lab (first_end g r)
        p = s.firsts r (omega arith)

        q : second_end h r ≡ lab (second_end g r)
        q = s.seconds r (omega arith)

        by : Joins h r a b → count ns (unite lab (first_end g r) (second_end g r)) es ≡ count ns (λ v. rename a b (lab v)) es
        by (forth i j) = ap₂ (λ (x y : ℕ). count ns (λ v. rename x y (lab v)) es) (sym p ∙ i) (sym q ∙ j)
        by (back i j) = count_equal ns (unite lab (first_end g r) (second_end g r)) (unite lab (second_end g r) (first_end g r)) es
            (turn (first_end g r) (second_end g r)) (turn (second_end g r) (first_end g r))
            ∙ ap₂ (λ (x y : ℕ). count ns (λ v. rename x y (lab v)) es) (sym q ∙ j) (sym p ∙ i)
          where
            turn : (x y : ℕ) → Coarser (unite lab x y) (unite lab y x)
            turn x y = unite_least lab x y (unite lab y x) (unite_coarser lab y x) (sym (unite_joins lab y x))

-- No row is left

only_nil : (l : List (List ℕ)) → Distinct l → [] ∈ l → ((p : List ℕ) → p ∈ l → p ≡ []) → length l ≡ 1
only_nil [] d i f = absurd (mem_nil i)
only_nil (x ∷ []) d i f = refl
only_nil (x ∷ y ∷ l) d i f = absurd (d.0 (here (f x (here refl) ∙ sym (f y (there (here refl))))))

nothing_in : {A : Type 0} (l : List A) → ((a : A) → ¬ (a ∈ l)) → l ≡ []
nothing_in [] h = refl
nothing_in (a ∷ l) h = absurd (h a (here refl))

module _ (g h : Graph) (lab : ℕ → ℕ) (s : Shown g h lab (length g.first_ends)) where
  empty_tree : (p : List ℕ) → p ∈ trees h → p ≡ []
  empty_tree p i = nothing_in p (λ r j.
      let k = (tree_forest h s.formed p (listed_tree h s.formed i)).lies r j in
      s.idle r (rw s.size at (lies_known h s.formed r k)) k)

  single_node : (v : ℕ) → ((u : ℕ) → u ∈ h.nodes → u ≡ v) → length h.nodes ≡ 1
  single_node v f = one h.nodes s.formed.once s.formed.plant f
    where
      one : {p : ℕ} (l : List ℕ) → Distinct l → p ∈ l → ((u : ℕ) → u ∈ l → u ≡ v) → length l ≡ 1
      one [] d i f = absurd (mem_nil i)
      one (x ∷ []) d i f = refl
      one (x ∷ y ∷ l) d i f = absurd (d.0 (here (f x (here refl) ∙ sym (f y (there (here refl))))))

  none_left : length (trees h) ≡ whole g.nodes lab
  none_left = elim (labels g.nodes lab) [
    | no_node e ↦ let (u, i, k) = s.from h.plant s.formed.plant in absurd (mem_nil (rw e at i))
    | alone p i f ↦ here_one p (λ v j. let (u, m, e) = s.from v j in sym e ∙ f u m) ∙ sym (whole_alone g.nodes lab p i f)
    | differ u v i j n ↦ ap length (nothing_in (trees h) (λ p k.
        let size = (tree_out h p (listed_tree h s.formed k)).size in
        n (both_same h.nodes (sym size ∙ ap (λ (q : List ℕ). suc (length q)) (empty_tree p k)) (s.to u i) (s.to v j)))) ∙ sym (whole_differ g.nodes lab u v i j n)
  ]
    where
      both_same : {x y : ℕ} (l : List ℕ) → length l ≡ 1 → x ∈ l → y ∈ l → x ≡ y
      both_same [] e i j = absurd (omega arith)
      both_same (z ∷ []) e i j = eq_of_singleton i ∙ sym (eq_of_singleton j)
      both_same (z ∷ w ∷ l) e i j = absurd (omega arith)

      here_one : (p : ℕ) → ((v : ℕ) → v ∈ h.nodes → v ≡ lab p) → length (trees h) ≡ 1
      here_one p f =
          let t = full_tree h s.formed [] (forest_nil h) (sym (single_node (lab p) f)) in
          let (q, i, c) = tree_listed h s.formed [] t in
          only_nil (trees h) (trees_distinct h) (mem_cast (sym (empty_tree q i)) i) empty_tree

-- Row by row

module _ (g : Graph) (lies : (r : ℕ) → r < length g.first_ends → Lies g r) where
  counted : (ss : List State) (r : ℕ) (h : Graph) (lab : ℕ → ℕ) → Shown g h lab r → r + length ss ≡ length g.first_ends
      → passing (keeps_from r ss) h ≡ count g.nodes lab (links_from g r ss)
  unfolding keeps_from links_from count
  counted [] r h lab s e =
      let z : r ≡ length g.first_ends = omega arith in
      ap length (filter_whole (keeps_from r []) (trees h) (λ p i. tt)) ∙ none_left g h lab (subst (Shown g h lab) z s)
  counted (q ∷ ss) r h lab s e = by q (elim (ℕ_discrete (lab (first_end g r)) (lab (second_end g r))) [
    | yes d ↦ loop_passing h s.formed r t ig (s.firsts r (omega arith) ∙ d ∙ sym (s.seconds r (omega arith)))
        ∙ sym (merged_loop g.nodes lab (first_end g r) (second_end g r) (links_from g (suc r) ss) d)
    | no d ↦ let n : ¬ (first_end h r ≡ second_end h r) = λ z. d (sym (s.firsts r (omega arith)) ∙ z ∙ s.seconds r (omega arith)) in
        containing_passing h s.formed r t ig here_lies n
        ∙ counted ss (suc r) (merged h r) _ (shown_merged g h lab r s here_lies n) (omega arith)
        ∙ sym (merged_apart g.nodes lab (first_end g r) (second_end g r) (links_from g (suc r) ss) d
        ∙ labels_merged g h lab r s here_lies n g.nodes (links_from g (suc r) ss))
  ]) (avoiding_passing h s.formed r t ig ∙ counted ss (suc r) (without h r) lab (shown_without g h lab r s) (omega arith))
    where
      t : List ℕ → Bool
      t = keeps_from (suc r) ss

      ig : Ignores r t
      ig = keeps_ignores r (suc r) ss (omega arith)

      here_lies : Lies h r
      here_lies = let l = lies r (omega arith) in record {
        first = mem_cast (s.firsts r (omega arith)) (s.to (first_end g r) l.first);
        second = mem_cast (s.seconds r (omega arith)) (s.to (second_end g r) l.second);
      }

      by : (q : State) → passing (λ p. member r p && t p) h ≡ merged_count g.nodes lab (first_end g r) (second_end g r) (links_from g (suc r) ss)
          → passing (λ p. not (member r p) && t p) h ≡ count g.nodes lab (links_from g (suc r) ss)
          → passing (λ p. keeps_row q r p && t p) h ≡ (weight_of q).dropped * count g.nodes lab (links_from g (suc r) ss)
          + (weight_of q).merged * merged_count g.nodes lab (first_end g r) (second_end g r) (links_from g (suc r) ss)
      by «open» c a = omega (arith, filter_parts (member r) t (trees h))
      by must c a = omega arith
      by barred c a = omega arith

  -- THE NUMBER
  pub tree_counted : WellFormed g → (ss : List State) → length ss ≡ length g.first_ends → link_count g ss ≡ passing (keeps_from 0 ss) g
  unfolding link_count
  tree_counted wf ss e = sym (counted ss 0 g (λ v. v) (shown_start g wf) (omega arith))

-- The search for a WITNESS: the first path of the list that has all must rows and is inside limits, a wanted one (`Fine`). A walk holds a path p of the list
-- and a number n of its first rows. Its invariant (`Sought`): no wanted path stands before p, and one begins with these n rows. It asks whether one begins
-- with a row more (`Question`; `opens_some`, `opens_none`). If so, n grows (`sought_deeper`). If not, it goes on to the first path past all that begin so:
-- paths that begin alike stand together, so that one has the same n rows (`sought_after`); there always is one (`sought_none`). With all rows of p, p is the
-- first wanted path (`sought_end`). Its measure: the paths left behind p (`after_left`), and then the rows of p behind n. With limits one above a vector of
-- the front there is a wanted path (`witness_some`), and the first is the vector's witness (`witness_is`).
use mathlib.Core.Path.{◌∙◌, ◌≡◌, ap, subst, sym}
use mathlib.Core.Logic.{◌↔◌, inl, inr, ⊎_elim}
use mathlib.Core.Option.{none, some}
use mathlib.Core.List.Memᴰ.{append_cases}
use mathlib.Core.List.Memᴰ.{append_left}
use mathlib.Core.List.Memᴰ.{cases_cons as mem_cases}
use mathlib.Core.List.Memᴰ.{map as map_in}
use mathlib.Core.List.{List, [], ◌∷◌, map}
use Prim.Native.Nat.{◌<◌, ◌≤◌, suc, ℕ}
use native.Mathlib.Decide.{ℕ_discrete}
use native.Mathlib.Omega.{arith}
use lib.Dec.{T}
use lib.ListN.{length, length-map, take}
use lib.Seq.{length-take-le, take_all, take-append_seam}
use Rattle.lists.specs.Lists.{filter_b}
use Rattle.lists.proofs.Distinct.{Distinct, filter_distinct, mem?, pigeonhole_one}
use Rattle.lists.proofs.Members.{◌∈◌, ◌⊆◌, filter_in, filter_out}
use Rattle.lists.proofs.Orders.{Ascending, less_asym}
use Rattle.lists.proofs.Tests.{T-both}
use Rattle.graph.specs.Graph.{Graph, is_tree, row_numbers}
use Rattle.graph.specs.Paths.{is_minimal, path_less}
use Rattle.graph.proofs.Growth.{rows_of, start}
use Rattle.graph.proofs.Listing.{AtMost}
use Rattle.graph.proofs.Minimal.{WellFormed, row_numbers_in}
use Rattle.graph.proofs.Parts.{FirstIn, Part, part_distinct, part_length}
use Rattle.graph.proofs.Steps.{steps_rows}
use Rattle.graph.proofs.Tree.{minimal_tree, tree_out}
use Rattle.graph.proofs.Trees.{path_order}
use Rattle.graph.proofs.Walk.{completion_part}
use Rattle.costs.specs.Costs.{cost_of, front_of, none_larger, tree_with}
use Rattle.costs.specs.Network.{Network}
use Rattle.costs.proofs.Fronts.{front_out}
use Rattle.costs.proofs.FrontTrees.{witness_first, witness_out}
use Rattle.costs.proofs.Vectors.{none_larger_cases}
use Rattle.forests.proofs.Forest.{Forest, forest_part}
use Rattle.forests.proofs.Joined.{Lies}
use Rattle.forests.proofs.Spanning.{tree_forest}
use Rattle.bounds.specs.Bounds.{begins}
use Rattle.bounds.proofs.Lower.{Branched, branched}
use Rattle.bounds.proofs.Prefix.{AfterIn, NoneAfterIn, begins_out, begins_take, trees_between}
use Rattle.bounds.proofs.Segments.{append_ascending}
use Rattle.states.specs.States.{trees_with}
use Rattle.states.proofs.With.{with_mem, with_part_lem}
use Rattle.operations.proofs.Costs.{cost_same}
use Rattle.completions.specs.Boxes.{inside}
use Rattle.completions.specs.Coming.{lies, may_come}
use Rattle.passes.proofs.Places.{left}
use Rattle.completions.proofs.Begins.{tree_begins}
use Rattle.completions.proofs.Boxes.{inside_cons, inside_length, larger_cons}
use Rattle.completions.proofs.Coming.{lies_out, rest_come}
use Rattle.completions.proofs.Find.{Answers}

-- LEFT: past the paths that begin alike fewer are left
pub after_left : {g : Graph} {paths : List (List ℕ)} → Part g paths → (prefix p q : List ℕ) → AfterIn g paths prefix p q → left g paths q < left g paths p
unfolding left
after_left {g} {paths} part prefix p q a =
    pigeonhole_one (filter_b (path_less g q) paths) (filter_distinct (path_less g q) paths (part_distinct part))
    (λ x m. let (i, t) = filter_out (path_less g q) paths m in filter_in (path_less g p) i ((path_order g).trans p q x a.above t))
    (filter_in (path_less g p) a.listed a.above)
    (λ m. (path_order g).irrefl q (filter_out (path_less g q) paths m).1)

-- a path that begins with a prefix has its rows first
begins_rows : (prefix q : List ℕ) → T (begins prefix q) → take (length prefix) q ≡ prefix
begins_rows prefix q t = let (rest, e) = begins_out prefix q t in ap (take (length prefix)) e ∙ take-append_seam prefix rest

-- Paths that are wanted

module _ (g : Graph) (w : Network) (musts limits : List ℕ) where
  -- a path with all must rows inside the limits
  abbrev pub Fine : List ℕ → Type 0
  Fine p = (p ∈ trees_with g musts) × T (inside limits (cost_of w p))

  -- one begins with the prefix, or none does
  abbrev pub Opens : List ℕ → Type 0
  Opens prefix = (q : List ℕ) × Fine q × T (begins prefix q)

  abbrev pub Shuts : List ℕ → Type 0
  Shuts prefix = (q : List ℕ) → Fine q → ¬ T (begins prefix q)

  -- the first one is p, or stands behind p
  abbrev pub NoneBefore : List ℕ → Type 0
  NoneBefore p = (q : List ℕ) → Fine q → AtMost g p q

  -- what a walk holds
  pub record Sought (p : List ℕ) (n : ℕ) : Type 0 where
    pub listed : p ∈ trees_with g musts
    pub before : (q : List ℕ) → Fine q → AtMost g p q
    pub begun : (q : List ℕ) × Fine q × T (begins (take n p) q)

-- What one question tells

-- the first n rows of p and the must rows are in, and the other rows that may come behind these n are usable
pub record Question (g : Graph) (musts p : List ℕ) (n : ℕ) (inc us : List ℕ) : Type 0 where
  pub listed : p ∈ trees_with g musts
  pub once : Distinct inc
  pub within : inc ⊆ p
  pub first : take n p ⊆ inc
  pub must : musts ⊆ inc
  pub only : (r : ℕ) → r ∈ inc → ¬ (r ∈ take n p) → r ∈ musts
  pub usable : (r : ℕ) → (r ∈ us) ↔ ((r ∈ row_numbers g) × T (may_come g (take n p) r) × (¬ (r ∈ musts)))

module _ (g : Graph) (wf : WellFormed g) (musts : List ℕ) where
  -- a path of the branch
  module _ (prefix q : List ℕ) (m : q ∈ trees_with g musts) (t : T (begins prefix q)) where
    minimal : T (is_minimal g q)
    minimal = ((with_mem g wf musts q).0 m).0

    tree : T (is_tree g q)
    tree = minimal_tree g wf q minimal

    branch : Branched g prefix q
    branch = branched g wf prefix q minimal t

    prefix_in : prefix ⊆ q
    prefix_in r i = subst (λ (l : List ℕ). r ∈ l) (sym branch.rows) (append_left (rows_of branch.later) i)

    behind_comes : (r : ℕ) → r ∈ q → ¬ (r ∈ prefix) → T (may_come g prefix r)
    behind_comes r i n = rest_come g wf prefix q tree branch r
        (⊎_elim (λ j. absurd (n j)) (λ j. j) (append_cases prefix (subst (λ (l : List ℕ). r ∈ l) branch.rows i)))

    -- a tree with the rows of the prefix whose other rows may come has a path of the branch
    tree_branch : (u : List ℕ) → T (is_tree g u) → prefix ⊆ u → ((r : ℕ) → r ∈ u → ¬ (r ∈ prefix) → T (may_come g prefix r))
        → (x : List ℕ) × T (is_minimal g x) × T (begins prefix x) × (x ⊆ u) × (u ⊆ x)
    tree_branch u z has come =
        let b = branch in
        let e : rows_of b.done ≡ prefix = steps_rows g (g.plant ∷ []) prefix b.done b.made in
        rw e at (tree_begins g wf b.done (completion_part g (row_numbers g) (start g) b.done b.later b.whole).0 u z (rw e has) (rw e come))

  module _ (p : List ℕ) (n : ℕ) (inc us : List ℕ) (h : Question g musts p n inc us) where
    pub inc_forest : Forest g inc
    inc_forest = forest_part h.once h.within (tree_forest g wf p (tree (take n p) p h.listed (begins_take n p)))

    pub us_lie : (r : ℕ) → r ∈ us → Lies g r
    unfolding may_come
    us_lie r m = lies_out g r ((T-both (lies g r) _).0 ((h.usable r).0 m).1).0

    module _ (w : Network) (limits : List ℕ) where
      -- SOME
      pub opens_some : (t : List ℕ) → Answers g w limits inc us (some t) → Opens g w musts limits (take n p)
      opens_some t a =
          let (q, m, b, x, y) = tree_branch (take n p) p h.listed (begins_take n p) t a.tree (λ r i. a.has r (h.first r i)) comes in (
            q,
            (
              (with_mem g wf musts q).1 (m, λ r i. y r (a.has r (h.must r i))),
              subst (λ (v : List ℕ). T (inside limits v)) (cost_same w t q (tree_out g t a.tree).once (tree_out g q (minimal_tree g wf q m)).once y x) a.low,
            ),
            b,
          )
        where
          comes : (r : ℕ) → r ∈ t → ¬ (r ∈ take n p) → T (may_come g (take n p) r)
          comes r i d = elim (mem? ℕ_discrete r inc) [
            | yes j ↦ behind_comes (take n p) p h.listed (begins_take n p) r (h.within r j) d
            | no k ↦ ((h.usable r).0 (a.rest r i k)).1
          ]

      -- NONE
      pub opens_none : Answers g w limits inc us none → Shuts g w musts limits (take n p)
      opens_none a q (m, low) t = a q (record {
        tree = tree (take n p) q m t;
        has = λ r i. elim (mem? ℕ_discrete r (take n p)) [
          | yes j ↦ prefix_in (take n p) q m t r j
          | no k ↦ ((with_mem g wf musts q).0 m).1 r (h.only r i k)
        ];
        once = h.once;
        rest = λ r i k. (h.usable r).1 (
          row_numbers_in g r ((tree_out g q (tree (take n p) q m t)).rows r i),
          behind_comes (take n p) q m t r i (λ j. k (h.first r j)),
          λ j. k (h.must r j),
        );
      }) low

-- THE LOOP

module _ (g : Graph) (w : Network) (musts limits : List ℕ) where
  pub sought_first : (p : List ℕ) → FirstIn g (trees_with g musts) p → ((q : List ℕ) × Fine g w musts limits q) → Sought g w musts limits p 0
  sought_first p f (q, z) = record { listed = f.listed; before = λ x (m, low). f.least x m; begun = (q, z, begins_take 0 q) }

  module _ (p : List ℕ) (n : ℕ) (s : Sought g w musts limits p n) where
    -- DEEPER
    pub sought_deeper : Opens g w musts limits (take (suc n) p) → Sought g w musts limits p (suc n)
    sought_deeper o = record { listed = s.listed; before = s.before; begun = o }

    module _ (shut : Shuts g w musts limits (take (suc n) p)) where
      -- all wanted paths stand behind p
      all_behind : (q : List ℕ) → Fine g w musts limits q → T (path_less g p q)
      all_behind q z = ⊎_elim (λ e. absurd (shut q z (subst (λ (x : List ℕ). T (begins (take (suc n) p) x)) e (begins_take (suc n) p)))) (λ l. l) (s.before q z)

      -- AFTER
      pub sought_after : suc n ≤ length p → (p' : List ℕ) → AfterIn g (trees_with g musts) (take (suc n) p) p p' → Sought g w musts limits p' n
      sought_after h p' a =
          let (q, z, t) = s.begun in
          record { listed = a.listed; before = next; begun = (q, z, subst (λ (x : List ℕ). T (begins x q)) (sym (alike q z t (next q z))) t) }
        where
          next : (q : List ℕ) → Fine g w musts limits q → AtMost g p' q
          next q z = a.least q z.0 (all_behind q z) (shut q z)

          same_rows_lem : (q : List ℕ) → T (begins (take n p) q) → take n q ≡ take n p
          same_rows_lem q t = subst (λ (k : ℕ). take k q ≡ take n p) (length-take-le n p (omega arith)) (begins_rows (take n p) q t)

          alike : (q : List ℕ) → Fine g w musts limits q → T (begins (take n p) q) → AtMost g p' q → take n p' ≡ take n p
          alike q z t (inl e) = ap (take n) e ∙ same_rows_lem q t
          alike q z t (inr l) =
              let listed = (with_part_lem g musts).listed in
              same_rows_lem p' (trees_between g (take n p) p p' q (listed p s.listed) (listed p' a.listed) (listed q z.0) a.above l (begins_take n p) t)

      -- NONE
      pub sought_none : NoneAfterIn g (trees_with g musts) (take (suc n) p) p → ⊥
      sought_none a = let (q, z, t) = s.begun in shut q z (a q z.0 (all_behind q z))

    -- END
    pub sought_end : length p ≤ n → Fine g w musts limits p × NoneBefore g w musts limits p
    sought_end h =
        let (q, z, t) = s.begun in
        let long = part_length (with_part_lem g musts) in
        let e : q ≡ p =
        sym (take_all (length p) q (omega (arith, long p s.listed, long q z.0))) ∙ begins_rows p q (subst (λ (x : List ℕ). T (begins x q)) (take_all n p h) t) in
        (subst (Fine g w musts limits) e z, s.before)

-- The witness of a vector of the front

-- one above a vector
inside_next : (v : List ℕ) → T (inside (map suc v) v)
unfolding inside
inside_next [] = tt
inside_next (x ∷ v) = (inside_cons (suc x) x (map suc v) v).1 (omega arith, inside_next v)

next_inside : (v u : List ℕ) → T (inside (map suc v) u) → T (none_larger u v)
unfolding inside none_larger
next_inside [] [] t = tt
next_inside [] (y ∷ u) t = absurd t
next_inside (x ∷ v) [] t = absurd t
next_inside (x ∷ v) (y ∷ u) t = let (l, i) = (inside_cons (suc x) y (map suc v) u).0 t in larger_cons y x u v (omega arith) (next_inside v u i)

module _ (g : Graph) (w : Network) (musts v : List ℕ) (m : v ∈ front_of (map (cost_of w) (trees_with g musts))) where
  abbrev vectors : List (List ℕ)
  vectors = map (cost_of w) (trees_with g musts)

  witness_fine : Fine g w musts (map suc v) (tree_with w (trees_with g musts) v)
  witness_fine =
      let (i, e) = witness_out w (trees_with g musts) v (front_out vectors m).0 in
      (i, subst (λ (u : List ℕ). T (inside (map suc v) u)) (sym e) (inside_next v))

  pub witness_some : (q : List ℕ) × Fine g w musts (map suc v) q
  witness_some = (tree_with w (trees_with g musts) v, witness_fine)

  -- a vector of the front is the only one below these limits
  fine_vector : (p : List ℕ) → Fine g w musts (map suc v) p → cost_of w p ≡ v
  fine_vector p (i, low) = ⊎_elim (λ e. e) (λ d. absurd ((front_out vectors m).1 (cost_of w p) (map_in (cost_of w) i) d))
      (none_larger_cases (cost_of w p) v (sym (inside_length (map suc v) (cost_of w p) low) ∙ length-map v suc) (next_inside v (cost_of w p) low))

  pub witness_is : (p : List ℕ) → Fine g w musts (map suc v) p → NoneBefore g w musts (map suc v) p → tree_with w (trees_with g musts) v ≡ p
  witness_is p z least =
      let (before, behind, stands, none_before) = witness_first w (trees_with g musts) v (front_out vectors m).0 in
      let up = append_ascending (path_less g) before (f ∷ behind) (subst (Ascending (path_less g)) stands (with_part_lem g musts).ascending) in
      ⊎_elim
      (λ i. absurd (none_before p i (fine_vector p z)))
      (λ i. ⊎_elim (λ (e : p ≡ f). sym e)
      (λ j. ⊎_elim (λ (e : p ≡ f). sym e) (λ l. absurd (less_asym (path_order g) p f l (up.0 p j))) (least f witness_fine))
      (mem_cases i))
      (append_cases before (subst (λ (l : List (List ℕ)). p ∈ l) stands z.0))
    where
      f : List ℕ
      f = tree_with w (trees_with g musts) v

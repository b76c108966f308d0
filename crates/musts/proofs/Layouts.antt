-- LAYOUTS: spanning trees with all rows of ms, and with rows of ps only. Where there is one there is a lightest one (`lightest_layout`). A row of a spanning tree
-- gives way to rows that join its ends (`gives_way`), another comes in where rows do not join its ends (`comes_in`), and such an exchange keeps a layout (`layout_swap`).
use mathlib.Core.Path.{sym}
use mathlib.Core.Bool.{Bool}
use mathlib.Core.List.Memᴰ.{cast as mem_cast}
use mathlib.Core.List.Memᴰ.{tail as there}
use mathlib.Core.List.{List}
use Prim.Native.Nat.{◌≤◌, ℕ}
use native.Mathlib.Omega.{arith}
use lib.Dec.{T}
use Rattle.lists.specs.Lists.{all, both, filter_b, member}
use Rattle.lists.proofs.Members.{◌∈◌, ◌⊆◌, all_in, all_out, cons_⊆, filter_in, filter_out, member_in, member_out}
use Rattle.lists.proofs.Sums.{sum_within}
use Rattle.lists.proofs.Tests.{T-both}
use Rattle.graph.specs.Graph.{Graph, first_end, is_tree, second_end}
use Rattle.graph.specs.Paths.{trees}
use Rattle.graph.proofs.Minimal.{WellFormed}
use Rattle.graph.proofs.Tree.{tree_out}
use Rattle.forests.specs.Forests.{cut, swap, weight}
use Rattle.forests.proofs.Counts.{listed_tree, tree_listed}
use Rattle.forests.proofs.Crossing.{crosses}
use Rattle.forests.proofs.Cuts.{cut_in, cut_old}
use Rattle.forests.proofs.Exchange.{exchange}
use Rattle.forests.proofs.Joined.{Joined, Lies, joined_ends}
use Rattle.forests.proofs.Parts.{spans_all}
use Rattle.forests.proofs.Rows.{crossing_row, least_in}
use Rattle.forests.proofs.Spanning.{tree_forest, tree_spans}

pub record Layout (g : Graph) (ms ps ts : List ℕ) : Type 0 where
  pub tree : T (is_tree g ts)
  pub musts : ms ⊆ ts
  pub allowed : ts ⊆ ps

-- a list of layouts, one for each set of rows at least
pub record Listed (g : Graph) (ms ps : List ℕ) (L : List (List ℕ)) : Type 0 where
  pub layout : (p : List ℕ) → p ∈ L → Layout g ms ps p
  pub path : (ts : List ℕ) → Layout g ms ps ts → (p : List ℕ) × (p ∈ L) × ((p ⊆ ts) × (ts ⊆ p))

-- no layout weighs less
abbrev pub LightestIn : Graph → List ℕ → List ℕ → (ℕ → ℕ) → List ℕ → Type 0
LightestIn g ms ps w ts = (ss : List ℕ) → Layout g ms ps ss → weight w ts ≤ weight w ss

module _ (g : Graph) (wf : WellFormed g) (ms ps : List ℕ) where
  -- an exchange of a row that is no must row
  pub layout_swap : (ts : List ℕ) (f e : ℕ) → Layout g ms ps ts → ¬ (f ∈ ms) → e ∈ ps → T (is_tree g (swap f e ts)) → Layout g ms ps (swap f e ts)
  layout_swap ts f e h n i t = record {
    tree = t;
    musts = λ r m. there (cut_in f (h.musts r m) (λ d. n (mem_cast (sym d) m)));
    allowed = cons_⊆ i (λ r m. h.allowed r (cut_old f ts r m));
  }

  -- LIGHTEST
  pub lightest_layout : (w : ℕ → ℕ) (ts : List ℕ) → Layout g ms ps ts → (bs : List ℕ) × Layout g ms ps bs × LightestIn g ms ps w bs
  lightest_layout w ts h =
      let (p, i) = listed ts h in
      let (q, j, least) = least_in (weight w) (filter_b test (trees g)) i in
      let k = layout j in (
        q,
        k,
        λ ss s.
            let (c, l, (x, y)) = tree_listed g wf ss s.tree in
            let m : c ∈ filter_b test (trees g) = filter_in test l (test_in c (λ r i. y r (s.musts r i)) (λ r i. s.allowed r (x r i))) in
            omega (arith, least c m, sum_within w c (tree_out g c (listed_tree g wf l)).once x),
      )
    where
      test : List ℕ → Bool
      test p = both (all (λ r. member r p) ms) (all (λ r. member r ps) p)

      test_in : (p : List ℕ) → ms ⊆ p → p ⊆ ps → T (test p)
      test_in p a b = (T-both (all (λ r. member r p) ms) (all (λ r. member r ps) p)).1
          (all_in (λ r. member r p) ms (λ r i. member_in (a r i)), all_in (λ r. member r ps) p (λ r i. member_in (b r i)))

      listed : (ts : List ℕ) → Layout g ms ps ts → (p : List ℕ) × (p ∈ filter_b test (trees g))
      listed ts h =
          let (p, i, (u, v)) = tree_listed g wf ts h.tree in
          (p, filter_in test i (test_in p (λ r j. v r (h.musts r j)) (λ r j. h.allowed r (u r j))))

      layout : {p : List ℕ} → p ∈ filter_b test (trees g) → Layout g ms ps p
      layout {p} i =
          let (j, t) = filter_out test (trees g) i in
          let (a, b) = (T-both (all (λ r. member r p) ms) (all (λ r. member r ps) p)).0 t in
          record {
            tree = listed_tree g wf j;
            musts = λ r k. member_out r p (all_out (λ r. member r p) a k);
            allowed = λ r k. member_out r ps (all_out (λ r. member r ps) b k);
          }

module _ (g : Graph) (wf : WellFormed g) (gs ts : List ℕ) (t : T (is_tree g ts)) (e : ℕ) where
  -- a row of a spanning tree whose ends other rows join gives way to one of them
  pub gives_way : e ∈ ts → ¬ (e ∈ gs) → Joined g gs (first_end g e) (second_end g e) → (r : ℕ) × (r ∈ gs) × (¬ (r ∈ ts)) × T (is_tree g (swap e r ts))
  gives_way i n j =
      let (r, k, (l, c)) = crossing_row g (cut e ts) gs j ((tree_forest g wf ts t).apart e i) in
      (r, k, λ m. c (joined_ends (cut_in e m (λ d. n (mem_cast (sym d) k))) l), exchange g wf ts e r t i l c)

  -- a row that is not there takes the place of one, where rows do not join its ends: of none of these
  pub comes_in : Lies g e → ¬ Joined g gs (first_end g e) (second_end g e) → (f : ℕ) × (f ∈ ts) × (¬ (f ∈ gs)) × T (is_tree g (swap f e ts))
  comes_in l n =
      let x = tree_forest g wf ts t in
      let (f, c) = crosses g gs ts x (first_end g e) (second_end g e)
      (spans_all g ts (tree_spans g wf ts t) (first_end g e) (second_end g e) l.first l.second) n in
      (f, c.row, λ i. c.crossing (joined_ends i (x.lies f c.row)), exchange g wf ts f e t c.row l c.needed)

-- GREEDY: rows ls that complete rows ps to a spanning tree weigh, matched one by one, no less than the greedy choice from a sequence of rows that has them
-- all and ascends by weight (`greedy_lighter`). By exchange: the first row of the sequence that ps does not close is in the tree, or takes the place of
-- a row of ls. Rows that fail a test may be left out of an ascending sequence (`rising_filter`), and a weight that agrees on it may take the place of another (`rising_same`).
-- Rows that are sorted by their weights ascend (`sort_rising`).
use mathlib.Core.Path.{◌≡◌, refl, subst, sym}
use mathlib.Core.Logic.{◌⊎◌, inl, inr, ⊎_elim}
use mathlib.Core.Bool.{Bool, false, true}
use mathlib.Core.List.Memᴰ.{cases_cons as mem_cases}
use mathlib.Core.List.Memᴰ.{cast as mem_cast}
use mathlib.Core.List.Memᴰ.{head as here}
use mathlib.Core.List.Memᴰ.{not-nil as mem_nil}
use mathlib.Core.List.Memᴰ.{tail as there}
use mathlib.Core.List.{List, [], ◌∷◌}
use Prim.Native.Nat.{◌≤◌, ℕ}
use native.Mathlib.Decide.{ℕ_discrete}
use native.Mathlib.Omega.{arith}
use lib.Dec.{T, ltb, ltb→lt}
use Rattle.lists.specs.Lists.{filter_b, insert, keep_if, pick, sort}
use Rattle.lists.proofs.Distinct.{Distinct, mem?}
use Rattle.lists.proofs.Members.{◌∈◌, ◌⊆◌, cons_⊆, filter_out, mem_elim}
use Rattle.lists.proofs.Orders.{insert_out}
use Rattle.lists.proofs.Tests.{not_ltb→le, pick_elim}
use Rattle.graph.specs.Graph.{Graph, first_end, is_tree, second_end}
use Rattle.graph.proofs.Minimal.{WellFormed}
use Rattle.forests.specs.Forests.{cut, swap}
use Rattle.forests.proofs.Closure.{joined_runs}
use Rattle.forests.proofs.Crossing.{crosses}
use Rattle.forests.proofs.Cuts.{cut_distinct, cut_in, cut_old, cut_or, cut_out}
use Rattle.forests.proofs.Exchange.{exchange}
use Rattle.forests.proofs.Joined.{Joined, Lies, joined_ends, joined_more}
use Rattle.forests.proofs.Parts.{spans_all}
use Rattle.forests.proofs.Spanning.{tree_forest, tree_spans}
use Rattle.completions.specs.Greedy.{closes, greedy}
use Rattle.completions.proofs.Lighter.{Lighter}

-- the rows ascend by weight
abbrev pub Rising : (ℕ → ℕ) → List ℕ → Type 0
Rising w [] = Unit {0}
Rising w (r ∷ rs) = ((q : ℕ) → q ∈ rs → w r ≤ w q) × Rising w rs

-- those of them that pass a test, too
pub rising_filter : (w : ℕ → ℕ) (test : ℕ → Bool) (rs : List ℕ) → Rising w rs → Rising w (filter_b test rs)
unfolding filter_b
rising_filter w test [] up = tt
rising_filter w test (r ∷ rs) up = keep (test r) (rising_filter w test rs up.1)
  where
    keep : (b : Bool) → Rising w (filter_b test rs) → Rising w (keep_if b r (filter_b test rs))
    keep true h = (λ q m. up.0 q (filter_out test rs m).0, h)
    keep false h = h

-- by a weight that agrees on the rows, too
pub rising_same : (w v : ℕ → ℕ) (rs : List ℕ) → ((r : ℕ) → r ∈ rs → w r ≡ v r) → Rising w rs → Rising v rs
rising_same w v [] same up = tt
rising_same w v (r ∷ rs) same up = (
  λ q m. rw (← same r (here refl), ← same q (there m)) (up.0 q m),
  rising_same w v rs (λ q m. same q (there m)) up.1,
)

-- ts is a spanning tree of the rows ps and, apart from them, ls
pub record Completes (g : Graph) (ps ls ts : List ℕ) : Type 0 where
  pub tree : T (is_tree g ts)
  pub around : ps ⊆ ts
  pub rest : ls ⊆ ts
  pub within : (q : ℕ) → q ∈ ts → (q ∈ ps) ⊎ (q ∈ ls)
  pub apart : (q : ℕ) → q ∈ ls → ¬ (q ∈ ps)
  pub once : Distinct ls

none_left : (ls : List ℕ) → ls ⊆ [] → ls ≡ []
none_left [] s = refl
none_left (l ∷ ls) s = absurd (mem_nil (s l (here refl)))

module _ (g : Graph) (wf : WellFormed g) (ps ls ts : List ℕ) (c : Completes g ps ls ts) (r : ℕ) where
  -- a row that ps closes is not among ls
  closed_out : Joined g ps (first_end g r) (second_end g r) → ¬ (r ∈ ls)
  closed_out j i = (tree_forest g wf ts c.tree).apart r (c.rest r i)
      (joined_more (λ q m. cut_in r (c.around q m) (λ e. c.apart r i (mem_cast (sym e) m))) j)

  -- a row of ls counts among the rows that stand
  taken : r ∈ ls → Completes g (r ∷ ps) (cut r ls) ts
  taken i = record {
    tree = c.tree;
    around = cons_⊆ (c.rest r i) c.around;
    rest = λ q m. c.rest q (cut_old r ls q m);
    within = λ q m. ⊎_elim (λ k. inl (there k)) (λ k. ⊎_elim (λ e. inl (here e)) (λ z. inr z) (cut_or r k)) (c.within q m);
    apart = λ q m k. ⊎_elim (cut_out r ls m).1 (c.apart q (cut_old r ls q m)) (mem_cases k);
    once = cut_distinct r ls c.once;
  }

  -- a row that ps does not close, and that is none of ls, takes the place of one of ls
  swapped : Lies g r → ¬ Joined g ps (first_end g r) (second_end g r) → ¬ (r ∈ ls) → (f : ℕ) × (f ∈ ls) × Completes g (r ∷ ps) (cut f ls) (swap f r ts)
  swapped l n out =
      let forest = tree_forest g wf ts c.tree in
      let (f, x) = crosses g ps ts forest (first_end g r) (second_end g r)
      (spans_all g ts (tree_spans g wf ts c.tree) (first_end g r) (second_end g r) l.first l.second) n in
      let new : ¬ (f ∈ ps) = λ i. x.crossing (joined_ends i (forest.lies f x.row)) in (
        f,
        ⊎_elim (λ i. absurd (new i)) (λ i. i) (c.within f x.row),
        record {
          tree = exchange g wf ts f r c.tree x.row l x.needed;
          around = cons_⊆ (here refl) (λ q m. there (cut_in f (c.around q m) (λ e. new (mem_cast (sym e) m))));
          rest = λ q m. let (i, d) = cut_out f ls m in there (cut_in f (c.rest q i) d);
          within = λ q m. mem_elim (λ (x : ℕ). (x ∈ r ∷ ps) ⊎ (x ∈ cut f ls)) m (inl (here refl))
              (λ k. let (i, d) = cut_out f ts k in ⊎_elim (λ z. inl (there z)) (λ z. inr (cut_in f z d)) (c.within q i));
          apart = λ q m k. let (i, d) = cut_out f ls m in ⊎_elim (λ e. out (mem_cast (sym e) i)) (c.apart q i) (mem_cases k);
          once = cut_distinct f ls c.once;
        },
      )

-- GREEDY
pub greedy_lighter : (g : Graph) → WellFormed g → (w : ℕ → ℕ) (rs ps ls ts : List ℕ) → Rising w rs → ((r : ℕ) → r ∈ rs → Lies g r)
    → Completes g ps ls ts → ls ⊆ rs → Lighter w (greedy g ps rs) ls
unfolding greedy
greedy_lighter g wf w [] ps ls ts up lies c s = none_left ls s
greedy_lighter g wf w (r ∷ rs) ps ls ts up lies c s =
    step (λ ps ls ts d z. greedy_lighter g wf w rs ps ls ts up.1 (λ q m. lies q (there m)) d z)
  where
    l : Lies g r
    l = lies r (here refl)

    other : (q : ℕ) → q ∈ ls → ¬ (q ≡ r) → q ∈ rs
    other q m n = ⊎_elim (λ e. absurd (n e)) (λ k. k) (mem_cases (s q m))

    later : ¬ (r ∈ ls) → ls ⊆ rs
    later n q m = other q m (λ e. n (mem_cast (sym e) m))

    heavier : (f : ℕ) → f ∈ ls → w r ≤ w f
    heavier f m = mem_elim (λ (x : ℕ). w r ≤ w x) (s f m) (omega arith) (up.0 f)

    step : ((ps ls ts : List ℕ) → Completes g ps ls ts → ls ⊆ rs → Lighter w (greedy g ps rs) ls)
        → Lighter w (pick (closes g ps r) (greedy g ps rs) (r ∷ greedy g (r ∷ ps) rs)) ls
    step ih = pick_elim (λ (x : List ℕ). Lighter w x ls) (closes g ps r)
        (λ t. ih ps ls ts c (later (closed_out g wf ps ls ts c r ((joined_runs g ps (first_end g r) (second_end g r) l.first).1 t))))
        (λ n. elim (mem? ℕ_discrete r ls) [
          | yes i ↦ (r, i, omega arith, ih (r ∷ ps) (cut r ls) ts (taken g wf ps ls ts c r i) (λ q m. let (k, d) = cut_out r ls m in other q k d))
          | no out ↦
              let (f, i, d) = swapped g wf ps ls ts c r l (λ j. n ((joined_runs g ps (first_end g r) (second_end g r) l.first).0 j)) out in
              (f, i, heavier f i, ih (r ∷ ps) (cut f ls) (swap f r ts) d (λ q m. later out q (cut_old f ls q m)))
        ])

-- Rows sorted by their weights

module _ (w : ℕ → ℕ) where
  abbrev lighter : ℕ → ℕ → Bool
  lighter x y = ltb (w x) (w y)

  insert_rising : (a : ℕ) (l : List ℕ) → Rising w l → Rising w (insert lighter a l)
  unfolding insert
  insert_rising a [] up = (λ q m. absurd (mem_nil m), tt)
  insert_rising a (b ∷ l) up = pick_elim (Rising w) (lighter b a)
      (λ t. (
        λ q m. ⊎_elim (λ d. subst (λ (x : ℕ). w b ≤ w x) (sym d) (omega (arith, ltb→lt (w b) (w a) t))) (up.0 q) (insert_out lighter l m),
        insert_rising a l up.1,
      ))
      (λ n.
      let low : w a ≤ w b = not_ltb→le (w b) (w a) n in
      (λ q m. ⊎_elim (λ d. subst (λ (x : ℕ). w a ≤ w x) (sym d) low) (λ i. omega (arith, low, up.0 q i)) (mem_cases m), up))

  pub sort_rising : (l : List ℕ) → Rising w (sort lighter l)
  unfolding sort
  sort_rising [] = tt
  sort_rising (a ∷ l) = insert_rising a (sort lighter l) (sort_rising l)

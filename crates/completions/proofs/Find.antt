-- FIND: one node of a search for a tree inside limits. The rows `inc` are in, the usable rows are undecided, all others are out. An answer is a tree of
-- the node that is inside the limits, or that there is none (`Answers`). There is none if a greedy choice from the usable rows is too short (`short_none`),
-- or if inc is a whole tree that is not inside (`only_none`). A full choice makes a tree (`made_inside`).
-- Else the node is split at a row of a choice (`choice_pivot`), out and in (`branches`). Rows that reach a limit beside inc need not be usable (`wider`),
-- and the rows that are in may stand in any sequence (`same_rows_lem`).
use mathlib.Core.Path.{◌∙◌, ◌≡◌, ap, subst, sym}
use mathlib.Core.Logic.{◌↔◌, ⊎_elim}
use mathlib.Core.Option.{Option, none, some}
use mathlib.Core.List.{List, [], ◌++◌, ◌∷◌}
use mathlib.Core.List.Memᴰ.{append_cases}
use mathlib.Core.List.Memᴰ.{append_left}
use mathlib.Core.List.Memᴰ.{append_right}
use mathlib.Core.List.Memᴰ.{cases_cons as mem_cases}
use mathlib.Core.List.Memᴰ.{cast as mem_cast}
use mathlib.Core.List.Memᴰ.{head as here}
use mathlib.Core.List.Memᴰ.{tail as there}
use Prim.Native.Nat.{◌+◌, ◌≤◌, suc, ℕ}
use native.Mathlib.Decide.{ℕ_discrete}
use native.Mathlib.Omega.{arith}
use lib.Dec.{T}
use lib.ListN.{get_or, get_elem?, length, length-append}
use Rattle.lists.proofs.Distinct.{Distinct, filled, mem?}
use Rattle.lists.proofs.Members.{◌∈◌, ◌⊆◌, cons_⊆}
use Rattle.lists.proofs.Sums.{largest_within, sum_within}
use Rattle.graph.specs.Graph.{Graph, is_tree}
use Rattle.graph.proofs.Minimal.{WellFormed}
use Rattle.graph.proofs.Tree.{tree_out}
use Rattle.costs.specs.Costs.{cost_at, cost_by, cost_of, none_larger}
use Rattle.costs.specs.Network.{Kind, Network, added, closing, worst}
use Rattle.costs.proofs.Criteria.{kinds_at, kinds_below}
use Rattle.forests.proofs.Forest.{Forest, forest_part}
use Rattle.forests.proofs.Joined.{Lies}
use Rattle.forests.proofs.Spanning.{full_tree}
use Rattle.bounds.proofs.Closing.{closing_within}
use Rattle.operations.proofs.Costs.{cost_same}
use Rattle.completions.specs.Boxes.{inside}
use Rattle.completions.specs.Greedy.{greedy}
use Rattle.completions.proofs.Boxes.{inside_down}
use Rattle.completions.proofs.Coming.{append_apart}
use Rattle.completions.proofs.Greedy.{Rising}
use Rattle.completions.proofs.Labels.{greedy_forest, greedy_from}
use Rattle.completions.proofs.Search.{Within, search_in, search_length}

-- MORE: more rows cost no less, in any criterion

cost_by_lem : (w : Network) (x y : List ℕ) → Distinct x → x ⊆ y → (kind : Kind) (c : ℕ) → cost_by kind w c x ≤ cost_by kind w c y
cost_by_lem w x y d s added c = sum_within (cost_at w c) x d s
cost_by_lem w x y d s worst c = largest_within (cost_at w c) x s
cost_by_lem w x y d s closing c = closing_within w c x y d s

pub cost_more : (w : Network) (x y : List ℕ) → Distinct x → x ⊆ y → T (none_larger (cost_of w x) (cost_of w y))
unfolding cost_of
cost_more w x y d s = kinds_below (λ kind c. cost_by kind w c x) (λ kind c. cost_by kind w c y) (cost_by_lem w x y d s) 0 w.kinds

-- a component of the cost vector, by its kind
pub cost_at_lem : (w : Network) (c : ℕ) (kind : Kind) (p : List ℕ) → get_elem? w.kinds c ≡ some kind → get_or (cost_of w p) c 0 ≡ cost_by kind w c p
unfolding cost_of
cost_at_lem w c kind p e = kinds_at (λ kind c. cost_by kind w c p) 0 w.kinds c kind e ∙ ap (λ (i : ℕ). cost_by kind w i p) from_zero
  where
    from_zero : 0 + c ≡ c
    from_zero = omega arith

-- a tree with the rows inc, other rows usable, inside the limits
pub record Inside (g : Graph) (w : Network) (limits inc usable p : List ℕ) : Type 0 where
  pub tree : T (is_tree g p)
  pub has : inc ⊆ p
  pub rest : (r : ℕ) → r ∈ p → ¬ (r ∈ inc) → r ∈ usable
  pub low : T (inside limits (cost_of w p))

-- what an answer says
abbrev pub Answers : Graph → Network → List ℕ → List ℕ → List ℕ → Option (List ℕ) → Type 0
Answers g w limits inc usable none = (p : List ℕ) → Within g inc usable p → ¬ T (inside limits (cost_of w p))
Answers g w limits inc usable (some p) = Inside g w limits inc usable p

module _ (g : Graph) (w : Network) (limits : List ℕ) where
  -- WIDER: the rows that do not fit beside inc are in no tree of the node
  pub wider : (inc usable us : List ℕ) → us ⊆ usable → ((r : ℕ) → r ∈ usable → T (inside limits (cost_of w (r ∷ inc))) → r ∈ us)
      → (o : Option (List ℕ)) → Answers g w limits inc us o → Answers g w limits inc usable o
  wider inc usable us part fit none h = λ p k i. h p (record {
    tree = k.tree;
    has = k.has;
    once = k.once;
    rest = λ r m n. fit r (k.rest r m n) (inside_down limits (cost_of w (r ∷ inc)) (cost_of w p) (cost_more w (r ∷ inc) p (n, k.once) (cons_⊆ m k.has)) i);
  }) i
  wider inc usable us part fit (some p) h = record { tree = h.tree; has = h.has; rest = λ r m n. part r (h.rest r m n); low = h.low }

  -- SAME: the rows that are in, in another sequence
  pub same_rows_lem : (inc inc' us : List ℕ) → inc ⊆ inc' → inc' ⊆ inc → Distinct inc' → (o : Option (List ℕ)) → Answers g w limits inc' us o → Answers g w limits inc us o
  same_rows_lem inc inc' us s t d none h = λ p k. h p (record {
    tree = k.tree;
    has = λ r m. k.has r (t r m);
    once = d;
    rest = λ r m n. k.rest r m (λ i. n (s r i));
  })
  same_rows_lem inc inc' us s t d (some p) h = record { tree = h.tree; has = λ r m. h.has r (s r m); rest = λ r m n. h.rest r m (λ i. n (t r i)); low = h.low }

  -- ONLY: where inc is a whole tree, it is the only one
  pub only_none : (inc us : List ℕ) → suc (length inc) ≡ length g.nodes → ¬ T (inside limits (cost_of w inc)) → Answers g w limits inc us none
  only_none inc us e n p h i = n (subst (λ (v : List ℕ). T (inside limits v)) (cost_same w p inc (tree_out g p h.tree).once h.once
      (filled ℕ_discrete inc p h.once h.has (omega (arith, e, (tree_out g p h.tree).size))) h.has) i)

  -- BRANCHES: `less` are the usable rows without row `at`, which is out, or in
  module _ (inc us less : List ℕ) (at : ℕ) (left : (r : ℕ) → (r ∈ less) ↔ ((r ∈ us) × (¬ (r ≡ at)))) where
    -- a tree without the row
    pub branch_out : (p : List ℕ) → Answers g w limits inc less (some p) → Answers g w limits inc us (some p)
    branch_out p x = record { tree = x.tree; has = x.has; rest = λ r m k. ((left r).0 (x.rest r m k)).0; low = x.low }

    -- a tree with the row
    pub branch_in : (p : List ℕ) → at ∈ us → Answers g w limits (at ∷ inc) less (some p) → Answers g w limits inc us (some p)
    branch_in p i y = record {
      tree = y.tree;
      has = λ r m. y.has r (there m);
      rest = λ r m k. elim (ℕ_discrete r at) [
        | yes e ↦ mem_cast e i
        | no d ↦ ((left r).0 (y.rest r m (λ z. ⊎_elim d k (mem_cases z)))).0
      ];
      low = y.low;
    }

    -- neither
    pub branch_none : ¬ (at ∈ inc) → Answers g w limits inc less none → Answers g w limits (at ∷ inc) less none → Answers g w limits inc us none
    branch_none n x y = λ p h. elim (mem? ℕ_discrete at p) [
      | no out ↦ x p (record {
        tree = h.tree;
        has = h.has;
        once = h.once;
        rest = λ r m k. (left r).1 (h.rest r m k, λ e. out (mem_cast (sym e) m));
      })
      | yes m ↦ y p (let z = search_in g inc us p h at m n in record {
        tree = z.tree;
        has = z.has;
        once = z.once;
        rest = λ r i k. (left r).1 (z.rest r i k, λ e. k (here e));
      })
    ]

-- Choices from usable rows

module _ (g : Graph) (inc us : List ℕ) (lies : (r : ℕ) → r ∈ us → Lies g r) (seq : List ℕ) (within : seq ⊆ us) where
  seq_lies : (r : ℕ) → r ∈ seq → Lies g r
  seq_lies r m = lies r (within r m)

  -- PIVOT: a row of the choice is usable, not in, and keeps a forest
  pub choice_pivot : Forest g inc → (at : ℕ) → at ∈ greedy g inc seq → (at ∈ us) × (¬ (at ∈ inc)) × Forest g (at ∷ inc)
  choice_pivot forest at m =
      let whole = greedy_forest g seq inc forest seq_lies in
      let out = append_apart inc (greedy g inc seq) whole.once at m in (
        within at (greedy_from g seq inc at m),
        out,
        forest_part (out, forest.once) (cons_⊆ (append_right inc m) (λ r i. append_left (greedy g inc seq) i)) whole,
      )

  module _ (wf : WellFormed g) (w : Network) (limits : List ℕ) where
    -- MADE: a full choice makes a tree
    pub made_inside : Forest g inc → suc (length inc + length (greedy g inc seq)) ≡ length g.nodes → T (inside limits (cost_of w (inc ++ greedy g inc seq)))
        → Inside g w limits inc us (inc ++ greedy g inc seq)
    made_inside forest e t = record {
      tree = full_tree g wf (inc ++ greedy g inc seq) (greedy_forest g seq inc forest seq_lies) (ap suc (length-append inc (greedy g inc seq)) ∙ e);
      has = λ r m. append_left (greedy g inc seq) m;
      rest = λ r m n. ⊎_elim (λ i. absurd (n i)) (λ i. within r (greedy_from g seq inc r i)) (append_cases inc m);
      low = t;
    }

    -- from all of them
    module _ (all : us ⊆ seq) where
      within_seq : (p : List ℕ) → Within g inc us p → Within g inc seq p
      within_seq p h = record { tree = h.tree; has = h.has; once = h.once; rest = λ r m n. all r (h.rest r m n) }

      -- SHORT: a choice that leaves a node out
      pub short_none : ¬ (suc (length inc + length (greedy g inc seq)) ≡ length g.nodes) → Answers g w limits inc us none
      short_none n p h i = n (search_length g wf inc seq p seq_lies (within_seq p h) (λ r. 0) (flat seq))
        where
          -- any sequence ascends by a weight that all rows have
          flat : (l : List ℕ) → Rising (λ r. 0) l
          flat [] = tt
          flat (r ∷ l) = (λ q m. omega arith, flat l)

-- The rows that a tree of a branch has behind the prefix may all COME (`rest_come`). So a search with the rows of the prefix in needs only the rows that
-- may come to choose from.
use mathlib.Core.Path.{subst, sym}
use mathlib.Core.Logic.{⊎_elim}
use mathlib.Core.Bool.{not}
use mathlib.Core.List.{List, [], ◌++◌, ◌∷◌}
use mathlib.Core.List.Memᴰ.{append_right}
use mathlib.Core.List.Memᴰ.{cases_cons as mem_cases}
use mathlib.Core.List.Memᴰ.{cast as mem_cast}
use mathlib.Core.List.Memᴰ.{map as map_in}
use mathlib.Core.List.Memᴰ.{not-nil as mem_nil}
use mathlib.Core.List.Memᴰ.{of_map as map_out}
use Prim.Native.Nat.{ℕ}
use lib.Dec.{T, not_T}
use Rattle.lists.specs.Lists.{any, member}
use Rattle.lists.proofs.Distinct.{Distinct}
use Rattle.lists.proofs.Members.{◌∈◌, any_in, filter_in, member_in, member_out}
use Rattle.lists.proofs.Tests.{T-both}
use Rattle.graph.specs.Graph.{Graph, first_end, is_tree, row_numbers, second_end}
use Rattle.graph.specs.Paths.{Key, steps}
use Rattle.graph.proofs.Growth.{rows_of, start}
use Rattle.graph.proofs.Minimal.{WellFormed}
use Rattle.graph.proofs.Walk.{state_after}
use Rattle.bounds.specs.Bounds.{allowed, entered_by, keys_or, last_key, no_key}
use Rattle.bounds.proofs.Lower.{Branched, branch_later}
use Rattle.bounds.proofs.Missing.{entered_is, rows_map, step_legal}
use Rattle.bounds.proofs.Sharp.{later_allowed}
use Rattle.forests.proofs.Joined.{Lies}
use Rattle.forests.proofs.Spanning.{tree_forest}
use Rattle.completions.specs.Coming.{lies, may_come}

-- rows between nodes, as a test
pub lies_in_lem : (g : Graph) (r : ℕ) → Lies g r → T (lies g r)
lies_in_lem g r l = (T-both (member (first_end g r) g.nodes) (member (second_end g r) g.nodes)).1 (member_in l.first, member_in l.second)

pub lies_out : (g : Graph) (r : ℕ) → T (lies g r) → Lies g r
lies_out g r t =
    let (f, s) = (T-both (member (first_end g r) g.nodes) (member (second_end g r) g.nodes)).0 t in
    record { first = member_out (first_end g r) g.nodes f; second = member_out (second_end g r) g.nodes s }

-- what stands behind others that are distinct from it is none of them
pub append_apart : (l m : List ℕ) → Distinct (l ++ m) → (q : ℕ) → q ∈ m → ¬ (q ∈ l)
append_apart [] m d q i j = mem_nil j
append_apart (x ∷ l) m d q i j = ⊎_elim (λ e. d.0 (append_right l (mem_cast (sym e) i))) (append_apart l m d.1 q i) (mem_cases j)

module _ (g : Graph) (wf : WellFormed g) (prefix p : List ℕ) (t : T (is_tree g p)) (b : Branched g prefix p) where
  abbrev rest : List ℕ
  rest = rows_of b.later

  -- each of them may come
  step_comes : (k : Key) → k ∈ b.later → T (may_come g prefix k.row)
  unfolding may_come
  step_comes k i =
      let (s, h, old) = step_legal g (row_numbers g) (state_after (start g) b.done) b.later (branch_later b) i in
      let entered = entered_is g prefix b.done b.made in
      let new : ¬ (k.node ∈ entered_by g prefix) = λ z. h.step.fresh (old k.node (subst (λ (l : List ℕ). k.node ∈ l) entered z)) in
      let mine : k.row ∈ rest = subst (λ (l : List ℕ). k.row ∈ l) (sym (rows_map b.later)) (map_in (λ k. k.row) i) in
      (T-both (lies g k.row) (any _ _)).1 (
        lies_in_lem g k.row ((tree_forest g wf p t).lies k.row (rw b.rows (append_right prefix mine))),
        any_in (λ v. allowed g (entered_by g prefix) (last_key no_key (keys_or (steps g prefix))) v k.row)
            (filter_in (λ v. not (member v (entered_by g prefix))) h.step.enters (not_T (member k.node (entered_by g prefix)) (λ z. new (member_out k.node (entered_by g prefix) z))))
            (rw (entered, b.made) (later_allowed g b.done b.later k (branch_later b) i)),
      )

  pub rest_come : (r : ℕ) → r ∈ rest → T (may_come g prefix r)
  rest_come r m =
      let (k, i, e) = map_out (λ k. k.row) b.later (subst (λ (l : List ℕ). r ∈ l) (rows_map b.later) m) in
      subst (λ (x : ℕ). T (may_come g prefix x)) e (step_comes k i)

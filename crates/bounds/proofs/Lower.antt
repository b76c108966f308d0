-- The trees that begin with a prefix, by their keys (`Branched`, `branched`): what is left of one completes the state after the prefix (`branch_later`).
-- The least that a measure gives to the rows that pass a test is at most what it gives to each (`least_below`); a step's row touches its node (`touches_in`).
use mathlib.Core.Path.{◌∙◌, ◌≡◌, ap, sym}
use mathlib.Core.Logic.{inl, inr}
use mathlib.Core.Bool.{Bool}
use mathlib.Core.Option.{some}
use mathlib.Core.List.Memᴰ.{head as here}
use mathlib.Core.List.Memᴰ.{map as map_in}
use mathlib.Core.List.Memᴰ.{not-nil as mem_nil}
use mathlib.Core.List.Memᴰ.{tail as there}
use mathlib.Core.List.{List, [], ◌++◌, ◌∷◌}
use Prim.Native.Nat.{◌≤◌, ℕ}
use native.Mathlib.Omega.{arith}
use lib.Dec.{T}
use Rattle.lists.proofs.Members.{◌∈◌, filter_in}
use Rattle.lists.proofs.Tests.{T-either, eq→eqb}
use Rattle.graph.specs.Graph.{Graph, first_end, row_numbers, second_end}
use Rattle.graph.specs.Paths.{Key, is_minimal, steps}
use Rattle.graph.proofs.Growth.{Completion, Joins, back, forth, rows_of, start}
use Rattle.graph.proofs.Minimal.{WellFormed, Whole, whole_of}
use Rattle.graph.proofs.Steps.{completion_steps, steps_rows}
use Rattle.graph.proofs.Walk.{completion_part, state_after}
use Rattle.costs.specs.Network.{Network, graph_of}
use Rattle.bounds.specs.Bounds.{begins, least_by, smallest, touches}
use Rattle.bounds.proofs.Prefix.{rows_of_append, steps_begin}

pub record Branched (g : Graph) (prefix p : List ℕ) : Type 0 where
  pub done : List Key
  pub later : List Key
  pub made : steps g prefix ≡ some done
  pub whole : Whole g (done ++ later)
  pub rows : p ≡ prefix ++ rows_of later

pub branched : (g : Graph) → WellFormed g → (prefix p : List ℕ) → T (is_minimal g p) → T (begins prefix p) → Branched g prefix p
branched g wf prefix p m t =
    let (ks, c, e) = whole_of g wf p m in
    go ks c e (steps_begin g (g.plant ∷ []) prefix p ks (rw e at (completion_steps g (row_numbers g) (start g) ks c).0) t)
  where
    go : (ks : List Key) → Whole g ks → rows_of ks ≡ p → (js : List Key) × (rest : List Key) × (steps g prefix ≡ some js) × (ks ≡ js ++ rest) → Branched g prefix p
    go ks c e (js, rest, made, is) = record {
      done = js;
      later = rest;
      made = made;
      whole = rw is at c;
      rows = sym e ∙ ap rows_of is ∙ rows_of_append js rest ∙ ap (λ (l : List ℕ). l ++ rows_of rest) (steps_rows g (g.plant ∷ []) prefix js made);
    }

-- what is left is a completion of the state after the prefix
pub branch_later : {g : Graph} {prefix p : List ℕ} (b : Branched g prefix p) → Completion g (row_numbers g) (state_after (start g) b.done) b.later
branch_later {g} b = (completion_part g (row_numbers g) (start g) b.done b.later b.whole).1

-- The least of a measure

pub smallest_below : {x : ℕ} {l : List ℕ} → x ∈ l → smallest l ≤ x
unfolding smallest
smallest_below (here {xs = []} e) = omega arith
smallest_below (here {xs = y ∷ l} e) = omega arith
smallest_below (there {xs = []} m) = absurd (mem_nil m)
smallest_below (there {xs = y ∷ l} m) = omega (arith, smallest_below m)

pub least_below : (w : Network) (measure : ℕ → ℕ) (test : ℕ → Bool) {r : ℕ} → r ∈ row_numbers (graph_of w) → T (test r) → least_by w measure test ≤ measure r
least_below w measure test m t = smallest_below (map_in measure (filter_in test m t))

pub touches_in : (g : Graph) {r u v : ℕ} → Joins g r u v → T (touches g v r)
touches_in g {r} {u} {v} (forth a b) = simp T-either (inr (eq→eqb (second_end g r) v b))
touches_in g {r} {u} {v} (back a b) = simp T-either (inl (eq→eqb (first_end g r) v a))

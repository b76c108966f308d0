-- For the nested search over places, nodes and rows, left at the first legal step. `NoneBefore i j r`: no legal step comes before (i, j, r).
-- From `before_start` over `before_row`, `before_node` and `before_place` to `found_least`, or to `before_last`: there is none.
use mathlib.Core.Path.{◌≡◌, subst, sym}
use mathlib.Core.Logic.{inl, inr}
use mathlib.Core.List.{List}
use Prim.Native.Nat.{◌<◌, ◌≤◌, suc, ℕ}
use native.Mathlib.Omega.{arith}
use lib.ListN.{length}
use Rattle.lists.proofs.Members.{◌∈◌}
use Rattle.graph.specs.Graph.{Graph}
use Rattle.graph.specs.Paths.{Key}
use Rattle.graph.proofs.Growth.{Legal, State}
use Rattle.graph.proofs.Keys.{KeyLess, Lex, NumberCases, ahead, beside, compare_numbers, further, level}
use Rattle.graph.proofs.Least.{AnyKey, Least}
use Rattle.graph.proofs.Places.{place_below}

-- the key m is not before (i, j, r)
pub data From (i j r : ℕ) (m : Key) : Type 0 where
  later_place : i < m.place → From i j r m
  later_node : i ≡ m.place → j < m.node → From i j r m
  later_row : i ≡ m.place → j ≡ m.node → r ≤ m.row → From i j r m

-- from j on, at place i
from_node_lem : (i j : ℕ) (m : Key) → i ≡ m.place → j ≤ m.node → From i j 0 m
from_node_lem i j m e h = go (compare_numbers j m.node)
  where
    go : NumberCases j m.node → From i j 0 m
    go (inl a) = later_node e a
    go (inr (inl a)) = later_row e a (omega arith)
    go (inr (inr a)) = absurd (omega arith)

module _ (g : Graph) (rs : List ℕ) (s : State) where
  abbrev pub NoneBefore : ℕ → ℕ → ℕ → Type 0
  NoneBefore i j r = (m : Key) → Legal g rs s m → From i j r m

  -- the search starts behind the bound
  pub before_start : NoneBefore s.place (suc s.node) 0
  before_start m h = go h.above
    where
      go : Lex s.place s.node m.place m.node → From s.place (suc s.node) 0 m
      go (further a) = later_place a
      go (level e a) = from_node_lem s.place (suc s.node) m e (omega arith)

  -- row r makes no legal step from place i to node j
  pub before_row : (i j r : ℕ) → NoneBefore i j r → ¬ Legal g rs s (record { place = i; node = j; row = r }) → NoneBefore i j (suc r)
  before_row i j r f n m h = go (f m h)
    where
      go : From i j r m → From i j (suc r) m
      go (later_place a) = later_place a
      go (later_node e a) = later_node e a
      go (later_row e d a) = row (compare_numbers r m.row)
        where
          row : NumberCases r m.row → From i j (suc r) m
          row (inl b) = later_row e d (omega arith)
          row (inr (inl b)) = absurd (n (subst (Legal g rs s) (λ x. record { place = sym e x; node = sym d x; row = sym b x }) h))
          row (inr (inr b)) = absurd (omega arith)

  -- all rows are seen: the next node
  pub before_node : (i j r : ℕ) → ((q : ℕ) → q ∈ rs → q < r) → NoneBefore i j r → NoneBefore i (suc j) 0
  before_node i j r all f m h = go (f m h)
    where
      go : From i j r m → From i (suc j) 0 m
      go (later_place a) = later_place a
      go (later_node e a) = from_node_lem i (suc j) m e (omega arith)
      go (later_row e d a) = absurd (omega (arith, all m.row h.usable))

  -- all nodes are seen: the next place
  pub before_place : (i j : ℕ) → ((v : ℕ) → v ∈ g.nodes → v < j) → NoneBefore i j 0 → NoneBefore (suc i) 0 0
  before_place i j all f m h = go (f m h)
    where
      next : NumberCases (suc i) m.place → i < m.place → From (suc i) 0 0 m
      next (inl a) l = later_place a
      next (inr (inl a)) l = from_node_lem (suc i) 0 m a (omega arith)
      next (inr (inr a)) l = absurd (omega arith)

      go : From i j 0 m → From (suc i) 0 0 m
      go (later_place a) = next (compare_numbers (suc i) m.place) a
      go (later_node e a) = absurd (omega (arith, all m.node h.step.enters))
      go (later_row e d a) = absurd (omega (arith, all m.node h.step.enters))

  -- all places are seen: there is no legal step
  pub before_last : (i j r : ℕ) → length s.entered ≤ i → NoneBefore i j r → (m : Key) → ¬ Legal g rs s m
  before_last i j r end f m h = go (f m h)
    where
      short : m.place < length s.entered
      short = subst (λ (x : ℕ). x < length s.entered) (sym h.step.stands) (place_below s.entered h.step.leaves)

      go : From i j r m → ⊥
      go (later_place a) = omega (arith, short)
      go (later_node e a) = omega (arith, short)
      go (later_row e d a) = omega (arith, short)

  -- the first legal step is the least
  pub found_least : (k : Key) → NoneBefore k.place k.node k.row → Legal g rs s k → Least g rs s AnyKey k
  found_least k f legal = record { legal = legal; passes = tt; least = λ m h _. clash m (f m h) }
    where
      clash : (m : Key) → From k.place k.node k.row m → ¬ KeyLess m k
      clash m (later_place a) (ahead (further b)) = omega arith
      clash m (later_place a) (ahead (level e b)) = omega arith
      clash m (later_place a) (beside b) = omega (arith, b.place)
      clash m (later_node e a) (ahead (further b)) = omega arith
      clash m (later_node e a) (ahead (level d b)) = omega arith
      clash m (later_node e a) (beside b) = omega (arith, b.node)
      clash m (later_row e d a) (ahead (further b)) = omega arith
      clash m (later_row e d a) (ahead (level c b)) = omega arith
      clash m (later_row e d a) (beside b) = omega (arith, b.row)

-- Minimal paths (document 004, Definition 3.5, as document 01 reads it), their order, and the list of them all.
use Rattle.std.specs.Prelude.{Bool, ◌&&◌, ◌||◌, cond, false, not, true, List, [], ◌++◌, ◌∷◌, pred, suc, ℕ, eqb, ltb, length}
use Rattle.std.proofs.Math.Option.{Option, none, some}
use Rattle.lists.specs.Lists.{all, filter_b, first, member, sequences, sort}
use Rattle.graph.specs.Graph.{Graph, first_end, row_numbers, second_end}

-- A step of a path: from the node at a place, the pivot, to a node not yet entered, by a row.
pub record Key : Type 0 where
  pub place : ℕ
  pub node : ℕ
  pub row : ℕ

-- the place of v among the entered nodes; how many they are, where v is none of them
unfoldable pub place_of : List ℕ → ℕ → ℕ
place_of [] v = 0
place_of (u ∷ us) v = cond (eqb u v) 0 (suc (place_of us v))

-- the step that row r makes when the nodes `entered` are entered, in the order of their places
unfoldable pub step_of : Graph → List ℕ → ℕ → Option Key
step_of g entered r =
    cond (member (first_end g r) entered && (member (second_end g r) g.nodes && not (member (second_end g r) entered)))
    (some (record { place = place_of entered (first_end g r); node = second_end g r; row = r }))
    (cond (member (second_end g r) entered && (member (first_end g r) g.nodes && not (member (first_end g r) entered)))
    (some (record { place = place_of entered (second_end g r); node = first_end g r; row = r }))
    none)

abbrev pub cons_key : Key → Option (List Key) → Option (List Key)
cons_key k none = none
cons_key k (some ks) = some (k ∷ ks)

abbrev pub and_then : {A B : Type 0} → Option A → (A → Option B) → Option B
and_then none f = none
and_then (some a) f = f a

-- the steps that the rows make, one after the other; none where a row makes no step
unfoldable pub steps_from : Graph → List ℕ → List ℕ → Option (List Key)
steps_from g entered [] = some []
steps_from g entered (r ∷ rs) = and_then (step_of g entered r) (λ k. cons_key k (steps_from g (entered ++ (k.node ∷ [])) rs))

-- the plant is entered at place 0
abbrev pub steps : Graph → List ℕ → Option (List Key)
steps g rs = steps_from g (g.plant ∷ []) rs

-- of two neighbouring steps: the pivot is the same and the node grows, or the pivot's place grows
abbrev pub follows : Key → Key → Bool
follows k l = ltb k.place l.place || (eqb k.place l.place && ltb k.node l.node)

unfoldable pub ascending : List Key → Bool
ascending [] = true
ascending (k ∷ []) = true
ascending (k ∷ l ∷ ks) = follows k l && ascending (l ∷ ks)

abbrev pub ascends : Option (List Key) → Bool
ascends none = false
ascends (some ks) = ascending ks

-- A minimal path of a spanning tree: each row makes a step, the steps ascend, and they enter all nodes.
unfoldable pub is_minimal : Graph → List ℕ → Bool
is_minimal g rs = eqb (suc (length rs)) (length g.nodes) && ascends (steps g rs)

-- keys are compared part by part, smaller first
abbrev pub key_less : Key → Key → Bool
key_less k l = follows k l || (eqb k.place l.place && eqb k.node l.node && ltb k.row l.row)

abbrev pub same_key : Key → Key → Bool
same_key k l = eqb k.place l.place && (eqb k.node l.node && eqb k.row l.row)

-- paths are compared at the first step where their keys differ
unfoldable pub keys_less : List Key → List Key → Bool
keys_less [] [] = false
keys_less [] (l ∷ ls) = true
keys_less (k ∷ ks) [] = false
keys_less (k ∷ ks) (l ∷ ls) = key_less k l || (same_key k l && keys_less ks ls)

abbrev pub opt_less : Option (List Key) → Option (List Key) → Bool
opt_less none o = false
opt_less (some ks) none = true
opt_less (some ks) (some ls) = keys_less ks ls

abbrev pub path_less : Graph → List ℕ → List ℕ → Bool
path_less g p q = opt_less (steps g p) (steps g q)

-- The list: every minimal path, in their order.
unfoldable pub trees : Graph → List (List ℕ)
trees g = sort (path_less g) (filter_b (is_minimal g) (sequences (pred (length g.nodes)) (row_numbers g)))

abbrev pub same_rows : List ℕ → List ℕ → Bool
same_rows p q = all (λ r. member r q) p && all (λ r. member r p) q

-- The minimal path with exactly the rows of a drawn tree.
abbrev pub path_of : Graph → List ℕ → Option (List ℕ)
path_of g rs = first (same_rows rs) (trees g)

-- the path that was found; asked only where there is one
abbrev pub path_in : Option (List ℕ) → List ℕ
path_in none = []
path_in (some path) = path

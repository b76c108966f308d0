-- The rows that may still come (`allowed`): a later step goes by a row from a node that is not entered yet, or by one that comes after the last step of the
-- prefix (`later_allowed`).
use mathlib.Core.Path.{◌≡◌, refl, subst, sym}
use mathlib.Core.Logic.{inl, inr}
use mathlib.Core.List.Memᴰ.{map as map_in}
use mathlib.Core.List.{List, [], ◌∷◌}
use Prim.Native.Nat.{ℕ}
use native.Mathlib.Decide.{ℕ_discrete}
use lib.Dec.{T, eqb, not_T}
use Rattle.lists.specs.Lists.{both, member}
use Rattle.lists.proofs.Distinct.{mem?}
use Rattle.lists.proofs.Members.{◌∈◌, member_out}
use Rattle.lists.proofs.Tests.{T-both, T-either, eq→eqb}
use Rattle.graph.specs.Graph.{Graph, first_end, row_numbers, second_end}
use Rattle.graph.specs.Paths.{Key, place_of}
use Rattle.graph.proofs.Growth.{Completion, Joins, State, after, back, forth, rows_of, start}
use Rattle.graph.proofs.Keys.{Lex, follows_in}
use Rattle.graph.proofs.Unique.{later_step}
use Rattle.graph.proofs.Walk.{state_after}
use Rattle.bounds.specs.Bounds.{allowed, last_key, no_key, opens}
use Rattle.bounds.proofs.Missing.{rows_map, step_legal}

-- the state's place and node are those of the last step
pub state_last : (s : State) (k : Key) (ks : List Key) → s.place ≡ k.place → s.node ≡ k.node
    → ((state_after s ks).place ≡ (last_key k ks).place) × ((state_after s ks).node ≡ (last_key k ks).node)
state_last s k [] e f = (e, f)
state_last s k (l ∷ ks) e f = state_last (after s l) l ks refl refl

opens_new : (entered : List ℕ) (k : Key) (u v : ℕ) → ¬ (u ∈ entered) → T (opens entered k u v)
opens_new entered k u v n = simp T-either (inl (not_T (member u entered) (λ t. n (member_out u entered t))))

opens_later : (entered : List ℕ) (k : Key) (u v : ℕ) → Lex k.place k.node (place_of entered u) v → T (opens entered k u v)
opens_later entered k u v h = simp T-either (inr (follows_in k (record { place = place_of entered u; node = v; row = 0 }) h))

allowed_in : (g : Graph) (entered : List ℕ) (k : Key) {r u v : ℕ} → Joins g r u v → T (opens entered k u v) → T (allowed g entered k v r)
allowed_in g entered k {r} {u} {v} (forth a b) t = (T-either (both (eqb (second_end g r) v) (opens entered k (first_end g r) v)) _).1
    (inl ((T-both (eqb (second_end g r) v) (opens entered k (first_end g r) v)).1 (eq→eqb (second_end g r) v b, subst (λ (x : ℕ). T (opens entered k x v)) (sym a) t)))
allowed_in g entered k {r} {u} {v} (back a b) t =
    (T-either (both (eqb (second_end g r) v) (opens entered k (first_end g r) v)) (both (eqb (first_end g r) v) (opens entered k (second_end g r) v))).1
    (inr ((T-both (eqb (first_end g r) v) (opens entered k (second_end g r) v)).1 (eq→eqb (first_end g r) v a, subst (λ (x : ℕ). T (opens entered k x v)) (sym b) t)))

-- a later step goes by a row that is allowed at the state after the prefix
pub later_allowed : (g : Graph) (js ks : List Key) (k : Key) → Completion g (row_numbers g) (state_after (start g) js) ks → k ∈ ks
    → T (allowed g (state_after (start g) js).entered (last_key no_key js) k.node k.row)
later_allowed g js ks k c i =
    let (t, h, old) = step_legal g (row_numbers g) s ks c i in
    allowed_in g s.entered (last_key no_key js) h.step.joined (go h.step.pivot h.step.joined (mem? ℕ_discrete h.step.pivot s.entered))
  where
    s : State
    s = state_after (start g) js

    mine : k.row ∈ rows_of ks
    mine = subst (λ (l : List ℕ). k.row ∈ l) (sym (rows_map ks)) (map_in (λ k. k.row) i)

    go : (u : ℕ) → Joins g k.row u k.node → Dec (u ∈ s.entered) → T (opens s.entered (last_key no_key js) u k.node)
    go u j (no n) = opens_new s.entered (last_key no_key js) u k.node n
    go u j (yes m) =
        let (e, f) = state_last (start g) no_key js refl refl in
        opens_later s.entered (last_key no_key js) u k.node (rw (e, f) at (later_step g (row_numbers g) s ks c mine j m).0)

-- The rows of legal steps, read back, make those steps again (`traced`).
use mathlib.Core.Path.{◌∙◌, ◌≡◌, ap, refl, sym}
use mathlib.Core.List.{List, [], ◌++◌, ◌∷◌, append-nil, map-append}
use Prim.Native.Nat.{◌+◌, ◌≤◌, ℕ}
use native.Mathlib.Omega.{arith}
use lib.ListN.{length}
use lib.Seq.{append_snoc}
use Rattle.lists.proofs.Members.{length_snoc, member_in, member_out}
use Rattle.lists.proofs.Tests.{T_false, T_true}
use Rattle.lists.specs.Lists.{member}
use Rattle.graph.proofs.Growth.{Joins, State, Step, after, back, forth, rows_of, start}
use Rattle.graph.proofs.Walk.{Legals}
use Rattle.graph.specs.Graph.{Graph}
use Rattle.graph.specs.Paths.{Key}
use Rattle.paths.specs.Path.{entered_by}
use Rattle.trace.specs.Trace.{key_by, trace_from, trace_of}
use Rattle.trace.proofs.Laws.{extended_room}

-- the step of a row that makes one
key_is : (g : Graph) (entered : List ℕ) (k : Key) → Step g entered k → key_by g.first_ends g.second_ends entered k.row ≡ k
unfolding key_by
key_is g entered k h = go h.joined
  where
    go : Joins g k.row h.pivot k.node → key_by g.first_ends g.second_ends entered k.row ≡ k
    go (forth a b) = rw (a, b, (T_true (member h.pivot entered)).0 (member_in h.leaves), ← h.stands)
    go (back a b) = rw (a, b, (T_false (member k.node entered)).0 (λ t. h.fresh (member_out k.node entered t)), ← h.stands)

module _ (g : Graph) (rs : List ℕ) where
  -- behind the steps js that are made
  trace_from_lem : (s : State) (js ks : List Key) → s.entered ≡ entered_by g.plant js → Legals g rs s ks → length js + length ks ≤ 31
      → trace_from g.first_ends g.second_ends g.plant js (rows_of ks) ≡ js ++ ks
  unfolding trace_from
  trace_from_lem s js [] e a h = sym (append-nil js)
  trace_from_lem s js (k ∷ ks) e a h =
      let step = key_is g (entered_by g.plant js) k (rw e at a.0.step) in
      let next : (after s k).entered ≡ entered_by g.plant (js ++ (k ∷ [])) =
      ap (λ (l : List ℕ). l ++ (k.node ∷ [])) e ∙ ap (λ (l : List ℕ). g.plant ∷ l) (sym (map-append (λ (k : Key). k.node) js (k ∷ []))) in
      ap (λ (l : List Key). trace_from g.first_ends g.second_ends g.plant l (rows_of ks)) (extended_room js _ (omega arith) ∙ ap (λ (l : Key). js ++ (l ∷ [])) step)
      ∙ (trace_from_lem (after s k) (js ++ (k ∷ [])) ks next a.1 (omega (arith, length_snoc js k)) ∙ append_snoc js k ks)

  pub traced : (ks : List Key) → Legals g rs (start g) ks → length ks ≤ 31 → trace_of g.first_ends g.second_ends g.plant (rows_of ks) ≡ ks
  traced ks a h = trace_from_lem (start g) [] ks refl a (omega arith)

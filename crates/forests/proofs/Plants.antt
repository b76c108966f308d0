-- Two plants a and b: a forest that joins each node to exactly one of them (`Shared`). It has two rows fewer than nodes (`shared_size`).
use mathlib.Core.Path.{◌≡◌, subst}
use mathlib.Core.Logic.{◌⊎◌, ⊎_elim}
use mathlib.Core.List.Memᴰ.{eq_of_singleton}
use mathlib.Core.List.Memᴰ.{head as here}
use mathlib.Core.List.Memᴰ.{not-nil as mem_nil}
use mathlib.Core.List.Memᴰ.{tail as there}
use mathlib.Core.List.{List, [], ◌∷◌}
use Prim.Native.Nat.{suc, ℕ}
use native.Mathlib.Omega.{arith}
use lib.ListN.{length}
use Rattle.lists.proofs.Distinct.{Distinct, pigeonhole}
use Rattle.lists.proofs.Members.{◌∈◌, ◌⊆◌, cons_⊆, nil_⊆}
use Rattle.graph.specs.Graph.{Graph}
use Rattle.graph.proofs.Minimal.{WellFormed}
use Rattle.forests.proofs.Forest.{Forest}
use Rattle.forests.proofs.Joined.{Joined, joined_sym, joined_trans}
use Rattle.forests.proofs.Parts.{Parts, forest_parts}

pub record Shared (g : Graph) (a b : ℕ) (rs : List ℕ) : Type 0 where
  pub forest : Forest g rs
  pub apart : ¬ Joined g rs a b
  pub near : (v : ℕ) → v ∈ g.nodes → Joined g rs a v ⊎ Joined g rs b v

module _ (g : Graph) (wf : WellFormed g) (a b : ℕ) (m : a ∈ g.nodes) (n : b ∈ g.nodes) where
  module _ (rs x : List ℕ) (p : Parts g rs x) (k : ¬ Joined g rs a b) where
    -- the parts of a and b
    abbrev pair : List ℕ
    pair = (p.near a m).0 ∷ (p.near b n).0 ∷ []

    pair_distinct : Distinct pair
    pair_distinct = (
      λ i. k (joined_trans (subst (Joined g rs a) (eq_of_singleton i) (p.near a m).2) (joined_sym (p.near b n).2)),
      (mem_nil, tt),
    )

    pair_part : pair ⊆ x
    pair_part = cons_⊆ (p.near a m).1 (cons_⊆ (p.near b n).1 (nil_⊆ x))

    -- they are all, where each node is joined to a or b
    all_pair : ((v : ℕ) → v ∈ g.nodes → Joined g rs a v ⊎ Joined g rs b v) → x ⊆ pair
    all_pair h c i = ⊎_elim
        (λ j. here (p.apart c (p.near a m).0 i (p.near a m).1 (joined_trans (joined_sym j) (p.near a m).2)))
        (λ j. there (here (p.apart c (p.near b n).0 i (p.near b n).1 (joined_trans (joined_sym j) (p.near b n).2))))
        (h c (p.nodes c i))

  pub shared_size : (rs : List ℕ) → Shared g a b rs → suc (suc (length rs)) ≡ length g.nodes
  shared_size rs h =
      let (x, p, e) = forest_parts g wf rs h.forest in
      let k = h.apart in
      omega (
        arith,
        pigeonhole x {m = pair rs x p k} p.once (all_pair rs x p k h.near),
        pigeonhole (pair rs x p k) {m = x} (pair_distinct rs x p k) (pair_part rs x p k),
      )

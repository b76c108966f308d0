-- When two files that are accepted have one frame: other nodes rule it out (`nodes_decide`), and else the kind bytes decide (`kinds_decide`).
use mathlib.Core.Path.{◌∙◌, ◌≡◌, ap, ap₂, refl, sym}
use mathlib.Core.Bool.{Bool, ◌&&◌, false}
use mathlib.Core.Option.{none}
use mathlib.Core.List.{List, [], ◌∷◌, map}
use Prim.Native.Nat.{◌+◌, ◌-◌, ◌≤◌, ℕ}
use native.Mathlib.Omega.{arith}
use lib.Dec.{eqb}
use lib.ListN.{drop, length, take}
use lib.Pointwise.{pointwise}
use borrow.Author.Tests.{eq-eqb, ne_eqb}
use Rattle.lists.specs.Lists.{range, same}
use Rattle.checks.specs.Checks.{first_unmet}
use Rattle.network_file.specs.File.{Sizes, byte_at, file_checks, kind_bytes, network_of, sizes_of}
use Rattle.network_file.specs.Frames.{same_frame, same_kinds}
use Rattle.network_file.proofs.Accepted.{accepted}
use Rattle.network.proofs.Laws.{kinds_part}
use Rattle.network_file.proofs.KindBytes.{kinds_numbered}

-- slices are compared place by place
pub pointwise_same : (k l : List ℕ) → pointwise eqb k l ≡ same k l
unfolding same
pointwise_same [] [] = refl
pointwise_same [] (b ∷ l) = refl
pointwise_same (a ∷ k) [] = refl
pointwise_same (a ∷ k) (b ∷ l) = ap (λ (t : Bool). eqb a b && t) (pointwise_same k l)

-- the kind bytes of a file that is accepted are there, behind its sizes
module _ (f : List ℕ) {s : Sizes} (same_s : s ≡ sizes_of f) (met : first_unmet (file_checks f) ≡ none) where
  pub kinds_there : 9 + s.k ≤ length f
  kinds_there = omega (arith, (accepted f met).long, ap (λ (u : Sizes). u.k) same_s)

  pub kinds_read : take (9 + s.k - 9) (drop 9 f) ≡ kind_bytes f
  unfolding kind_bytes
  kinds_read = kinds_part f s.k kinds_there ∙ ap (λ (u : Sizes). map (λ c. byte_at f (9 + c)) (range 0 u.k)) same_s

-- the sizes s and t, as the code has read them, are those of the files
module _ (f g : List ℕ) {s t : Sizes} (same_s : s ≡ sizes_of f) (same_t : t ≡ sizes_of g) where
  nodes : eqb (network_of f).node_count (network_of g).node_count ≡ eqb s.n t.n
  unfolding network_of
  nodes = sym (ap₂ eqb (ap (λ (u : Sizes). u.n) same_s) (ap (λ (u : Sizes). u.n) same_t))

  pub nodes_decide : ¬ (s.n ≡ t.n) → false ≡ same_frame (network_of f) (network_of g)
  unfolding same_frame
  nodes_decide n = sym (rw (nodes, ne_eqb s.n t.n n))

  module _ (met_f : first_unmet (file_checks f) ≡ none) (met_g : first_unmet (file_checks g) ≡ none) where
    -- the kinds are compared by their bytes
    by_bytes : same_kinds (network_of f).kinds (network_of g).kinds ≡ same (kind_bytes f) (kind_bytes g)
    by_bytes = ap₂ same (kinds_numbered f met_f) (kinds_numbered g met_g)

    pub kinds_decide : s.n ≡ t.n → same (take (9 + s.k - 9) (drop 9 f)) (take (9 + t.k - 9) (drop 9 g)) ≡ same_frame (network_of f) (network_of g)
    unfolding same_frame
    kinds_decide e = rw (nodes, eq-eqb s.n t.n e) (ap₂ same (kinds_read f same_s met_f) (kinds_read g same_t met_g) ∙ sym by_bytes)

-- A least member of a list (`least_in`); and on a run between nodes that other rows do not join, a row whose ends they do not join (`crossing_row`).
use mathlib.Core.Path.{refl}
use mathlib.Core.Logic.{⊎_elim}
use mathlib.Core.List.Memᴰ.{head as here}
use mathlib.Core.List.Memᴰ.{not-nil as mem_nil}
use mathlib.Core.List.Memᴰ.{tail as there}
use mathlib.Core.List.{List, [], ◌∷◌}
use Prim.Native.Nat.{◌≤◌, ℕ}
use native.Mathlib.Decide.{dec_le}
use native.Mathlib.Omega.{arith}
use Rattle.lists.proofs.Members.{◌∈◌, mem_elim}
use Rattle.graph.specs.Graph.{Graph, first_end, second_end}
use Rattle.forests.proofs.Closure.{joined?}
use Rattle.forests.proofs.Cuts.{find?}
use Rattle.forests.proofs.Forest.{Free, free?}
use Rattle.forests.proofs.Joined.{Joined, joined_by_lem}

-- the least of a list
least_of_lem : {A : Type 0} (v : A → ℕ) (x : A) (l : List A) → (b : A) × (b ∈ x ∷ l) × ((c : A) → c ∈ x ∷ l → v b ≤ v c)
least_of_lem {A} v x [] = (x, here refl, λ c i. mem_elim (λ (y : A). v x ≤ v y) i (omega arith) (λ j. absurd (mem_nil j)))
least_of_lem {A} v x (y ∷ l) =
    let (b, i, h) = least_of_lem v y l in
    elim (dec_le (v x) (v b)) [
      | yes k ↦ (x, here refl, λ c j. mem_elim (λ (z : A). v x ≤ v z) j (omega arith) (λ m. omega (arith, h c m)))
      | no k ↦ (b, there i, λ c j. mem_elim (λ (z : A). v b ≤ v z) j (omega arith) (λ m. h c m))
    ]

pub least_in : {A : Type 0} (v : A → ℕ) (l : List A) {a : A} → a ∈ l → (b : A) × (b ∈ l) × ((c : A) → c ∈ l → v b ≤ v c)
least_in v [] i = absurd (mem_nil i)
least_in v (x ∷ l) i = least_of_lem v x l

-- on a run of rs between nodes that gs does not join there is a row whose ends gs does not join
pub crossing_row : (g : Graph) (gs rs : List ℕ) {u v : ℕ} → Joined g rs u v → ¬ Joined g gs u v → (r : ℕ) × (r ∈ rs) × Free g gs r
crossing_row g gs rs j n = ⊎_elim
    (λ t. t)
    (λ f. absurd (n (joined_by_lem (λ r i l. elim (joined? g gs (first_end g r) (second_end g r)) [ yes k ↦ k | no k ↦ absurd (f r i (l, k)) ]) j)))
    (find? (Free g gs) (free? g gs) rs)

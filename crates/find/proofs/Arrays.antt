-- An array that is made by a function of the place, where calls of the function leave it as it was: the list of what it gives (`made_of`).
use mathlib.Core.Path.{◌∙◌, ◌≡◌, subst}
use mathlib.Core.List.{List, map}
use Prim.Native.Nat.{◌+◌, ◌<◌, ◌≤◌, suc, zero, ℕ}
use native.Mathlib.Decide.{ℕ_discrete}
use native.Mathlib.Nat.{le_refl}
use native.Mathlib.Omega.{arith}
use lib.ListN.{get_or}
use denote.Param.Members.{Called, Mut}
use Rattle.std.specs.Array.{IsFromFnResult, IsFromFnResultFrom}
use Rattle.lists.specs.Lists.{range}
use Rattle.lists.proofs.Ranges.{Written, written_all}

module _ {F B : Type 0} {g : Mut F (ℕ × Unit {0}) B} (none : B) (f : F) (h : ℕ → B) (ys : List B) where
  made_from : (i n : ℕ) → ((k : ℕ) (y : B) (q : F) → k < i + n → Called g f (k, tt) y q → (q ≡ f) × (y ≡ h k)) → IsFromFnResultFrom g f ys i n
      → (k : ℕ) → i ≤ k → k < i + n → get_or ys k none ≡ h k
  made_from i zero gives made k low high = absurd (omega arith)
  made_from i (suc n) gives (q, y, at, called, rest) k low high =
      let (same, is) = gives i y q (omega arith) called in
      elim (ℕ_discrete k i) [
        | yes e ↦ rw e (at.1 none ∙ is)
        | no d ↦ made_from (i + 1) n (λ j z p b. gives j z p (omega arith)) (subst (λ (x : F). IsFromFnResultFrom g x ys (i + 1) n) same rest) k (omega arith) (omega arith)
      ]

  pub made_of : (n : ℕ) → IsFromFnResult g f ys n → ((k : ℕ) (y : B) (q : F) → k < n → Called g f (k, tt) y q → (q ≡ f) × (y ≡ h k)) → ys ≡ map h (range 0 n)
  made_of n made gives =
      let written : Written h none n ys n = record {
        whole = made.long;
        within = le_refl n;
        holds = λ k low. made_from 0 n (λ j y q b. gives j y q (omega arith)) made.each k (omega arith) (omega arith);
      } in
      written_all written (le_refl n)

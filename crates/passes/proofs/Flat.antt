-- Rows of k places each, one after the other in a table: how many places they have (`flat_long`), what they are from row n on (`flat_append`),
-- what stands behind them (`over_past`), and the rows read back (`flat_pieces`, `pieces_long`, `pieces_part`).
use mathlib.Core.Path.{◌∙◌, ◌≡◌, ap, refl, sym}
use mathlib.Core.List.Memᴰ.{head as here}
use mathlib.Core.List.Memᴰ.{not-nil as mem_nil}
use mathlib.Core.List.Memᴰ.{tail as there}
use mathlib.Core.List.{List, [], ◌++◌, ◌∷◌, append_assoc}
use Prim.Native.Nat.{◌*◌, ◌+◌, ◌-◌, ◌≤◌, suc, zero, ℕ}
use native.Mathlib.Nat.{add_comm, suc-mul, zero-mul}
use native.Mathlib.Omega.{arith}
use lib.ListN.{drop, length, length-append, length-drop, take}
use lib.Seq.{drop-append-add, drop-drop, length-take-le, take-add}
use Rattle.lists.proofs.Members.{mem_elim}
use Rattle.costs.proofs.Fronts.{Sized}
use Rattle.pages.specs.Pages.{flat, pieces}

pub flat_append : (a b : List (List ℕ)) → flat (a ++ b) ≡ flat a ++ flat b
unfolding flat
flat_append [] b = refl
flat_append (v ∷ a) b = rw (flat_append a b, append_assoc)

pub flat_long : (k : ℕ) (a : List (List ℕ)) → Sized k a → length (flat a) ≡ length a * k
unfolding flat
flat_long k [] sized = sym (zero-mul k)
flat_long k (v ∷ a) sized = omega (arith, length-append v (flat a), sized v (here refl), flat_long k a (λ u m. sized u (there m)), suc-mul (length a) k)

-- places written over the first of a table leave those behind them
pub over_past : (places t : List ℕ) (m : ℕ) → length places ≤ m → drop m (places ++ drop (length places) t) ≡ drop m t
over_past places t m h =
    let e : length places + (m - length places) ≡ m = omega arith in
    rw (← e) (drop-append-add places (drop (length places) t) (m - length places) ∙ drop-drop (m - length places) (length places) t)

-- the first n rows of a table: together they are its first places, each has k places, and the first of them are its first rows
pub flat_pieces : (k n : ℕ) (t : List ℕ) → flat (pieces k n t) ≡ take (n * k) t
unfolding pieces flat
flat_pieces k zero t = rw zero-mul
flat_pieces k (suc n) t = rw (flat_pieces k n (drop k t), suc-mul, add_comm) (sym (take-add k (n * k) t))

pub pieces_long : (k n : ℕ) (t : List ℕ) → n * k ≤ length t → Sized k (pieces k n t)
unfolding pieces
pieces_long k zero t fits u m = absurd (mem_nil m)
pieces_long k (suc n) t fits u m =
    let e = suc-mul n k in
    mem_elim (λ (v : List ℕ). length v ≡ k) m (length-take-le k t (omega arith)) (pieces_long k n (drop k t) (simp length-drop (omega arith)) u)

pub pieces_part : (k m n : ℕ) (t : List ℕ) → m ≤ n → take m (pieces k n t) ≡ pieces k m t
unfolding pieces
pieces_part k zero n t h = refl
pieces_part k (suc m) zero t h = absurd (omega arith)
pieces_part k (suc m) (suc n) t h = ap (λ (l : List (List ℕ)). take k t ∷ l) (pieces_part k m n (drop k t) (omega arith))

-- A buffer that is written over place by place (`over_next`), rows read back from a table that they were written over (`over_rows`), and what was written and what is behind it
-- (`over_take`, `over_drop`).
use mathlib.Core.Path.{◌∙◌, ◌≡◌, ap, refl, sym}
use mathlib.Core.List.{List, [], ◌∷◌}
use Prim.Native.Nat.{◌+◌, ◌<◌, ◌≤◌, suc, zero, ℕ}
use native.Mathlib.Numerals.{add-one}
use native.Mathlib.Omega.{arith}
use lib.ListN.{drop, get_or, length, set, take}
use lib.Seq.{drop_at, length-take-le, take-append_seam}
use Rattle.lists.proofs.Members.{take_out}
use Rattle.costs.proofs.Fronts.{Sized}
use Rattle.pages.specs.Pages.{flat, pieces}
use Rattle.pages.proofs.Pages.{pieces_flat}
use Rattle.operations.specs.Operations.{over}

over_suc : (places buffer : List ℕ) (i : ℕ) → i < length places → i < length buffer
    → set (over (take i places) buffer) i (get_or places i 0) ≡ over (take (suc i) places) buffer
over_suc [] buffer i h k = absurd (omega arith)
over_suc (x ∷ places) [] i h k = absurd (omega arith)
over_suc (x ∷ places) (y ∷ buffer) zero h k = refl
over_suc (x ∷ places) (y ∷ buffer) (suc i) h k = ap (λ (l : List ℕ). x ∷ l) (over_suc places buffer i (omega arith) (omega arith))

-- the first i of the places are written, and then the next
pub over_next : (places buffer : List ℕ) (i : ℕ) → i < length places → i < length buffer
    → set (over (take i places) buffer) i (get_or places i 0) ≡ over (take (i + 1) places) buffer
over_next places buffer i h k = rw add-one (over_suc places buffer i h k)

-- the first n of some rows of k places
pub over_rows : (k n : ℕ) (rows : List (List ℕ)) (table : List ℕ) → Sized k rows → n ≤ length rows → pieces k n (over (flat (take n rows)) table) ≡ take n rows
over_rows k n rows table sized few =
    ap (λ (m : ℕ). pieces k m (over (flat (take n rows)) table)) (sym (length-take-le n rows few))
    ∙ pieces_flat k (take n rows) (drop (length (flat (take n rows))) table) (λ v m. sized v (take_out n rows m))

-- what stands over a buffer: the places, and behind them the buffer
pub over_take : (places buffer : List ℕ) {n : ℕ} → length places ≡ n → take n (over places buffer) ≡ places
over_take places buffer e = ap (λ (k : ℕ). take k (over places buffer)) (sym e) ∙ take-append_seam places (drop (length places) buffer)

pub over_drop : (places buffer : List ℕ) {n : ℕ} → length places ≡ n → drop n (over places buffer) ≡ drop n buffer
over_drop places buffer {n} e = drop_at places (drop (length places) buffer) n e ∙ ap (λ (k : ℕ). drop k buffer) e

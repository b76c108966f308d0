-- A table over the first places of which rows of k places are written: it stays as long (`over_length`), and rows copied behind them are more of them (`over_more`).
use mathlib.Core.Path.{◌∙◌, ◌≡◌, ap, sym}
use mathlib.Core.List.{List, ◌++◌}
use Prim.Native.Nat.{◌*◌, ◌+◌, ◌≤◌, ℕ}
use native.Mathlib.Nat.{add-mul}
use native.Mathlib.Omega.{arith}
use lib.ListN.{drop, length, length-append, length-drop, take}
use lib.Seq.{length-take-le, paste, take-add, take_at, take-take}
use Rattle.lists.proofs.Members.{take_out}
use Rattle.costs.proofs.Fronts.{Sized}
use Rattle.pages.specs.Pages.{flat, pieces}
use Rattle.passes.proofs.Flat.{flat_append, flat_long, flat_pieces, over_past, pieces_part}

module _ (k : ℕ) (rows : List (List ℕ)) (sized : Sized k rows) where
  pub part_long : (n : ℕ) → n ≤ length rows → length (flat (take n rows)) ≡ n * k
  part_long n h = flat_long k (take n rows) (λ v m. sized v (take_out n rows m)) ∙ ap (λ (m : ℕ). m * k) (length-take-le n rows h)

  module _ (n : ℕ) (few : n ≤ length rows) (t₀ : List ℕ) where
    -- the table with the first n rows written
    abbrev pub written : ℕ → List ℕ
    written m = flat (take m rows) ++ drop (length (flat (take m rows))) t₀

    pub over_length : n * k ≤ length t₀ → length (written n) ≡ length t₀
    over_length h = simp (length-append, length-drop) (omega (arith, part_long n few))

    -- m rows more, copied from a table that holds c of them
    pub over_more : (m c : ℕ) (from : List ℕ) → m ≤ c → n + c ≤ length rows → pieces k c from ≡ take c (drop n rows)
        → paste (written n) (n * k) from (m * k) ≡ written (n + m)
    over_more m c from h within same =
        let here = flat (take n rows) in
        let more : take (m * k) from ≡ flat (take m (drop n rows)) = sym (flat_pieces k m from) ∙ ap flat (sym (pieces_part k m c from h) ∙ ap (take m) same ∙ take-take m c (drop n rows) h) in
        let all : here ++ flat (take m (drop n rows)) ≡ flat (take (n + m) rows) = sym (ap flat (take-add n m rows) ∙ flat_append (take n rows) (take m (drop n rows))) in
        let long = part_long n few in
        rw (take_at here (drop (length here) t₀) (n * k) long, more, over_past here t₀ (n * k + m * k) (omega arith), all, part_long (n + m) (omega arith), add-mul)

-- A loop over rows from the last to the first: the rows that are left stand before those that it has passed, of which P holds. Assumes nothing.
use mathlib.Core.Path.{◌∙◌, ◌≡◌, ap, sym}
use mathlib.Core.List.{List, [], ◌++◌, ◌∷◌, append-nil}
use Prim.Native.Nat.{ℕ}
use lib.Seq.{append_snoc}

pub record Passed (rows left : List ℕ) (P : List ℕ → Type 0) : Type 0 where
  pub done : List ℕ
  pub whole : rows ≡ left ++ done
  pub so : P done

pub passed_start : {rows left : List ℕ} {P : List ℕ → Type 0} → left ≡ rows → P [] → Passed rows left P
passed_start {rows} {left} e p = record { done = []; whole = sym (append-nil left ∙ e); so = p }

module _ {rows left : List ℕ} {P : List ℕ → Type 0} (passed : Passed rows left P) where
  pub passed_turn : {next : List ℕ} {Q : List ℕ → Type 0} (x : ℕ) → left ≡ next ++ (x ∷ []) → ((done : List ℕ) → P done → Q (x ∷ done)) → Passed rows next Q
  passed_turn {next} x e turn = record {
    done = x ∷ passed.done;
    whole = passed.whole ∙ ap (λ (l : List ℕ). l ++ passed.done) e ∙ append_snoc next x passed.done;
    so = turn passed.done passed.so;
  }

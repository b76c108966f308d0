-- The least completion with all rows ms past all that begin with the steps js (`NextFull`), or there is none (`NoneFull`).
-- It is found from the last step of js back. For a loop over places: `none_end_full`, `none_back_full`, `beyond_place_full`.
use mathlib.Core.Path.{◌≡◌, refl, subst, sym}
use mathlib.Core.Logic.{inl, inr}
use mathlib.Core.Option.{none-ne-some, some-injective, some}
use mathlib.Core.List.{List, [], ◌++◌, ◌∷◌}
use Prim.Native.Nat.{suc, zero, ℕ}
use lib.ListN.{drop, get_elem?, length, take}
use Rattle.graph.specs.Graph.{Graph, row_numbers}
use Rattle.graph.specs.Paths.{Key}
use Rattle.graph.proofs.Growth.{Legal, State, after}
use Rattle.graph.proofs.Keys.{KeysLe}
use Rattle.graph.proofs.Walk.{Legals, state_after}
use Rattle.forests.specs.Forests.{cut}
use Rattle.bounds.proofs.Beyond.{Beyond}
use Rattle.states.proofs.Full.{Full, full_cons, full_tail}
use Rattle.states.proofs.Due.{due_after}
use Rattle.states.proofs.Past.{LeastPastFull, NonePastFull}

pub record NextFull (g : Graph) (s : State) (ms : List ℕ) (js ls : List Key) : Type 0 where
  pub full : Full g s ms ls
  pub above : Beyond js ls
  pub least : (is : List Key) → Full g s ms is → Beyond js is → KeysLe ls is

abbrev pub NoneFull : Graph → State → List ℕ → List Key → Type 0
NoneFull g s ms js = (is : List Key) → Full g s ms is → ¬ Beyond js is

module _ (g : Graph) where
  pub none_nil_full : (s : State) (ms : List ℕ) → NoneFull g s ms []
  none_nil_full s ms is f h = h

  -- one step back, if nothing comes past it either
  pub none_cons_full : (s : State) (ms : List ℕ) (k : Key) (js : List Key) → NoneFull g (after s k) (cut k.row ms) js → NonePastFull g s ms k → NoneFull g s ms (k ∷ js)
  none_cons_full s ms k js n p [] f h = h
  none_cons_full s ms k js n p (m ∷ is) f (inl h) = p m is f h
  none_cons_full s ms k js n p (m ∷ is) f (inr h) = n is (full_tail (subst (λ (x : Key). Full g s ms (x ∷ is)) (sym h.0) f)) h.1

  beyond_cons : (s : State) (ms : List ℕ) (k : Key) (js ls : List Key) → Legal g (row_numbers g) s k → NextFull g (after s k) (cut k.row ms) js ls
      → NextFull g s ms (k ∷ js) (k ∷ ls)
  beyond_cons s ms k js ls h a = record { full = full_cons h a.full; above = inr (refl, a.above); least = compare }
    where
      compare : (is : List Key) → Full g s ms is → Beyond (k ∷ js) is → KeysLe (k ∷ ls) is
      compare [] f x = x
      compare (m ∷ is) f (inl x) = inl x
      compare (m ∷ is) f (inr x) = inr (x.0, a.least is (full_tail (subst (λ (y : Key). Full g s ms (y ∷ is)) (sym x.0) f)) x.1)

  beyond_skip : (s : State) (ms : List ℕ) (k : Key) (js : List Key) (l : Key) (ls : List Key) → NoneFull g (after s k) (cut k.row ms) js
      → LeastPastFull g s ms k l ls → NextFull g s ms (k ∷ js) (l ∷ ls)
  beyond_skip s ms k js l ls n a = record { full = a.full; above = inl a.above; least = compare }
    where
      compare : (is : List Key) → Full g s ms is → Beyond (k ∷ js) is → KeysLe (l ∷ ls) is
      compare [] f x = absurd x
      compare (m ∷ is) f (inl x) = a.least m is f x
      compare (m ∷ is) f (inr x) = absurd (n is (full_tail (subst (λ (y : Key). Full g s ms (y ∷ is)) (sym x.0) f)) x.1)

  -- By places: a loop goes from the last step of js back to the first, and at place i keeps that nothing is beyond the steps from i on.

  pub none_end_full : (s : State) (ms : List ℕ) (js : List Key)
      → NoneFull g (state_after s (take (length js) js)) (due_after ms (take (length js) js)) (drop (length js) js)
  none_end_full s ms [] = none_nil_full s ms
  none_end_full s ms (j ∷ js) = none_end_full (after s j) (cut j.row ms) js

  pub none_back_full : (s : State) (ms : List ℕ) (js : List Key) (i : ℕ) (k : Key) → get_elem? js i ≡ some k
      → NoneFull g (state_after s (take (suc i) js)) (due_after ms (take (suc i) js)) (drop (suc i) js)
      → NonePastFull g (state_after s (take i js)) (due_after ms (take i js)) k
      → NoneFull g (state_after s (take i js)) (due_after ms (take i js)) (drop i js)
  none_back_full s ms [] i k e n p = absurd (none-ne-some k e)
  none_back_full s ms (j ∷ js) zero k e n p = none_cons_full s ms j js n (subst (NonePastFull g s ms) (sym (some-injective j k e)) p)
  none_back_full s ms (j ∷ js) (suc i) k e n p = none_back_full (after s j) (cut j.row ms) js i k e n p

  pub beyond_place_full : (s : State) (ms : List ℕ) (js : List Key) (i : ℕ) (k l : Key) (ls : List Key) → Legals g (row_numbers g) s js → get_elem? js i ≡ some k
      → NoneFull g (state_after s (take (suc i) js)) (due_after ms (take (suc i) js)) (drop (suc i) js)
      → LeastPastFull g (state_after s (take i js)) (due_after ms (take i js)) k l ls → NextFull g s ms js (take i js ++ (l ∷ ls))
  beyond_place_full s ms [] i k l ls a e n p = absurd (none-ne-some k e)
  beyond_place_full s ms (j ∷ js) zero k l ls a e n p =
      beyond_skip s ms j js l ls n (subst (λ (x : Key). LeastPastFull g s ms x l ls) (sym (some-injective j k e)) p)
  beyond_place_full s ms (j ∷ js) (suc i) k l ls a e n p =
      beyond_cons s ms j js (take i js ++ (l ∷ ls)) a.0 (beyond_place_full (after s j) (cut j.row ms) js i k l ls a.1 e n p)

-- a part that is done, and a completion of the state after it with the rows that are due
pub full_part : {g : Graph} (s : State) (ms : List ℕ) (ks ls : List Key) → Full g s ms (ks ++ ls)
    → Legals g (row_numbers g) s ks × Full g (state_after s ks) (due_after ms ks) ls
full_part s ms [] ls f = (tt, f)
full_part s ms (k ∷ ks) ls f = let t = full_part (after s k) (cut k.row ms) ks ls (full_tail f) in ((f.completes.0, t.0), t.1)

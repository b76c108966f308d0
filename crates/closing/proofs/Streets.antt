-- What a street costs, as the library's fold takes it (`street_folded`); and the closing cost counted row by row (`closing_more`): a named street is counted at the last of its rows.
use mathlib.Core.Path.{◌∙◌, ◌≡◌, ap, refl, sym}
use mathlib.Core.Logic.{⊎_elim}
use mathlib.Core.Bool.{Bool, false, true}
use mathlib.Core.List.{List, [], ◌∷◌, map}
use Prim.Native.Nat.{◌*◌, ◌+◌, ◌<◌, ◌≤◌, max, suc, ℕ}
use native.Mathlib.Decide.{ℕ_discrete}
use native.Mathlib.Numerals.{add-one}
use native.Mathlib.Omega.{arith}
use lib.Dec.{eqb, eqb→eq}
use lib.ListN.{drop, drop_of_length-le, get_or, length}
use lib.Seq.{drop-cons}
use mir.Syntax.{w8}
use mir.Val.{Fits}
use borrow.Author.Tests.{eq-eqb, ne_eqb}
use Rattle.lists.specs.Lists.{any, either, filter_b, largest, member, pick, sum}
use Rattle.std.specs.List.{between, filter, fold, list_any}
use Rattle.std.proofs.lemmas.Slice.{between_to_end}
use Rattle.lists.proofs.Library.{any_is, filter_is, largest_is}
use Rattle.lists.proofs.Tests.{T-either, T_true, pick_elim}
use Rattle.costs.specs.Costs.{closing_cost, cost_at, in_street, street_cost, streets_of}
use Rattle.costs.specs.Network.{Network, closing, row_at}
use Rattle.bounds.proofs.Limits.{by_kind}
use Rattle.network_file.specs.File.{byte_at, network_of}
use Rattle.steps.proofs.Laws.{cost_word}
use Rattle.closing.specs.Closing.{closing_step, lies_in}

-- One street

pub street_folded : (g : Network) (c s : ℕ) (rows : List ℕ) → fold (λ most r. max most (cost_at g c r)) 0 (filter (lies_in g s) rows) ≡ street_cost g c rows s
street_folded g c s rows = sym (ap (λ l. largest (map (cost_at g c) l)) (filter_is (lies_in g s) rows) ∙ largest_is (cost_at g c) (filter (lies_in g s) rows))

-- All streets

-- one street more, unless it is 0 or there already
street_kept : (s t : ℕ) (S : List ℕ) → (s ≡ 0 → ⊥) → member s (pick (either (eqb t 0) (member t S)) S (t ∷ S)) ≡ either (eqb t s) (member s S)
unfolding member any
street_kept s t S named = elim (ℕ_discrete t s) [
  | yes e ↦ rw (eq-eqb t s e) (pick_elim (λ (l : List ℕ). member s l ≡ true) (either (eqb t 0) (member t S))
      (λ y. ⊎_elim (λ z. absurd (named (sym e ∙ eqb→eq t 0 z))) (λ m. rw e at ((T_true (member t S)).0 m)) ((T-either (eqb t 0) (member t S)).0 y))
      (λ n. rw (eq-eqb s t (sym e))))
  | no n ↦ rw (ne_eqb t s n) (pick_elim (λ (l : List ℕ). member s l ≡ member s S) (either (eqb t 0) (member t S))
      (λ y. refl) (λ z. rw (ne_eqb s t (λ e. n (sym e)))))
]

-- a named street is among the streets of the rows exactly if one of the rows lies in it
pub streets_member : (g : Network) (s : ℕ) → (s ≡ 0 → ⊥) → (rs : List ℕ) → member s (streets_of g rs) ≡ any (lies_in g s) rs
unfolding streets_of member any
streets_member g s named [] = refl
streets_member g s named (r ∷ rs) =
    street_kept s (row_at g r).street (streets_of g rs) named ∙ ap (either (lies_in g s r)) (streets_member g s named rs)

-- what the last of the rows add
unfoldable pub closing_from : Network → ℕ → List ℕ → List ℕ → ℕ
closing_from g c rows last = sum (map (street_cost g c rows) (streets_of g last)) + sum (map (cost_at g c) (in_street g 0 last))

-- one street more or not
one_more : (f : ℕ → ℕ) (s : ℕ) (S : List ℕ) (rest : ℕ) (b : Bool) → sum (map f (pick b S (s ∷ S))) + rest ≡ pick b 0 (f s) + (sum (map f S) + rest)
unfolding sum
one_more f s S rest true = omega arith
one_more f s S rest false = omega arith

module _ (g : Network) (c : ℕ) (rows : List ℕ) where
  closing_cons : (r : ℕ) (last : List ℕ) → closing_from g c rows (r ∷ last) ≡ closing_step g c rows r last + closing_from g c rows last
  unfolding closing_from closing_step streets_of filter_b sum
  closing_cons r last = elim (ℕ_discrete (row_at g r).street 0) [
    | yes e ↦ rw (eq-eqb (row_at g r).street 0 e) (omega arith)
    | no n ↦ rw (ne_eqb (row_at g r).street 0 n, streets_member g (row_at g r).street n last)
        (one_more (street_cost g c rows) (row_at g r).street (streets_of g last) (sum (map (cost_at g c) (in_street g 0 last))) (any (lies_in g (row_at g r).street) last))
  ]

  -- what is left to add in a loop that has come to row i
  pub closing_more : (i : ℕ) → i < length rows
      → closing_from g c rows (drop i rows) ≡ closing_step g c rows (get_or rows i 0) (between (i + 1) (length rows) rows) + closing_from g c rows (drop (i + 1) rows)
  closing_more i h = rw (between_to_end rows (i + 1) (length rows) (omega arith), drop-cons rows i 0 h, add-one) (closing_cons (get_or rows i 0) (drop (suc i) rows))

  pub closing_none : (i : ℕ) → length rows ≤ i → closing_from g c rows (drop i rows) ≡ 0
  unfolding closing_from streets_of filter_b sum
  closing_none i h = rw (drop_of_length-le rows h)

-- no sum is too large, with the bytes of the file f
pub closing_fits : (f : List ℕ) → ((i : ℕ) → Fits w8 (byte_at f i)) → (c : ℕ) (rows : List ℕ) → length rows ≤ 31 → closing_cost (network_of f) c rows ≤ 31 * 4294967295
closing_fits f bytes c rows few = omega (arith, by_kind (network_of f) 4294967295 (cost_word f bytes) closing c rows)

-- What a row adds that is the last of its street s
pub step_last : (g : Network) (c : ℕ) (rows : List ℕ) (r : ℕ) (behind : List ℕ) {s : ℕ} → s ≡ (row_at g r).street → (s ≡ 0 → ⊥) → list_any (lies_in g s) behind ≡ false
    → {x : ℕ} → x ≡ street_cost g c rows s → x ≡ closing_step g c rows r behind
unfolding closing_step
step_last g c rows r behind {s} street named last cost = rw (← street, ne_eqb s 0 named, any_is, last) cost

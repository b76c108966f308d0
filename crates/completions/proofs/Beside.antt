-- One row more BESIDE others: what closing costs with it (`closing_beside`).
use mathlib.Core.Path.{◌∙◌, ◌≡◌, ap, ap₂, refl, sym}
use mathlib.Core.Logic.{inl, inr, ⊎_elim}
use mathlib.Core.Bool.{Bool}
use mathlib.Core.List.Memᴰ.{cases_cons as mem_cases}
use mathlib.Core.List.Memᴰ.{cast as mem_cast}
use mathlib.Core.List.Memᴰ.{head as here}
use mathlib.Core.List.Memᴰ.{not-nil as mem_nil}
use mathlib.Core.List.Memᴰ.{tail as there}
use mathlib.Core.List.{List, [], ◌∷◌, map}
use Prim.Native.Nat.{◌+◌, ◌-◌, max, ℕ}
use native.Mathlib.Decide.{ℕ_discrete}
use native.Mathlib.Omega.{arith}
use lib.Dec.{eqb, eqb→eq}
use Rattle.lists.specs.Lists.{either, largest, member, pick, sum}
use Rattle.lists.proofs.Distinct.{Distinct, mem?}
use Rattle.lists.proofs.Members.{◌∈◌, filter_keep, filter_none, filter_skip, member_in, member_out}
use Rattle.lists.proofs.Tests.{T-either, T_false, eq→eqb, pick_true}
use Rattle.costs.specs.Costs.{closing_cost, cost_at, street_cost, streets_of}
use Rattle.costs.specs.Network.{Network}
use Rattle.bounds.specs.Bounds.{excess_at}
use Rattle.bounds.proofs.Closing.{one_off, one_on, street_of, streets_named}

-- A sum that changes at one member

sum_off : (f h : ℕ → ℕ) (s : ℕ) (S : List ℕ) → ¬ (s ∈ S) → ((x : ℕ) → ¬ (x ≡ s) → f x ≡ h x) → sum (map f S) ≡ sum (map h S)
unfolding sum
sum_off f h s [] n e = refl
sum_off f h s (x ∷ S) n e = ap₂ {C = ℕ} (λ a b. a + b) (e x (λ d. n (here (sym d)))) (sum_off f h s S (λ m. n (there m)) e)

sum_on : (f h : ℕ → ℕ) (s : ℕ) (S : List ℕ) → Distinct S → s ∈ S → ((x : ℕ) → ¬ (x ≡ s) → f x ≡ h x) → sum (map f S) + h s ≡ sum (map h S) + f s
unfolding sum
sum_on f h s [] d m e = absurd (mem_nil m)
sum_on f h s (x ∷ S) d m e = elim (ℕ_discrete s x) [
  | yes i ↦ omega (arith, ap f i, ap h i, sum_off f h s S (λ k. d.0 (mem_cast (sym i) k)) e)
  | no n ↦ omega (arith, e x (λ k. n (sym k)), sum_on f h s S d.1 (⊎_elim (λ k. absurd (n k)) (λ k. k) (mem_cases m)) e)
]

module _ (w : Network) (c : ℕ) (rs : List ℕ) (r : ℕ) where
  abbrev s : ℕ
  s = street_of w r

  abbrev before : ℕ → ℕ
  before x = street_cost w c rs x

  abbrev behind : ℕ → ℕ
  behind x = street_cost w c (r ∷ rs) x

  -- in its own street, and in another
  street_on : behind s ≡ max (cost_at w c r) (before s)
  unfolding largest
  street_on = ap (λ (l : List ℕ). largest (map (cost_at w c) l)) (filter_keep (λ q. eqb (street_of w q) s) r rs (eq→eqb s s refl))

  street_off : (x : ℕ) → ¬ (x ≡ s) → behind x ≡ before x
  street_off x n = ap (λ (l : List ℕ). largest (map (cost_at w c) l)) (filter_skip (λ q. eqb (street_of w q) x) r rs (λ t. n (sym (eqb→eq s x t))))

  -- a street with no row costs nothing
  street_none : (l : List ℕ) → ¬ (s ≡ 0) → ¬ (s ∈ streets_of w l) → street_cost w c l s ≡ 0
  unfolding largest
  street_none l n out = ap (λ (x : List ℕ). largest (map (cost_at w c) x)) (filter_none (λ q. eqb (street_of w q) s) l
      (λ q m t. ⊎_elim (λ (e : street_of w q ≡ 0). n (sym (eqb→eq (street_of w q) s t) ∙ e)) (λ i. out (mem_cast (sym (eqb→eq (street_of w q) s t)) i)) ((streets_named w l).each q m)))

  -- CLOSING
  pub closing_beside : closing_cost w c (r ∷ rs) ≡ closing_cost w c rs + excess_at w c rs r
  unfolding streets_of sum
  closing_beside = elim (ℕ_discrete s 0) [
    | yes e ↦ omega (
      arith,
      ap (λ (l : List ℕ). sum (map behind l)) (pick_true (either (eqb s 0) (member s S)) S (s ∷ S) ((T-either (eqb s 0) (member s S)).1 (inl (eq→eqb s 0 e)))),
      sum_off behind before s S (λ m. (streets_named w rs).no_zero (mem_cast (sym e) m)) street_off,
      one_on w (cost_at w c) r 0 rs e,
      pick_true (eqb s 0) (cost_at w c r) (cost_at w c r - before s) (eq→eqb s 0 e),
    )
    | no n ↦ elim (mem? ℕ_discrete s S) [
      | yes m ↦ omega (
        arith,
        ap (λ (l : List ℕ). sum (map behind l)) (pick_true (either (eqb s 0) (member s S)) S (s ∷ S) ((T-either (eqb s 0) (member s S)).1 (inr (member_in m)))),
        sum_on behind before s S (streets_named w rs).once m street_off,
        street_on,
        one_off w (cost_at w c) r 0 rs n,
        off n,
      )
      | no out ↦ omega (
        arith,
        ap (λ (l : List ℕ). sum (map behind l)) (ap (λ (t : Bool). pick t S (s ∷ S)) ((T_false (either (eqb s 0) (member s S))).0
            (λ t. ⊎_elim (λ z. n (eqb→eq s 0 z)) (λ z. out (member_out s S z)) ((T-either (eqb s 0) (member s S)).0 t)))),
        sum_off behind before s S out street_off,
        street_on,
        street_none rs n out,
        one_off w (cost_at w c) r 0 rs n,
        off n,
      )
    ]
  ]
    where
      S : List ℕ
      S = streets_of w rs

      off : ¬ (s ≡ 0) → excess_at w c rs r ≡ cost_at w c r - before s
      off n = ap (λ (t : Bool). pick t (cost_at w c r) (cost_at w c r - before s)) ((T_false (eqb s 0)).0 (λ t. n (eqb→eq s 0 t)))

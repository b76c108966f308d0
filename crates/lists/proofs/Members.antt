-- Membership, `a ∈ l`, and what the functions of `specs/Lists.antt` do to it. For each function, -out says what a member of its
-- result is (what a passed test tells), and -in makes one (what makes the test pass).
-- The constructors are `here e` and `there m`; `mem-cases`, `mem-nil`, `mem_cast`, `append_cases` and so on are mathlib's, renamed where they are imported.
use mathlib.Core.Path.{◌∙◌, ◌≡◌, ap, ap₂, refl, subst, sym}
use mathlib.Core.Logic.{◌⊎◌, inl, inr, ⊎_elim}
use mathlib.Core.Bool.{Bool, false, true}
use mathlib.Core.Option.{Option, none-ne-some, some-injective, some}
use mathlib.Core.List.{List, Memᴰ, [], ◌++◌, ◌∷◌}
use mathlib.Core.List.Memᴰ.{append_cases}
use mathlib.Core.List.Memᴰ.{append_left}
use mathlib.Core.List.Memᴰ.{append_right}
use mathlib.Core.List.Memᴰ.{eq_of_singleton}
use mathlib.Core.List.Memᴰ.{cases_cons as mem_cases}
use mathlib.Core.List.Memᴰ.{cast as mem_cast}
use mathlib.Core.List.Memᴰ.{head as here}
use mathlib.Core.List.Memᴰ.{not-nil as mem_nil}
use mathlib.Core.List.Memᴰ.{tail as there}
use Prim.Native.Nat.{◌+◌, ◌<◌, ◌≤◌, suc, zero, ℕ}
use native.Mathlib.Decide.{ℕ_discrete}
use native.Mathlib.Omega.{arith}
use lib.Dec.{T, eqb, eqb_refl, eqb→eq}
use lib.ListN.{drop, length, length-append, take, take-append-drop}
use Rattle.lists.specs.Lists.{all, any, both, filter_b, first, has_all, keep_if, member, range, same, some_if}
use Rattle.lists.proofs.Tests.{T-both, T-either, T_false, T_true, decide}

module _ {A : Type 0} where
  infix 40 ◌∈◌ ◌⊆◌
  abbrev pub ◌∈◌ : A → List A → Type 0
  a ∈ l = Memᴰ a l

  abbrev pub ◌⊆◌ : List A → List A → Type 0
  l ⊆ m = (a : A) → a ∈ l → a ∈ m

  -- a member of b ∷ l, by cases, with no equation left
  pub mem_elim : (P : A → Type 0) {a b : A} {l : List A} → a ∈ b ∷ l → P b → (a ∈ l → P a) → P a
  mem_elim P {a} {b} m first later = ⊎_elim (λ (e : a ≡ b). subst P (sym e) first) later (mem_cases m)

  -- what stands before a member and behind it
  pub mem_stands : {a : A} {l : List A} → a ∈ l → (before : List A) × (behind : List A) × (l ≡ before ++ a ∷ behind)
  mem_stands (here {xs = l} e) = ([], l, ap (λ (x : A). x ∷ l) (sym e))
  mem_stands (there {x} m) = let (before, behind, e) = mem_stands m in (x ∷ before, behind, ap (λ (rest : List A). x ∷ rest) e)

  pub nil_⊆ : (l : List A) → [] ⊆ l
  nil_⊆ l a m = absurd (mem_nil m)

  pub cons_⊆ : {a : A} {l m : List A} → a ∈ m → l ⊆ m → (a ∷ l) ⊆ m
  cons_⊆ {a} {l} {m} i s b j = mem_elim (λ (x : A). x ∈ m) j i (s b)

  -- one more at the end
  pub snoc_out : {a b : A} (l : List A) → a ∈ l ++ (b ∷ []) → (a ∈ l) ⊎ (a ≡ b)
  snoc_out l m = elim (append_cases l m) [ inl i ↦ inl i | inr j ↦ inr (eq_of_singleton j) ]

  pub snoc_old : (b : A) {a : A} {l : List A} → a ∈ l → a ∈ l ++ (b ∷ [])
  snoc_old b m = append_left (b ∷ []) m

  pub snoc_new : (l : List A) (b : A) → b ∈ l ++ (b ∷ [])
  snoc_new l b = append_right l (here refl)

  pub not_snoc : {a b : A} (l : List A) → ¬ (a ∈ l) → ¬ (a ≡ b) → ¬ (a ∈ l ++ (b ∷ []))
  not_snoc l n d m = ⊎_elim n d (snoc_out l m)

  pub length_snoc : (l : List A) (b : A) → length (l ++ (b ∷ [])) ≡ suc (length l)
  length_snoc l b = omega (arith, length-append l (b ∷ []))

  -- the first n, and the others
  pub take_out : {a : A} (n : ℕ) (l : List A) → a ∈ take n l → a ∈ l
  take_out n l m = rw (take-append-drop n l) at (append_left (drop n l) m)

  pub drop_out : {a : A} (n : ℕ) (l : List A) → a ∈ drop n l → a ∈ l
  drop_out n l m = rw (take-append-drop n l) at (append_right (take n l) m)

  pub take_or_drop : {a : A} (n : ℕ) (l : List A) → a ∈ l → (a ∈ take n l) ⊎ (a ∈ drop n l)
  take_or_drop {a} n l m = append_cases (take n l) (subst (λ (k : List A). a ∈ k) (sym (take-append-drop n l)) m)

-- Tests over a list

module _ {A : Type 0} (p : A → Bool) where
  -- `any` is there-is
  pub any_out : (l : List A) → T (any p l) → (a : A) × (a ∈ l) × T (p a)
  unfolding any
  any_out [] t = absurd t
  any_out (x ∷ l) t =
      ⊎_elim (λ (t : T (p x)). (x, here refl, t)) (λ (t : T (any p l)). let (a, m, t) = any_out l t in (a, there m, t))
      ((T-either (p x) (any p l)).0 t)

  pub any_in : {a : A} {l : List A} → a ∈ l → T (p a) → T (any p l)
  unfolding any
  any_in (here {x} {xs} e) t = (T-either (p x) (any p xs)).1 (inl (rw e at t))
  any_in (there {x} {xs} m) t = (T-either (p x) (any p xs)).1 (inr (any_in m t))

  -- `all` is for-all
  pub all_out : {a : A} {l : List A} → T (all p l) → a ∈ l → T (p a)
  unfolding all
  all_out t (here {x} {xs} e) = rw e ((T-both (p x) (all p xs)).0 t).0
  all_out t (there {x} {xs} m) = all_out ((T-both (p x) (all p xs)).0 t).1 m

  pub all_in : (l : List A) → ((a : A) → a ∈ l → T (p a)) → T (all p l)
  unfolding all
  all_in [] h = tt
  all_in (x ∷ l) h = (T-both (p x) (all p l)).1 (h x (here refl), all_in l (λ a m. h a (there m)))

  -- the first member that passes
  some_if_pass : (b : Bool) (a : A) (o : Option A) → T b → some_if b a o ≡ some a
  some_if_pass true a o t = refl
  some_if_pass false a o t = absurd t

  some_if_fail : (b : Bool) (a : A) (o : Option A) → ¬ T b → some_if b a o ≡ o
  some_if_fail true a o n = absurd (n tt)
  some_if_fail false a o n = refl

  pub first_here : (a : A) (l : List A) → T (p a) → first p (a ∷ l) ≡ some a
  unfolding first
  first_here a l t = some_if_pass (p a) a (first p l) t

  pub first_there : (a : A) (l : List A) → ¬ T (p a) → first p (a ∷ l) ≡ first p l
  unfolding first
  first_there a l n = some_if_fail (p a) a (first p l) n

  pub first_out : (l : List A) {x : A} → first p l ≡ some x → (x ∈ l) × T (p x)
  unfolding first
  first_out [] {x} e = absurd (none-ne-some x e)
  first_out (a ∷ l) {x} e = ⊎_elim
      (λ (t : T (p a)). let q : a ≡ x = some-injective a x (sym (first_here a l t) ∙ e) in (here (sym q), subst (λ (y : A). T (p y)) q t))
      (λ (n : ¬ T (p a)). let (m, t) = first_out l (sym (first_there a l n) ∙ e) in (there m, t))
      (decide (p a))

  -- a member that passes stands behind one that does not
  pass_later : {a x : A} {l : List A} → ¬ T (p a) → x ∈ a ∷ l → T (p x) → x ∈ l
  pass_later {a} {x} n m t = ⊎_elim (λ (e : x ≡ a). absurd (n (subst (λ (y : A). T (p y)) e t))) (λ i. i) (mem_cases m)

  -- where one passes, one is found
  pub first_in_lem : (l : List A) {x : A} → x ∈ l → T (p x) → (y : A) × (first p l ≡ some y)
  first_in_lem [] m t = absurd (mem_nil m)
  first_in_lem (a ∷ l) m t = ⊎_elim
      (λ (s : T (p a)). (a, first_here a l s))
      (λ (n : ¬ T (p a)). let (y, e) = first_in_lem l (pass_later n m t) t in (y, first_there a l n ∙ e))
      (decide (p a))

  -- what stands before the one that is found does not pass
  pub first_stands : (l : List A) {x : A} → first p l ≡ some x
      → (before : List A) × (behind : List A) × (l ≡ before ++ x ∷ behind) × ((y : A) → y ∈ before → ¬ T (p y))
  unfolding first
  first_stands [] {x} e = absurd (none-ne-some x e)
  first_stands (a ∷ l) {x} e = ⊎_elim
      (λ (t : T (p a)). ([], l, ap (λ (y : A). y ∷ l) (some-injective a x (sym (first_here a l t) ∙ e)), λ y m. absurd (mem_nil m)))
      (λ (n : ¬ T (p a)).
      let (before, behind, q, none_before) = first_stands l (sym (first_there a l n) ∙ e) in
      (a ∷ before, behind, ap (λ (k : List A). a ∷ k) q, λ y m. mem_elim (λ (z : A). ¬ T (p z)) m n (none_before y)))
      (decide (p a))

  -- the only member that passes is found
  pub first_only : (l : List A) (x : A) → x ∈ l → T (p x) → ((y : A) → y ∈ l → T (p y) → y ≡ x) → first p l ≡ some x
  first_only [] x m t only = absurd (mem_nil m)
  first_only (a ∷ l) x m t only = ⊎_elim
      (λ (s : T (p a)). first_here a l s ∙ ap {B = Option A} some (only a (here refl) s))
      (λ (n : ¬ T (p a)). first_there a l n ∙ first_only l x (pass_later n m t) t (λ y i. only y (there i)))
      (decide (p a))

-- Filtered lists

module _ {A : Type 0} where
  keep_if_out : (b : Bool) {a x : A} {l : List A} → a ∈ keep_if b x l → ((a ≡ x) × T b) ⊎ (a ∈ l)
  keep_if_out true (here e) = inl (e, tt)
  keep_if_out true (there m) = inr m
  keep_if_out false m = inr m

  keep_if_old : (b : Bool) (x : A) {a : A} {l : List A} → a ∈ l → a ∈ keep_if b x l
  keep_if_old true x m = there m
  keep_if_old false x m = m

  keep_if_new : (b : Bool) {a x : A} (l : List A) → T b → a ≡ x → a ∈ keep_if b x l
  keep_if_new true l t e = here e
  keep_if_new false l t e = absurd t

  keep_if_length : (b : Bool) (x : A) (l : List A) → length (keep_if b x l) ≤ suc (length l)
  keep_if_length true x l = omega arith
  keep_if_length false x l = omega arith

module _ {A : Type 0} (p : A → Bool) where
  pub filter_out : {a : A} (l : List A) → a ∈ filter_b p l → (a ∈ l) × T (p a)
  unfolding filter_b
  filter_out [] m = absurd (mem_nil m)
  filter_out {a} (x ∷ l) m =
      ⊎_elim (λ (h : (a ≡ x) × T (p x)). (here h.0, rw h.0 h.1)) (λ (m : a ∈ filter_b p l). let (m, t) = filter_out l m in (there m, t))
      (keep_if_out (p x) m)

  pub filter_in : {a : A} {l : List A} → a ∈ l → T (p a) → a ∈ filter_b p l
  unfolding filter_b
  filter_in (here {x} {xs} e) t = keep_if_new (p x) (filter_b p xs) (rw e at t) e
  filter_in (there {x} {xs} m) t = keep_if_old (p x) x (filter_in m t)

  pub filter_length : (l : List A) → length (filter_b p l) ≤ length l
  unfolding filter_b
  filter_length [] = omega arith
  filter_length (a ∷ l) = omega (arith, keep_if_length (p a) a (filter_b p l), filter_length l)

  -- a first member that does not pass is left out; where all pass, the list stays as it is
  pub filter_skip : (a : A) (l : List A) → ¬ T (p a) → filter_b p (a ∷ l) ≡ filter_b p l
  unfolding filter_b
  filter_skip a l n = rw ((T_false (p a)).0 n)

  pub filter_keep : (a : A) (l : List A) → T (p a) → filter_b p (a ∷ l) ≡ a ∷ filter_b p l
  unfolding filter_b
  filter_keep a l t = rw ((T_true (p a)).0 t)

  -- none of l passes
  pub filter_none : (l : List A) → ((a : A) → a ∈ l → ¬ T (p a)) → filter_b p l ≡ []
  unfolding filter_b
  filter_none [] h = refl
  filter_none (a ∷ l) h = filter_skip a l (h a (here refl)) ∙ filter_none l (λ b m. h b (there m))

  pub filter_whole : (l : List A) → ((a : A) → a ∈ l → T (p a)) → filter_b p l ≡ l
  unfolding filter_b
  filter_whole [] h = refl
  filter_whole (a ∷ l) h = rw ((T_true (p a)).0 (h a (here refl)), filter_whole l (λ b m. h b (there m)))

-- one list behind another
pub filter_append : {A : Type 0} (p : A → Bool) (l m : List A) → filter_b p (l ++ m) ≡ filter_b p l ++ filter_b p m
unfolding filter_b
filter_append p [] m = refl
filter_append {A} p (a ∷ l) m = step (p a) (filter_append p l m)
  where
    step : (b : Bool) → filter_b p (l ++ m) ≡ filter_b p l ++ filter_b p m → keep_if b a (filter_b p (l ++ m)) ≡ keep_if b a (filter_b p l) ++ filter_b p m
    step true e = ap (λ (x : List A). a ∷ x) e
    step false e = e

-- two tests that agree on the members
pub filter_same : {A : Type 0} (p q : A → Bool) (l : List A) → ((a : A) → a ∈ l → p a ≡ q a) → filter_b p l ≡ filter_b q l
unfolding filter_b
filter_same p q [] h = refl
filter_same p q (a ∷ l) h = rw (h a (here refl), filter_same p q l (λ b m. h b (there m)))

-- two tests at once, or one after the other
pub filter_both : {A : Type 0} (p q : A → Bool) (l : List A) → filter_b (λ a. both (p a) (q a)) l ≡ filter_b p (filter_b q l)
unfolding filter_b
filter_both p q [] = refl
filter_both {A} p q (a ∷ l) = go (p a) (q a) refl (filter_both p q l)
  where
    go : (x y : Bool) → p a ≡ x → filter_b (λ a. both (p a) (q a)) l ≡ filter_b p (filter_b q l)
        → keep_if (both x y) a (filter_b (λ a. both (p a) (q a)) l) ≡ filter_b p (keep_if y a (filter_b q l))
    go true true e h = rw e (ap (λ (m : List A). a ∷ m) h)
    go true false e h = h
    go false true e h = rw e h
    go false false e h = h

-- Numbers: `member` is membership

pub member_out : (x : ℕ) (l : List ℕ) → T (member x l) → x ∈ l
unfolding member
member_out x l t = let (y, m, e) = any_out (λ y. eqb x y) l t in mem_cast (eqb→eq x y e) m

pub member_in : {x : ℕ} {l : List ℕ} → x ∈ l → T (member x l)
unfolding member
member_in {x} m = any_in (λ y. eqb x y) m (eqb_refl x)

-- `range from n`: the numbers from `from` up to below `from + n`
pub has_all_out : (these l : List ℕ) → T (has_all these l) → these ⊆ l
has_all_out these l t x i = member_out x l (all_out (λ x. member x l) t i)

pub has_all_in : (these l : List ℕ) → these ⊆ l → T (has_all these l)
has_all_in these l w = all_in (λ x. member x l) these (λ x i. member_in (w x i))

pub range_out : (from n : ℕ) {x : ℕ} → x ∈ range from n → (from ≤ x) × (x < from + n)
unfolding range
range_out from zero m = absurd (mem_nil m)
range_out from (suc n) {x} m =
    ⊎_elim (λ (e : x ≡ from). (omega arith, omega arith)) (λ (m : x ∈ range (suc from) n). let h = range_out (suc from) n m in (omega arith, omega arith))
    (mem_cases m)

pub range_in : (from n x : ℕ) → from ≤ x → x < from + n → x ∈ range from n
unfolding range
range_in from zero x low high = absurd (omega arith)
range_in from (suc n) x low high = elim (ℕ_discrete x from) [ yes e ↦ here e | no d ↦ there (range_in (suc from) n x (omega arith) (omega arith)) ]

-- Lists of numbers

-- `same` is equality
pub same_out : (p q : List ℕ) → T (same p q) → p ≡ q
unfolding same
same_out [] [] t = refl
same_out [] (y ∷ q) t = absurd t
same_out (x ∷ p) [] t = absurd t
same_out (x ∷ p) (y ∷ q) t = let (s, t) = simp T-both at t in ap₂ ◌∷◌ (eqb→eq x y s) (same_out p q t)

pub same_in : (p : List ℕ) → T (same p p)
unfolding same
same_in [] = tt
same_in (x ∷ p) = simp T-both (eqb_refl x, same_in p)

pub same_of : (p q : List ℕ) → p ≡ q → T (same p q)
same_of p q e = subst (λ (r : List ℕ). T (same p r)) e (same_in p)

-- The known vectors as rows of their table: each is as long as there are criteria (`row_long`), and is inside limits by its components (`inside_row`). The chunks of the
-- table are its rows (`chunks_rows`), so that the one that the code picks is the nearest (`nearest_of`); or no row is inside (`clean_rows`).
use mathlib.Core.Path.{◌∙◌, ◌≡◌, ap, ap₂, refl, subst, sym}
use mathlib.Core.Logic.{⊎_elim}
use mathlib.Core.Bool.{Bool, cond, false, true}
use mathlib.Core.List.Memᴰ.{cases_cons as mem_cases}
use mathlib.Core.List.Memᴰ.{head as here}
use mathlib.Core.List.Memᴰ.{not-nil as mem_nil}
use mathlib.Core.List.Memᴰ.{tail as there}
use mathlib.Core.List.{List, [], ◌∷◌, ◌++◌, map}
use Prim.Native.Nat.{◌*◌, ◌+◌, ◌-◌, ◌/◌, ◌%◌, ◌<◌, ◌≤◌, suc, zero, ℕ}
use native.Mathlib.Nat.{div-zero, le_refl, suc-mul}
use native.Mathlib.Omega.{arith}
use Rattle.std.proofs.lemmas.Bool.Decides.{nat_tests}
use Rattle.std.proofs.lemmas.Nat.{div-add-mod', div-mul-add}
use lib.Dec.{T, ltb, ltb→lt}
use lib.ListN.{get_or-eq_default, drop, get_or, length, length-append, length-drop, length-take, set, take}
use lib.Seq.{drop-append_seam, ext_get_or, get_or-set_same, get_or-take, take-append_seam, take-nil}
use denote.Param.Members.{Mut}
use denote.Ref.{Bor}
use Rattle.std.specs.Fn.{CalledAt}
use Rattle.std.specs.Iterator.Runs.{AnyItem, CallKeepsClosure, NoKeyBeyond, Run, YieldsRun}
use Rattle.std.specs.List.{filter, slice_get}
use Rattle.std.specs.Option.{IfSome, IsSomeAnd, MatchOption}
use Rattle.std.specs.Ordering.{is_lt, nat_cmp}
use Rattle.std.specs.Prelude.{None, Option, Some}
use Rattle.std.specs.Slice.Iter.{chunks_exact_rest, chunks_exact_size, chunks_exact_steps}
use Rattle.std.proofs.lemmas.Iterator.{YieldsList}
use Rattle.std.proofs.lemmas.Option.{slice_get_within}
use Rattle.std.proofs.lemmas.Iterator.Consumers.{YieldsList-end}
use Rattle.std.proofs.lemmas.Iterator.Splits.{YieldsList-from_shown_while}
use Rattle.lists.specs.Lists.{both}
use Rattle.lists.proofs.Members.{◌∈◌}
use Rattle.lists.proofs.Tests.{T-both, T_true}
use Rattle.pages.specs.Pages.{pieces}
use Rattle.pages.proofs.Pages.{rows_end}
use Rattle.completions.specs.Boxes.{inside}
use Rattle.completions.specs.Rows.{rest_of}
use Rattle.completions.proofs.Least.{Clean, rest_at}
use Rattle.tally.proofs.Tables.{inside_take}
use Rattle.least.specs.Least.{Nearest, NoneInside, OpenPast, inside_at, known_rows}

-- THE CHUNKS of the table are its rows

div_more : (k n : ℕ) → 0 < k → (k + n) / k ≡ suc (n / k)
div_more k n many =
    let whole : k + n ≡ suc (n / k) * k + n % k = omega (arith, suc-mul (n / k) k, div-add-mod' n k) in
    ap (λ (m : ℕ). m / k) whole ∙ div-mul-add (suc (n / k)) k (n % k) (omega arith)

-- the rows where a chunk comes, and where none is left
chunk_first : (k : ℕ) (x rest : List ℕ) → length x ≡ k → 0 < k → known_rows k (x ++ rest) ≡ x ∷ known_rows k rest
unfolding pieces
chunk_first k x rest e many =
    rw (length-append x rest, e, div_more k (length rest) many)
    (subst (λ (n : ℕ). (take n (x ++ rest) ∷ pieces k (length rest / k) (drop n (x ++ rest))) ≡ (x ∷ pieces k (length rest / k) rest)) e
    (rw (take-append_seam x rest, drop-append_seam x rest) refl))

chunk_last : (k : ℕ) (rest : List ℕ) → length rest < k → length (known_rows k rest) ≡ 0
unfolding pieces
chunk_last k rest h =
    let all : length rest ≡ 0 * k + length rest = omega arith in
    ap (λ (n : ℕ). length (pieces k n rest)) (ap (λ (n : ℕ). n / k) all ∙ div-mul-add 0 k (length rest) h)

chunks_left : (s : _) → 0 < chunks_exact_size s → YieldsList (chunks_exact_steps {A = ℕ}) (λ x. x.now) s (known_rows (chunks_exact_size s) (chunks_exact_rest s))
chunks_left s many =
    YieldsList-from_shown_while chunks_exact_steps (λ x. x.now) (λ u. known_rows (chunks_exact_size u) (chunks_exact_rest u)) (λ u. 0 < chunks_exact_size u)
    (λ u t p (same, (few, _), _). chunk_last (chunks_exact_size u) (chunks_exact_rest u) few)
    (λ u x t p (same, (cut, long), _). (
      omega (arith, same),
      ap (known_rows (chunks_exact_size u)) cut ∙ chunk_first (chunks_exact_size u) x.now (chunks_exact_rest t) long p
          ∙ ap (λ (k : ℕ). x.now ∷ known_rows k (chunks_exact_rest t)) (sym same),
    ))
    s many

pub chunks_rows : (k : ℕ) (known : List ℕ) (s : _) → 0 < k → chunks_exact_size s ≡ k → chunks_exact_rest s ≡ known
    → YieldsList (chunks_exact_steps {A = ℕ}) (λ x. x.now) s (known_rows k known)
chunks_rows k known s many e d =
    subst (λ (l : List (List ℕ)). YieldsList (chunks_exact_steps {A = ℕ}) (λ x. x.now) s l) (ap₂ known_rows e d) (chunks_left s (omega (arith, e)))

-- there are no rows of width 0
pub no_rows : (known limits : List ℕ) (k : ℕ) → k ≡ 0 → NoneInside (known_rows k known) limits
unfolding pieces
no_rows known limits k e x m t = mem_nil (subst (λ (l : List (List ℕ)). x ∈ l) (ap (λ (j : ℕ). known_rows j known) e ∙ ap (λ (n : ℕ). pieces 0 n known) (div-zero (length known))) m)

-- THE NEAREST: what a run over the rows that are inside picks by component 1

module _ {S A : Type 0} {B : Type 0} {steps : S → Option A → S → Type 0} {v : A → B} {ys : List B} (p : Run steps) (e : YieldsList steps v p.from ys) (whole : p.whole ≡ true) where
  items_are : map v p.items ≡ ys
  unfolding YieldsRun
  items_are =
      let (t, y, ended) = p.gave.0 in
      let (u, z) = ended whole in
      (YieldsList-end e p.items t y None u refl z).0

  item_in : (k : ℕ) (x : A) → p.at k ≡ Some x → v x ∈ ys
  unfolding YieldsRun
  item_in k x h = subst (λ (l : List B). v x ∈ l) items_are (read p.items k (sym (p.gave.1 k) ∙ h))
    where
      read : (xs : List A) (k : ℕ) → slice_get xs k ≡ Some x → v x ∈ map v xs
      read [] k h = cc
      read (a ∷ xs) zero h = here cc
      read (a ∷ xs) (suc k) h = there (read xs k h)

  item_low : (k : ℕ) (x : A) → p.at k ≡ Some x → k < length p.items
  unfolding YieldsRun
  item_low k x h = slice_get_within p.items k x (sym (p.gave.1 k) ∙ h)

  item_out : (y : B) → y ∈ ys → (k : ℕ) × (x : A) × (p.at k ≡ Some x) × (v x ≡ y)
  unfolding YieldsRun
  item_out y m =
      let (k, x, h, d) = find p.items (subst (λ (l : List B). y ∈ l) (sym items_are) m) in
      (k, x, p.gave.1 k ∙ h, d)
    where
      find : (xs : List A) → y ∈ map v xs → (k : ℕ) × (x : A) × (slice_get xs k ≡ Some x) × (v x ≡ y)
      find [] m = absurd (mem_nil m)
      find (a ∷ xs) m = ⊎_elim
          (λ d. (0, a, refl, sym d))
          (λ i. let (k, x, h, d) = find xs i in (suc k, x, h, d))
          (mem_cases m)

module _ (test : List ℕ → Bool) (x : List ℕ) where
  filter_in : (rows : List (List ℕ)) → x ∈ rows → test x ≡ true → x ∈ filter test rows
  filter_in [] m t = absurd (mem_nil m)
  filter_in (y ∷ rows) m t = ⊎_elim
      (λ e. first (test y) (ap test (sym e) ∙ t) (filter test rows) e)
      (λ i. more (test y) (filter_in rows i t))
      (mem_cases m)
    where
      first : (b : Bool) → b ≡ true → (l : List (List ℕ)) → x ≡ y → x ∈ cond b (y ∷ l) l
      first true d l e = here e
      first false d l e = cc

      more : (b : Bool) {l : List (List ℕ)} → x ∈ l → x ∈ cond b (y ∷ l) l
      more true m = there m
      more false m = m

  filter_out : (rows : List (List ℕ)) → x ∈ filter test rows → (x ∈ rows) × (test x ≡ true)
  filter_out [] m = absurd (mem_nil m)
  filter_out (y ∷ rows) m = split (test y) refl m (filter_out rows)
    where
      split : (b : Bool) → test y ≡ b → x ∈ cond b (y ∷ filter test rows) (filter test rows)
          → (x ∈ filter test rows → (x ∈ rows) × (test x ≡ true)) → (x ∈ y ∷ rows) × (test x ≡ true)
      split true t m rest = ⊎_elim (λ e. (here e, ap test e ∙ t)) (λ i. let (n, t) = rest i in (there n, t)) (mem_cases m)
      split false t m rest = let (n, t) = rest m in (there n, t)

some_at : {A : Type 0} {P : A → Type 0} (o : Option A) → IsSomeAnd o P → (x : A) × (o ≡ Some x) × P x
some_at None h = absurd h
some_at (Some x) h = (x, refl, h)

if_at : {A : Type 0} (P : A → Type 0) {x : A} {o : Option A} → o ≡ Some x → IfSome o P → P x
if_at {A} P e h = subst (λ (z : Option A). IfSome z P) e h

not_below : (b a : ℕ) → is_lt (nat_cmp b a) ≡ false → a ≤ b
not_below b a e = grind (arith, nat_tests)

module _ {S F : Type 0} {steps : S → Option (Bor (List ℕ)) → S → Type 0} (rows : List (List ℕ)) (limits : List ℕ) (p : Run steps)
    (e : YieldsList steps (λ x. x.now) p.from (filter (λ x. inside_at x limits) rows)) (whole : p.whole ≡ true)
    (g : Mut F (Bor (Bor (List ℕ)) × Unit {0}) ℕ) (f : F) (keeps : CallKeepsClosure g f) (key : (x : Bor (List ℕ)) (r : ℕ) → CalledAt g f x r f → r ≡ get_or x.now 1 0) where
  pub nearest_of : (r : Option (Bor (List ℕ))) → MatchOption r (p.len ≡ 0) (λ m. AnyItem p (λ x. x ≡ m) × NoKeyBeyond p g f is_lt nat_cmp m)
      → MatchOption r (NoneInside rows limits) (λ m. Nearest rows limits m.now)
  nearest_of None h = λ x m t.
      let (k, y, at, d) = item_out p e whole x (filter_in (λ x. inside_at x limits) x rows m ((T_true (inside_at x limits)).0 t)) in
      absurd (omega (arith, h, p.long, item_low p e whole k y at))
  nearest_of (Some m) ((k, low, is), least) =
      let (x, at, d) = some_at (p.at k) is in
      let (known, inside) = filter_out (λ x. inside_at x limits) m.now rows (subst (λ (y : Bor (List ℕ)). y.now ∈ filter (λ x. inside_at x limits) rows) d (item_in p e whole k x at)) in
      let (a, called, beyond) = least keeps in
      record {
        known = known;
        inside = (T_true (inside_at m.now limits)).1 inside;
        least = λ y n t.
            let (i, z, stands, same) = item_out p e whole y (filter_in (λ x. inside_at x limits) y rows n ((T_true (inside_at y limits)).0 t)) in
            let (b, called', not_less) = if_at _ stands (beyond i) in
            subst (λ (l : List ℕ). get_or m.now 1 0 ≤ get_or l 1 0) same (omega (arith, key m a called, key z b called', not_below b a not_less));
      }

-- FALLS: a limit that is set at a row that is inside
module _ (row limits : List ℕ) (t : T (inside_at row limits)) (four : length limits ≡ 4) (x : ℕ) where
  below : (get_or row 2 0 < get_or limits 2 0) × (get_or row 3 0 < get_or limits 3 0)
  unfolding inside_at
  below =
      let two = ltb (get_or row 2 0) (get_or limits 2 0) in
      let three = ltb (get_or row 3 0) (get_or limits 3 0) in
      let (a, b) = (T-both two three).0 ((T-both (ltb (get_or row 1 0) (get_or limits 1 0)) (both two three)).0 t).1 in
      (ltb→lt (get_or row 2 0) (get_or limits 2 0) a, ltb→lt (get_or row 3 0) (get_or limits 3 0) b)

  pub falls_two : x ≡ get_or row 2 0 → get_or (set limits 2 x) 2 0 < get_or limits 2 0
  falls_two e = omega (arith, get_or-set_same limits 2 x 0 (omega arith), below.0, e)

  pub falls_three : x ≡ get_or row 3 0 → (lower : List ℕ) → lower ≡ set limits 3 x → get_or lower 3 0 < get_or limits 3 0
  falls_three e lower f = subst (λ (l : List ℕ). get_or l 3 0 < get_or limits 3 0) (sym f)
      (omega (arith, get_or-set_same limits 3 x 0 (omega arith), below.1, e))

-- What it tells of the rows

rest_long : (l : List ℕ) → length (rest_of l) ≡ length l - 1
rest_long [] = refl
rest_long (x ∷ l) = omega arith

rest_take : (j : ℕ) (l : List ℕ) → rest_of (take (suc j) l) ≡ take j (rest_of l)
rest_take j [] = sym (take-nil j)
rest_take j (x ∷ l) = refl

-- at most four components without component 0
rest_is : (j : ℕ) (l : List ℕ) → length l ≡ suc j → j ≤ 3 → rest_of l ≡ take j (get_or l 1 0 ∷ get_or l 2 0 ∷ get_or l 3 0 ∷ [])
rest_is j l e h = ext_get_or 0 (rest_of l) (take j three) (omega (arith, rest_long l, length-take j three))
    (λ c b. rest_at l c ∙ sym (get_or-take j three c 0 (omega (arith, rest_long l)) ∙ component c (omega (arith, rest_long l))))
  where
    three : List ℕ
    three = get_or l 1 0 ∷ get_or l 2 0 ∷ get_or l 3 0 ∷ []

    component : (c : ℕ) → c < 3 → get_or (get_or l 1 0 ∷ get_or l 2 0 ∷ get_or l 3 0 ∷ []) c 0 ≡ get_or l (suc c) 0
    component zero b = refl
    component (suc zero) b = refl
    component (suc (suc zero)) b = refl
    component (suc (suc (suc c))) b = absurd (omega arith)

inside_three : (x y z a b d : ℕ) → both (ltb a x) (both (ltb b y) (ltb d z)) ≡ inside (x ∷ y ∷ z ∷ []) (a ∷ b ∷ d ∷ [])
unfolding inside
inside_three x y z a b d = ap (both (ltb a x)) (ap (both (ltb b y)) (last (ltb d z)))
  where
    last : (t : Bool) → t ≡ both t true
    last true = refl
    last false = refl

pieces_long : (k n : ℕ) (t x : List ℕ) → n * k ≤ length t → x ∈ pieces k n t → length x ≡ k
unfolding pieces
pieces_long k zero t x fits m = absurd (mem_nil m)
pieces_long k (suc n) t x fits m = ⊎_elim
    (λ e. ap length e ∙ (simp length-take (omega (arith, suc-mul n k))))
    (λ i. pieces_long k n (drop k t) x (omega (arith, suc-mul n k, length-drop k t)) i)
    (mem_cases m)

pub row_long : (k : ℕ) (known x : List ℕ) → x ∈ known_rows k known → length x ≡ k
row_long k known x m = pieces_long k (length known / k) known x (rows_end (length known / k) k (length known) (le_refl (length known / k))) m

module _ (k : ℕ) (many : 0 < k) (few : k ≤ 4) (limits : List ℕ) (four : length limits ≡ 4) (past : OpenPast k limits) where
  pub inside_row : (x : List ℕ) → length x ≡ k → inside_at x limits ≡ inside (rest_of (take k limits)) (rest_of x)
  unfolding inside_at
  inside_row x long =
      inside_three (get_or limits 1 0) (get_or limits 2 0) (get_or limits 3 0) (get_or x 1 0) (get_or x 2 0) (get_or x 3 0)
      ∙ inside_take (k - 1) tops vs refl under
      ∙ ap₂ inside (sym (ap (λ (n : ℕ). rest_of (take n limits)) next ∙ rest_take (k - 1) limits ∙ ap (take (k - 1)) (rest_is 3 limits four (omega arith))))
      (sym (rest_is (k - 1) x (long ∙ next) (omega arith)))
    where
      tops : List ℕ
      tops = get_or limits 1 0 ∷ get_or limits 2 0 ∷ get_or limits 3 0 ∷ []

      vs : List ℕ
      vs = get_or x 1 0 ∷ get_or x 2 0 ∷ get_or x 3 0 ∷ []

      next : k ≡ suc (k - 1)
      next = omega arith

      low : (c : ℕ) → k ≤ c → c < 4 → get_or x c 0 < get_or limits c 0
      low c h b = let out : length x ≤ c = omega arith in omega (arith, past c h b, get_or-eq_default x 0 out)

      under : (c : ℕ) → k - 1 ≤ c → c < 3 → get_or vs c 0 < get_or tops c 0
      under zero l b = low 1 (omega arith) (omega arith)
      under (suc zero) l b = low 2 (omega arith) (omega arith)
      under (suc (suc zero)) l b = low 3 (omega arith) (omega arith)
      under (suc (suc (suc c))) l b = absurd (omega arith)

  module _ (known : List ℕ) where
    row_inside : (x : List ℕ) → x ∈ known_rows k known → T (inside (rest_of (take k limits)) (rest_of x)) → T (inside_at x limits)
    row_inside x m t = subst T (sym (inside_row x (row_long k known x m))) t

    pub clean_rows : NoneInside (known_rows k known) limits → Clean (known_rows k known) (take k limits)
    clean_rows none x m t = none x m (row_inside x m t)

    module _ (row : List ℕ) (p : Nearest (known_rows k known) limits row) where
      pub nearest_inside : T (inside (rest_of (take k limits)) (rest_of row))
      nearest_inside = subst T (inside_row row (row_long k known row p.known)) p.inside

      pub nearest_least : (x : List ℕ) → x ∈ known_rows k known → T (inside (rest_of (take k limits)) (rest_of x)) → get_or row 1 0 ≤ get_or x 1 0
      nearest_least x m t = p.least x m (row_inside x m t)

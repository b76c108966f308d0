-- The LEAST vector inside limits, and the least of those that known rows do not meet: laws for a search that can only ask for any vector inside limits.
-- All are over any set `Of` of vectors. Asked again below its own component, a vector becomes lowest there (`lowest_none`, `lowest_some`); settled in one
-- component after the other (`settled_next`) it is the least (`settled_end`). A region of vectors lowers the best so far (`Lowered`): one region after
-- the other (`lowered_then`), a box below the best (`lowered_less`, `lowered_kept`). What no row meets is a box without rows (`region_clean`); or a row of the
-- box splits it: a part below the row in a component and what is not (`region_part`), until one component is left (`region_rest`) or none (`region_met`).
use mathlib.Core.Path.{◌∙◌, ◌≡◌, refl, subst, sym}
use mathlib.Core.Logic.{◌⊎◌, inl, inr, ⊎_elim}
use mathlib.Core.Option.{Option, none-ne-some, some-injective, none, some}
use mathlib.Core.List.{List, [], ◌∷◌}
use Prim.Native.Nat.{◌<◌, ◌≤◌, min, suc, zero, ℕ}
use native.Mathlib.Decide.{dec_le, dec_lt, ℕ_discrete}
use native.Mathlib.Omega.{arith}
use lib.Dec.{T, eqb, eqb→eq, ltb, ltb→lt}
use lib.ListN.{get_or, length, length-set, set}
use lib.Seq.{get_or-set_other, get_or-set_same, set_out}
use Rattle.lists.specs.Lists.{both}
use Rattle.lists.proofs.Members.{◌∈◌}
use Rattle.lists.proofs.Orders.{compared, is_equal, is_greater, is_less, less_asym}
use Rattle.lists.proofs.Tests.{T-both, T-either, decide}
use Rattle.costs.specs.Costs.{none_larger, some_smaller, vector_less}
use Rattle.costs.proofs.Vectors.{none_larger_exactly, none_larger_refl, some_smaller_exactly, vector_order}
use Rattle.completions.specs.Boxes.{inside}
use Rattle.completions.specs.Rows.{head_of, rest_of}
use Rattle.completions.proofs.Boxes.{inside_at_lem, inside_cons, inside_down, inside_length, inside_set, inside_unset}

-- Vectors by their components

-- of one length, and least by the first component that differs
lex_least : (u v : List ℕ) → length u ≡ length v → ((i : ℕ) → i < length v → ((j : ℕ) → j < i → get_or u j 0 ≡ get_or v j 0) → get_or v i 0 ≤ get_or u i 0) → ¬ T (vector_less u v)
unfolding vector_less
lex_least [] [] e h t = t
lex_least [] (y ∷ v) e h t = omega (arith, e)
lex_least (x ∷ u) [] e h t = t
lex_least (x ∷ u) (y ∷ v) e h t = ⊎_elim
    (λ s. omega (arith, ltb→lt x y s, h 0 (omega arith) (λ j l. absurd (omega arith))))
    (λ s.
    let (a, b) = (T-both (eqb x y) (vector_less u v)).0 s in
    lex_least u v (omega (arith, e)) (λ i l k. h (suc i) (omega arith) (before (eqb→eq x y a) i k)) b)
    ((T-either (ltb x y) (both (eqb x y) (vector_less u v))).0 t)
  where
    before : x ≡ y → (i : ℕ) → ((j : ℕ) → j < i → get_or u j 0 ≡ get_or v j 0) → (j : ℕ) → j < suc i → get_or (x ∷ u) j 0 ≡ get_or (y ∷ v) j 0
    before d i k zero l = d
    before d i k (suc j) l = k j (omega arith)

-- not less, and not less again
not_less : (a b c : List ℕ) → ¬ T (vector_less a b) → ¬ T (vector_less b c) → ¬ T (vector_less a c)
not_less a b c m n l = elim (compared vector_order a b tt tt) [
  | is_less h ↦ m h
  | is_equal e ↦ n (subst (λ (x : List ℕ). T (vector_less x c)) e l)
  | is_greater h ↦ n (vector_order.trans b a c h l)
]

head_less : (u v : List ℕ) → T (vector_less u v) → head_of u ≤ head_of v
unfolding vector_less
head_less [] v t = omega arith
head_less (x ∷ u) [] t = absurd t
head_less (x ∷ u) (y ∷ v) t = ⊎_elim
    (λ s. omega (arith, ltb→lt x y s))
    (λ s. omega (arith, eqb→eq x y ((T-both (eqb x y) (vector_less u v)).0 s).0))
    ((T-either (ltb x y) (both (eqb x y) (vector_less u v))).0 t)

-- of one length: a component is smaller, or none of the other is larger
smaller_at : (r u : List ℕ) → length r ≡ length u → ¬ T (none_larger r u) → (c : ℕ) × (c < length u) × (get_or u c 0 < get_or r c 0)
smaller_at r u e n = ⊎_elim
    (λ t. (some_smaller_exactly u r).0 t)
    (λ (f : ¬ T (some_smaller u r)). absurd (n ((none_larger_exactly r u).1 (
      e,
      λ j h. elim (dec_le (get_or r j 0) (get_or u j 0)) [
        | yes l ↦ l
        | no l ↦ absurd (f ((some_smaller_exactly u r).1 (j, omega arith, omega arith)))
      ],
    ))))
    (decide (some_smaller u r))

-- a limit that was set lower
inside_back : (limits v : List ℕ) (c x : ℕ) → x ≤ get_or limits c 0 → T (inside (set limits c x) v) → T (inside limits v)
unfolding inside
inside_back [] v c x h t = t
inside_back (z ∷ limits) [] zero x h t = absurd t
inside_back (z ∷ limits) [] (suc c) x h t = absurd t
inside_back (z ∷ limits) (y ∷ v) zero x h t = let (a, b) = (inside_cons x y limits v).0 t in (inside_cons z y limits v).1 (omega arith, b)
inside_back (z ∷ limits) (y ∷ v) (suc c) x h t =
    let (a, b) = (inside_cons z y (set limits c x) v).0 t in (inside_cons z y limits v).1 (a, inside_back limits v c x h b)

rest_inside : (limits v : List ℕ) → T (inside limits v) → T (inside (rest_of limits) (rest_of v))
unfolding inside
rest_inside [] [] t = t
rest_inside [] (y ∷ v) t = absurd t
rest_inside (x ∷ limits) [] t = absurd t
rest_inside (x ∷ limits) (y ∷ v) t = ((inside_cons x y limits v).0 t).1

pub rest_at : (v : List ℕ) (c : ℕ) → get_or (rest_of v) c 0 ≡ get_or v (suc c) 0
rest_at [] c = refl
rest_at (x ∷ v) c = refl

-- a vector whose rest is inside is below the limits from component 1 on
pub rest_below : (limits v : List ℕ) (c : ℕ) → T (inside (rest_of limits) (rest_of v)) → length v ≡ length limits → 1 ≤ c → c < length limits → get_or v c 0 ≤ get_or limits c 0
rest_below limits v zero t e a l = absurd (omega arith)
rest_below [] v (suc c) t e a l = absurd (omega arith)
rest_below (x ∷ limits) [] (suc c) t e a l = absurd (omega (arith, e))
rest_below (x ∷ limits) (y ∷ v) (suc c) t e a l = omega (arith, inside_at_lem limits v c t (omega (arith, e)))

-- smaller in a component from 1 on
smaller_rest : (r u : List ℕ) → length r ≡ length u → ¬ T (none_larger (rest_of r) (rest_of u))
    → (c : ℕ) × (1 ≤ c) × (c < length u) × (get_or u c 0 < get_or r c 0)
smaller_rest [] [] e n = absurd (n (none_larger_refl []))
smaller_rest [] (y ∷ u) e n = absurd (omega (arith, e))
smaller_rest (x ∷ r) [] e n = absurd (omega (arith, e))
smaller_rest (x ∷ r) (y ∷ u) e n = let (c, l, z) = smaller_at r u (omega (arith, e)) n in (suc c, omega arith, omega arith, z)

-- the vectors inside limits
abbrev pub Box : List ℕ → List ℕ → Type 0
Box limits u = T (inside limits u)

module _ (Of : List ℕ → Type 0) where
  -- what it means to ask for a vector inside limits
  abbrev pub Asked : List ℕ → Option (List ℕ) → Type 0
  Asked limits none = (v : List ℕ) → Of v → ¬ T (inside limits v)
  Asked limits (some v) = Of v × T (inside limits v)

  -- LOWEST: inside the limits, and there no vector is less in component c
  abbrev pub Lowest : List ℕ → ℕ → List ℕ → Type 0
  Lowest limits c v = Of v × T (inside limits v) × ((u : List ℕ) → Of u → T (inside limits u) → get_or v c 0 ≤ get_or u c 0)

  pub lowest_none : (limits v : List ℕ) (c : ℕ) → Of v → T (inside limits v) → Asked (set limits c (get_or v c 0)) none → Lowest limits c v
  lowest_none limits v c h i asked = (
    h,
    i,
    λ u k j. elim (dec_le (get_or v c 0) (get_or u c 0)) [
      | yes z ↦ z
      | no z ↦ absurd (asked u k (inside_set limits u c (get_or v c 0) j (omega arith)))
    ],
  )

  pub lowest_some : (limits v u : List ℕ) (c : ℕ) → T (inside limits v) → c < length limits → Asked (set limits c (get_or v c 0)) (some u)
      → Of u × T (inside limits u) × (get_or u c 0 < get_or v c 0)
  lowest_some limits v u c i l (k, j) = let (m, z) = inside_unset limits v u c (get_or v c 0) i (omega arith) l j in (k, m, z)

  -- SETTLED in the components before c, which `lower` allows as they are in v alone
  pub record Settled (limits : List ℕ) (c : ℕ) (lower v : List ℕ) : Type 0 where
    pub of : Of v
    pub low : T (inside lower v)
    pub size : length lower ≡ length limits
    pub within : (u : List ℕ) → T (inside lower u) → T (inside limits u)
    pub alike : (u : List ℕ) → Of u → T (inside lower u) → (j : ℕ) → j < c → get_or u j 0 ≡ get_or v j 0
    pub kept : (u : List ℕ) → Of u → T (inside limits u) → ((j : ℕ) → j < c → get_or u j 0 ≡ get_or v j 0) → T (inside lower u)
    pub least : (u : List ℕ) → Of u → T (inside limits u) → (i : ℕ) → i < c → ((j : ℕ) → j < i → get_or u j 0 ≡ get_or v j 0) → get_or v i 0 ≤ get_or u i 0

  pub settled_start : (limits v : List ℕ) → Of v → T (inside limits v) → Settled limits 0 limits v
  settled_start limits v h i = record {
    of = h;
    low = i;
    size = refl;
    within = λ u t. t;
    alike = λ u k t j l. absurd (omega arith);
    kept = λ u k t same. t;
    least = λ u k t j l same. absurd (omega arith);
  }

  pub settled_next : (limits lower v u : List ℕ) (c : ℕ) → Settled limits c lower v → c < length limits → Lowest lower c u
      → Settled limits (suc c) (set lower c (suc (get_or u c 0))) u
  settled_next limits lower v u c s l (of, low, lowest) = record {
    of = of;
    low = inside_set lower u c (suc (get_or u c 0)) low (omega arith);
    size = length-set lower c (suc (get_or u c 0)) ∙ s.size;
    within = λ x t. s.within x (back x t).0;
    alike = λ x k t j h. elim (ℕ_discrete j c) [
      | yes e ↦ subst (λ (i : ℕ). get_or x i 0 ≡ get_or u i 0) (sym e) (here_alike x k t)
      | no n ↦ s.alike x k (back x t).0 j (omega arith) ∙ sym (s.alike u of low j (omega arith))
    ];
    kept = λ x k t same.
        inside_set lower x c (suc (get_or u c 0)) (s.kept x k t (λ j h. same j (omega arith) ∙ s.alike u of low j h)) (omega (arith, same c (omega arith)));
    least = λ x k t i h same. elim (ℕ_discrete i c) [
      | yes e ↦ subst (λ (j : ℕ). get_or u j 0 ≤ get_or x j 0) (sym e)
          (lowest x k (s.kept x k t (λ j m. same j (omega arith) ∙ s.alike u of low j m)))
      | no n ↦ omega (
        arith,
        s.alike u of low i (omega arith),
        s.least x k t i (omega arith) (λ j m. same j m ∙ s.alike u of low j (omega arith)),
      )
    ];
  }
    where
      back : (x : List ℕ) → T (inside (set lower c (suc (get_or u c 0))) x) → T (inside lower x) × (get_or x c 0 < suc (get_or u c 0))
      back x t = inside_unset lower u x c (suc (get_or u c 0)) low (omega arith) (omega (arith, s.size)) t

      here_alike : (x : List ℕ) → Of x → T (inside (set lower c (suc (get_or u c 0))) x) → get_or x c 0 ≡ get_or u c 0
      here_alike x k t = omega (arith, (back x t).1, lowest x k (back x t).0)

  -- LEAST: no vector inside the limits is less
  abbrev pub LeastIn : List ℕ → Option (List ℕ) → Type 0
  LeastIn limits none = (v : List ℕ) → Of v → ¬ T (inside limits v)
  LeastIn limits (some v) = Of v × T (inside limits v) × ((u : List ℕ) → Of u → T (inside limits u) → ¬ T (vector_less u v))

  pub settled_end : (limits lower v : List ℕ) → Settled limits (length limits) lower v → LeastIn limits (some v)
  settled_end limits lower v s =
      let at = s.within v s.low in (
        s.of,
        at,
        λ u k t. lex_least u v (sym (inside_length limits u t) ∙ inside_length limits v at)
            (λ i l same. s.least u k t i (omega (arith, inside_length limits v at)) same),
      )

  -- LOWERED: the best vector so far is s, and it is r once the region P has been searched; what is found then is of the region R
  pub record Lowered (R P : List ℕ → Type 0) (s r : Option (List ℕ)) : Type 0 where
    pub from : (r ≡ s) ⊎ ((v : List ℕ) × (r ≡ some v) × Of v × R v)
    pub below : (v : List ℕ) → s ≡ some v → (u : List ℕ) × (r ≡ some u) × ¬ T (vector_less v u)
    pub least : (u : List ℕ) → Of u → P u → (v : List ℕ) × (r ≡ some v) × ¬ T (vector_less u v)

  -- a region without vectors
  pub lowered_same : (R P : List ℕ → Type 0) (s : Option (List ℕ)) → ((u : List ℕ) → Of u → ¬ P u) → Lowered R P s s
  lowered_same R P s empty = record { from = inl refl; below = λ v e. (v, e, vector_order.irrefl v); least = λ u k p. absurd (empty u k p) }

  -- P may shrink, and R grow
  pub lowered_part : (R P Q : List ℕ → Type 0) (s r : Option (List ℕ)) → ((u : List ℕ) → Of u → Q u → P u) → Lowered R P s r → Lowered R Q s r
  lowered_part R P Q s r back x = record { from = x.from; below = x.below; least = λ u k q. x.least u k (back u k q) }

  pub lowered_wider : (R S P : List ℕ → Type 0) (s r : Option (List ℕ)) → ((u : List ℕ) → Of u → R u → S u) → Lowered R P s r → Lowered S P s r
  lowered_wider R S P s r into x = record {
    from = ⊎_elim (λ e. inl e) (λ (v, e, k, p). inr (v, e, k, into v k p)) x.from;
    below = x.below;
    least = x.least;
  }

  -- one region after the other: together they have the region A
  pub lowered_then : (R P Q A : List ℕ → Type 0) (s r t : Option (List ℕ)) → ((u : List ℕ) → Of u → A u → P u ⊎ Q u) → Lowered R P s r → Lowered R Q r t
      → Lowered R A s t
  lowered_then R P Q A s r t cover x y = record {
    from = ⊎_elim
        (λ (e : t ≡ r). ⊎_elim (λ (d : r ≡ s). inl (e ∙ d)) (λ (v, d, k, p). inr (v, e ∙ d, k, p)) x.from)
        (λ (v, d, k, p). inr (v, d, k, p))
        y.from;
    below = λ v e. further v (x.below v e);
    least = λ u k h. ⊎_elim (λ p. further u (x.least u k p)) (λ p. y.least u k p) (cover u k h);
  }
    where
      further : (u : List ℕ) → (v : List ℕ) × (r ≡ some v) × ¬ T (vector_less u v) → (v : List ℕ) × (t ≡ some v) × ¬ T (vector_less u v)
      further u (v, e, n) = let (z, d, m) = y.below v e in (z, d, not_less u v z n m)

  -- a box
  module _ (limits : List ℕ) where
    -- with no vector before
    pub lowered_first : (o : Option (List ℕ)) → LeastIn limits o → Lowered (Box limits) (Box limits) none o
    lowered_first none h = lowered_same (Box limits) (Box limits) none h
    lowered_first (some v) (k, i, least) = record {
      from = inr (v, refl, k, i);
      below = λ u e. absurd (none-ne-some u e);
      least = λ u a t. (v, refl, least u a t);
    }

    -- with b before: in component 0 no more than b has is asked for
    module _ (b : List ℕ) (many : 0 < length limits) where
      abbrev pub cut : List ℕ
      cut = set limits 0 (min (head_of limits) (suc (head_of b)))

      -- what is less than b is in the box so cut
      cut_in : (u : List ℕ) → T (inside limits u) → T (vector_less u b) → T (inside cut u)
      cut_in u t l = inside_set limits u 0 (min (head_of limits) (suc (head_of b))) t
          (omega (arith, head_less u b l, inside_at_lem limits u 0 t (omega (arith, inside_length limits u t))))

      -- b stays if there is none
      pub lowered_none : LeastIn cut none → Lowered (Box limits) (Box limits) (some b) (some b)
      lowered_none h = record {
        from = inl refl;
        below = λ v e. (v, e, vector_order.irrefl v);
        least = λ u k t. (b, refl, λ l. h u k (cut_in u t l));
      }

      -- the least in the box is less than b, or b stays
      pub lowered_less : (v : List ℕ) → LeastIn cut (some v) → T (vector_less v b) → Lowered (Box limits) (Box limits) (some b) (some v)
      lowered_less v (k, i, least) z = record {
        from = inr (v, refl, k, inside_back limits v 0 (min (head_of limits) (suc (head_of b))) (omega arith) i);
        below = λ x e. (v, refl, subst (λ (y : List ℕ). ¬ T (vector_less y v)) (some-injective b x e) (less_asym vector_order v b z));
        least = λ u a t. (v, refl, λ l. least u a (cut_in u t (vector_order.trans u v b l z)) l);
      }

      pub lowered_kept : (v : List ℕ) → LeastIn cut (some v) → ¬ T (vector_less v b) → Lowered (Box limits) (Box limits) (some b) (some b)
      lowered_kept v (k, i, least) n = record {
        from = inl refl;
        below = λ x e. (x, e, vector_order.irrefl x);
        least = λ u a t. (b, refl, λ l. not_less u v b (least u a (cut_in u t l)) n l);
      }

-- What known rows do not meet

-- no row meets u in the components from 1 on
abbrev pub Unmet : List (List ℕ) → List ℕ → Type 0
Unmet rows u = (r : List ℕ) → r ∈ rows → ¬ T (none_larger (rest_of r) (rest_of u))

-- OPEN: inside the limits, and no row meets it
abbrev pub Open : List (List ℕ) → List ℕ → List ℕ → Type 0
Open rows limits u = T (inside limits u) × Unmet rows u

-- REGION: open, and nowhere below the lows
abbrev pub Region : List (List ℕ) → List ℕ → List ℕ → List ℕ → Type 0
Region rows lows limits u = Open rows limits u × ((c : ℕ) → get_or lows c 0 ≤ get_or u c 0)

-- no row of a list is inside in the components from 1 on
abbrev pub Clean : List (List ℕ) → List ℕ → Type 0
Clean rows limits = (r : List ℕ) → r ∈ rows → ¬ T (inside (rest_of limits) (rest_of r))

-- lows that were set higher, but no higher than u
lows_set : (lows u : List ℕ) (c x : ℕ) → ((i : ℕ) → get_or lows i 0 ≤ get_or u i 0) → x ≤ get_or u c 0 → (i : ℕ) → get_or (set lows c x) i 0 ≤ get_or u i 0
lows_set lows u c x h l i = elim (ℕ_discrete i c) [
  | no n ↦ omega (arith, get_or-set_other lows c i x 0 n, h i)
  | yes e ↦ elim (dec_lt c (length lows)) [
    | yes k ↦ subst (λ (j : ℕ). get_or (set lows c x) j 0 ≤ get_or u j 0) (sym e) (omega (arith, get_or-set_same lows c x 0 k))
    | no k ↦ rw (set_out lows c x (omega arith)) (h i)
  ]
]

module _ (rows : List (List ℕ)) (limits : List ℕ) where
  -- CLEAN: in a box without rows nothing is met
  open_clean : Clean rows limits → (u : List ℕ) → T (inside limits u) → Unmet rows u
  open_clean clean u t r m s = clean r m (inside_down (rest_of limits) (rest_of r) (rest_of u) s (rest_inside limits u t))

  -- what row r does not meet is smaller than r in a component from 1 on
  open_split : (r : List ℕ) → r ∈ rows → length r ≡ length limits → (u : List ℕ) → Open rows limits u
      → (c : ℕ) × (1 ≤ c) × (c < length limits) × (get_or u c 0 < get_or r c 0)
  open_split r m e u (t, n) =
      let (c, a, l, z) = smaller_rest r u (e ∙ inside_length limits u t) (n r m) in
      (c, a, omega (arith, inside_length limits u t), z)

-- the part below row r's component 1 has no rows, if r has the least of the rows of the box
pub clean_least : (rows : List (List ℕ)) (limits r : List ℕ) → 1 < length limits → T (inside (rest_of limits) (rest_of r))
    → ((x : List ℕ) → x ∈ rows → T (inside (rest_of limits) (rest_of x)) → get_or r 1 0 ≤ get_or x 1 0) → Clean rows (set limits 1 (get_or r 1 0))
clean_least rows [] r many i least x m t = omega arith
clean_least rows (a ∷ limits) r many i least x m t =
    let (j, z) = inside_unset limits (rest_of r) (rest_of x) 0 (get_or r 1 0) i (omega (arith, rest_at r 0)) (omega arith) t in
    omega (arith, least x m j, rest_at x 0)

module _ (Of : List ℕ → Type 0) (rows : List (List ℕ)) (lows limits : List ℕ) where
  -- a box without rows is searched as it is
  pub region_clean : (s t : Option (List ℕ)) → Clean rows limits → Lowered Of (Box limits) (Box limits) s t
      → Lowered Of (Open rows limits) (Region rows lows limits) s t
  region_clean s t clean h = lowered_wider Of (Box limits) (Open rows limits) (Region rows lows limits) s t (λ u _ i. (i, open_clean rows limits clean u i))
      (lowered_part Of (Box limits) (Box limits) (Region rows lows limits) s t (λ u _ o. o.0.0) h)

  -- lows of 0 leave nothing out
  pub region_whole : (s t : Option (List ℕ)) → ((c : ℕ) → get_or lows c 0 ≡ 0) → Lowered Of (Open rows limits) (Region rows lows limits) s t
      → Lowered Of (Open rows limits) (Open rows limits) s t
  region_whole s t low h =
      lowered_part Of (Open rows limits) (Region rows lows limits) (Open rows limits) s t (λ u _ o. (o, λ c. omega (arith, low c))) h

  -- PART: below x in component c, and then what is not
  pub region_part : (c x : ℕ) (s p t : Option (List ℕ)) → x ≤ get_or limits c 0 → Lowered Of (Open rows (set limits c x)) (Region rows lows (set limits c x)) s p
      → Lowered Of (Open rows limits) (Region rows (set lows c x) limits) p t → Lowered Of (Open rows limits) (Region rows lows limits) s t
  region_part c x s p t h first next =
      lowered_then Of (Open rows limits) (Region rows lows (set limits c x)) (Region rows (set lows c x) limits) (Region rows lows limits) s p t split
      (lowered_wider Of (Open rows (set limits c x)) (Open rows limits) (Region rows lows (set limits c x)) s p within first) next
    where
      within : (u : List ℕ) → Of u → Open rows (set limits c x) u → Open rows limits u
      within u k (i, n) = (inside_back limits u c x h i, n)

      split : (u : List ℕ) → Of u → Region rows lows limits u → Region rows lows (set limits c x) u ⊎ Region rows (set lows c x) limits u
      split u k ((i, n), l) = elim (dec_le x (get_or u c 0)) [
        | yes z ↦ inr ((i, n), lows_set lows u c x l z)
        | no z ↦ inl ((inside_set limits u c x i (omega arith), n), l)
      ]

  -- a row of the box
  module _ (r : List ℕ) (m : r ∈ rows) (e : length r ≡ length limits) where
    -- MET: nothing is left, if the lows are no lower than it from component 1 on
    pub region_met : ((c : ℕ) → 1 ≤ c → c < length limits → get_or r c 0 ≤ get_or lows c 0) → (s : Option (List ℕ))
        → Lowered Of (Open rows limits) (Region rows lows limits) s s
    region_met h s = lowered_same Of (Open rows limits) (Region rows lows limits) s
        (λ u k (o, l). let (c, a, b, z) = open_split rows limits r m e u o in omega (arith, h c a b, l c))

    -- REST: if they are no lower but in component d, what is left is below it there
    pub region_rest : (d : ℕ) → ((c : ℕ) → 1 ≤ c → c < length limits → ¬ (c ≡ d) → get_or r c 0 ≤ get_or lows c 0) → get_or r d 0 ≤ get_or limits d 0
        → (s t : Option (List ℕ)) → Lowered Of (Open rows (set limits d (get_or r d 0))) (Region rows lows (set limits d (get_or r d 0))) s t
        → Lowered Of (Open rows limits) (Region rows lows limits) s t
    region_rest d h low s t x =
        lowered_wider Of (Open rows (set limits d (get_or r d 0))) (Open rows limits) (Region rows lows limits) s t
        (λ u _ (i, n). (inside_back limits u d (get_or r d 0) low i, n))
        (lowered_part Of (Open rows (set limits d (get_or r d 0))) (Region rows lows (set limits d (get_or r d 0))) (Region rows lows limits) s t left x)
      where
        left : (u : List ℕ) → Of u → Region rows lows limits u → Region rows lows (set limits d (get_or r d 0)) u
        left u k ((i, n), l) =
            let (c, a, b, z) = open_split rows limits r m e u (i, n) in
            elim (ℕ_discrete c d) [
              | yes q ↦ ((inside_set limits u d (get_or r d 0) i (subst (λ (j : ℕ). get_or u j 0 < get_or r j 0) q z), n), l)
              | no q ↦ absurd (omega (arith, h c a b q, l c))
            ]

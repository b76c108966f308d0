-- A turn of the search for the least vector that no known vector meets (`Searching`): the box has no row (`turn_clean`); or the row with the least component 1
-- splits it. The part below the row in component 1 has no rows (`turn_first`), the part below it in component 3 is searched by itself (`turn_third`), and what is
-- left is below it in component 2 (`turn_rest`). With one component nothing is left at once (`turn_one`), with two nothing but the first part (`turn_two`).
use mathlib.Core.Path.{◌∙◌, ◌≡◌, ap, refl, subst, sym}
use mathlib.Core.Option.{Option}
use mathlib.Core.List.{List}
use Prim.Native.Nat.{◌<◌, ◌≤◌, ℕ}
use native.Mathlib.Decide.{dec_lt, ℕ_discrete}
use native.Mathlib.Omega.{arith}
use lib.ListN.{get_or, get_or-eq_default, length, length-set, set, take}
use lib.Seq.{get_or-set_other, get_or-set_same, length-take-le, take-set-lt}
use lib.Dec.{T}
use Rattle.completions.specs.Boxes.{inside}
use Rattle.completions.specs.Rows.{rest_of}
use Rattle.completions.proofs.Least.{Box, Clean, Lowered, Open, Region, clean_least, region_clean, region_met, region_part, region_rest, rest_below}
use Rattle.completions.proofs.NextRow.{Of}
use Rattle.tally.specs.Tally.{table_of}
use Rattle.find.specs.Find.{graph_in}
use Rattle.least.specs.Least.{Ground, Nearest, NoneInside, OnGround, OpenPast, known_rows, least_of}
use Rattle.std.specs.Prelude.{Option as Maybe}
use Rattle.least.proofs.Known.{clean_rows, nearest_inside, nearest_least, row_long}
use Rattle.least.proofs.Vectors.{past_set}

-- what is left to search, in the box of the limits and nowhere below the lows
abbrev pub Left : (List ℕ → Type 0) → List ℕ → ℕ → List ℕ → List ℕ → Option (List ℕ) → Option (List ℕ) → Type 0
Left Of known k lows limits s t = Lowered Of (Open (known_rows k known) (take k limits)) (Region (known_rows k known) lows (take k limits)) s t

module _ (Of : List ℕ → Type 0) (known : List ℕ) (k : ℕ) (many : 0 < k) (few : k ≤ 4) (lower : List ℕ) (four : length lower ≡ 4) (past : OpenPast k lower)
    (lows : List ℕ) (s : Option (List ℕ)) where
  abbrev rows : List (List ℕ)
  rows = known_rows k known

  pub turn_clean : (t : Option (List ℕ)) → NoneInside rows lower → Lowered Of (Box (take k lower)) (Box (take k lower)) s t → Left Of known k lows lower s t
  turn_clean t none h = region_clean Of rows lows (take k lower) s t (clean_rows k many few lower four past known none) h

  module _ (row : List ℕ) (p : Nearest rows lower row) where
    tops_long : length (take k lower) ≡ k
    tops_long = length-take-le k lower (omega arith)

    row_size : length row ≡ length (take k lower)
    row_size = row_long k known row p.known ∙ sym tops_long

    low_inside : T (inside (rest_of (take k lower)) (rest_of row))
    low_inside = nearest_inside k many few lower four past known row p

    row_low : (c : ℕ) → 1 ≤ c → c < k → get_or row c 0 ≤ get_or (take k lower) c 0
    row_low c a b = omega (arith, rest_below (take k lower) row c low_inside row_size a (omega (arith, tops_long)))

    -- the lows of component c are no lower than the row
    up : (c d : ℕ) → c ≡ d → get_or row d 0 ≤ get_or lows d 0 → get_or row c 0 ≤ get_or lows c 0
    up c d e h = subst (λ (i : ℕ). get_or row i 0 ≤ get_or lows i 0) (sym e) h

    -- a limit that was set at the row
    set_top : (c x : ℕ) → c < k → x ≡ get_or row c 0 → take k (set lower c x) ≡ set (take k lower) c (get_or row c 0)
    set_top c x h e = take-set-lt k lower c x h ∙ ap (set (take k lower) c) e

    pub turn_one : k < 2 → Left Of known k lows lower s s
    turn_one h = region_met Of rows lows (take k lower) row p.known row_size (λ c a b. absurd (omega (arith, tops_long))) s

    pub turn_two : k < 3 → get_or row 1 0 ≤ get_or lows 1 0 → Left Of known k lows lower s s
    turn_two h l = region_met Of rows lows (take k lower) row p.known row_size (λ c a b. up c 1 (omega (arith, tops_long)) l) s

    pub turn_first : 1 < k → (x : ℕ) → x ≡ get_or row 1 0 → (q t : Option (List ℕ)) → Lowered Of (Box (take k (set lower 1 x))) (Box (take k (set lower 1 x))) s q
        → Left Of known k (set lows 1 x) lower q t → Left Of known k lows lower s t
    turn_first h x e q t first next =
        region_part Of rows lows (take k lower) 1 x s q t (omega (arith, row_low 1 (omega arith) h))
        (region_clean Of rows lows (set (take k lower) 1 x) s q clean
        (subst (λ (y : List ℕ). Lowered Of (Box y) (Box y) s q) (take-set-lt k lower 1 x h) first)) next
      where
        clean : Clean rows (set (take k lower) 1 x)
        clean = subst (λ (y : ℕ). Clean rows (set (take k lower) 1 y)) (sym e)
            (clean_least rows (take k lower) row (omega (arith, tops_long)) low_inside (nearest_least k many few lower four past known row p))

    pub turn_third : 3 < k → (x : ℕ) → x ≡ get_or row 3 0 → (q t : Option (List ℕ)) → Left Of known k lows (set lower 3 x) s q → Left Of known k (set lows 3 x) lower q t
        → Left Of known k lows lower s t
    turn_third h x e q t first next =
        region_part Of rows lows (take k lower) 3 x s q t (omega (arith, row_low 3 (omega arith) h))
        (subst (λ (y : List ℕ). Lowered Of (Open rows y) (Region rows lows y) s q) (take-set-lt k lower 3 x h) first) next

    pub turn_rest : 2 < k → get_or row 1 0 ≤ get_or lows 1 0 → get_or row 3 0 ≤ get_or lows 3 0 → (x : ℕ) → x ≡ get_or row 2 0 → (t : Option (List ℕ)) → Left Of known k lows (set lower 2 x) s t
        → Left Of known k lows lower s t
    turn_rest h a b x e t next =
        region_rest Of rows lows (take k lower) row p.known row_size 2 others (row_low 2 (omega arith) h) s t
        (subst (λ (y : List ℕ). Lowered Of (Open rows y) (Region rows lows y) s t) (set_top 2 x h e) next)
      where
        others : (c : ℕ) → 1 ≤ c → c < length (take k lower) → ¬ (c ≡ 2) → get_or row c 0 ≤ get_or lows c 0
        others c l m d = elim (ℕ_discrete c 1) [ yes i ↦ up c 1 i a | no i ↦ up c 3 (omega (arith, tops_long)) b ]

-- a component above 0 is one of the k
some_component : (k : ℕ) (row : List ℕ) (c : ℕ) → length row ≡ k → 0 < get_or row c 0 → c < k
some_component k row c long h = elim (dec_lt c k) [
  | yes l ↦ l
  | no l ↦ let out : length row ≤ c = omega arith in absurd (omega (arith, get_or-eq_default row 0 out))
]

-- On a ground: the search goes on
module _ (firsts seconds : List ℕ) (limit : ℕ) (kinds : List ℕ) (k : ℕ) (costs leads musts free known limits from : List ℕ) (start : Maybe (List ℕ)) where
  abbrev On : List ℕ → ((List ℕ → Type 0) → Type 0) → Type 0
  On tops Holds = OnGround firsts seconds limit kinds k costs leads musts free tops Holds

  abbrev Vs : Ground firsts seconds limit k musts free → List ℕ → Type 0
  Vs ground = Of (graph_in firsts seconds limit) ground.tables.formed (table_of kinds k costs leads) musts

  abbrev Whole : Maybe (List ℕ) → Type 0
  Whole r = On limits (λ Of. Left Of known k from limits (least_of k start) (least_of k r))

  -- SEARCHING: what the rest of the search answers, the whole does
  pub record Searching (lower lows : List ℕ) (best : Maybe (List ℕ)) : Type 0 where
    pub size : length lower ≡ 4
    pub lows_size : length lows ≡ 4
    pub third : get_or lower 3 0 ≡ get_or limits 3 0
    pub left : On limits (λ Of. OpenPast k lower
        × ((t : Option (List ℕ)) → Left Of known k lows lower (least_of k best) t → Left Of known k from limits (least_of k start) t))

  -- the lows are no lower than the row in component 1
  pub record First (lower lows : List ℕ) (best : Maybe (List ℕ)) (row : List ℕ) : Type 0 where
    pub goes_on : Searching lower lows best
    pub above_one : get_or row 1 0 ≤ get_or lows 1 0

  pub searching_start : length limits ≡ 4 → length from ≡ 4 → Searching limits from start
  searching_start a b = record { size = a; lows_size = b; third = refl; left = λ ground past. (past, λ t h. h) }

  module _ (lower lows : List ℕ) (best : Maybe (List ℕ)) (s : Searching lower lows best) where
    pub search_clean : NoneInside (known_rows k known) lower → (r : Maybe (List ℕ)) → On lower (λ Of. Lowered Of (Box (take k lower)) (Box (take k lower)) (least_of k best) (least_of k r)) → Whole r
    search_clean e r h ground past =
        let (low, go) = s.left ground past in
        go (least_of k r) (turn_clean (Vs ground) known k ground.tables.some_criteria ground.tables.few_criteria lower s.size low lows (least_of k best)
        (least_of k r) e (h ground low))

    module _ (row : List ℕ) (p : Nearest (known_rows k known) lower row) where
      pub search_one : k < 2 → Whole best
      search_one h ground past =
          let (low, go) = s.left ground past in
          go (least_of k best) (turn_one (Vs ground) known k ground.tables.some_criteria ground.tables.few_criteria lower s.size low lows
          (least_of k best) row p h)

      search_first : 1 < k → (x : ℕ) → x ≡ get_or row 1 0 → (lower' : List ℕ) → lower' ≡ set lower 1 x → (r : Maybe (List ℕ))
          → On lower' (λ Of. Lowered Of (Box (take k lower')) (Box (take k lower')) (least_of k best) (least_of k r)) → Searching lower (set lows 1 x) r
      search_first h x e lower' d r first = record {
        size = s.size;
        lows_size = length-set lows 1 x ∙ s.lows_size;
        third = s.third;
        left = λ ground past.
            let (low, go) = s.left ground past in
            let part = first ground (subst (λ (y : List ℕ). OpenPast k y) (sym d) (past_set k lower 1 x h low)) in
            let there = subst (λ (y : List ℕ). Lowered (Vs ground) (Box (take k y)) (Box (take k y)) (least_of k best) (least_of k r)) d part in (
              low,
              λ t rest. go t (turn_first (Vs ground) known k ground.tables.some_criteria ground.tables.few_criteria lower s.size low lows
                  (least_of k best) row p h x e (least_of k r) t there rest),
            );
      }

      -- FIRST: the part below the row in component 1 has been searched, now or before
      pub first_now : 1 < k → (x : ℕ) → x ≡ get_or row 1 0 → (lower' : List ℕ) → lower' ≡ set lower 1 x → (r : Maybe (List ℕ))
          → On lower' (λ Of. Lowered Of (Box (take k lower')) (Box (take k lower')) (least_of k best) (least_of k r))
          → (lows' : List ℕ) → lows' ≡ set lows 1 x → (best' : Maybe (List ℕ)) → best' ≡ r → First lower lows' best' row
      first_now h x e lower' d r first lows' f best' g = record {
        goes_on = subst (λ (y : Maybe (List ℕ)). Searching lower lows' y) (sym g) (subst (λ (y : List ℕ). Searching lower y r) (sym f) (search_first h x e lower' d r first));
        above_one = subst (λ (y : List ℕ). get_or row 1 0 ≤ get_or y 1 0) (sym f) (omega (arith, e, get_or-set_same lows 1 x 0 (omega (arith, s.lows_size))));
      }

      pub first_before : (x : ℕ) → x ≡ get_or row 1 0 → x ≤ get_or lows 1 0 → (lows' : List ℕ) → lows' ≡ lows → (best' : Maybe (List ℕ)) → best' ≡ best
          → First lower lows' best' row
      first_before x e h lows' f best' g = record {
        goes_on = subst (λ (y : Maybe (List ℕ)). Searching lower lows' y) (sym g) (subst (λ (y : List ℕ). Searching lower y best) (sym f) s);
        above_one = subst (λ (y : List ℕ). get_or row 1 0 ≤ get_or y 1 0) (sym f) (omega (arith, e));
      }

  module _ (lower lows : List ℕ) (best : Maybe (List ℕ)) (row : List ℕ) (first : First lower lows best row) (p : Nearest (known_rows k known) lower row) where
    s : Searching lower lows best
    s = first.goes_on

    pub search_two : k < 3 → Whole best
    search_two h ground past =
        let (low, go) = s.left ground past in
        go (least_of k best) (turn_two (Vs ground) known k ground.tables.some_criteria ground.tables.few_criteria lower s.size low lows
        (least_of k best) row p h first.above_one)

    search_third : (x : ℕ) → x ≡ get_or row 3 0 → 0 < x → (lower' : List ℕ) → lower' ≡ set lower 3 x → (r : Maybe (List ℕ))
        → On lower' (λ Of. Left Of known k lows lower' (least_of k best) (least_of k r)) → First lower (set lows 3 x) r row
    search_third x e above lower' d r third = record {
      goes_on = record {
        size = s.size;
        lows_size = length-set lows 3 x ∙ s.lows_size;
        third = s.third;
        left = λ ground past.
            let (low, go) = s.left ground past in
            let part = third ground (subst (λ (y : List ℕ). OpenPast k y) (sym d) (past_set k lower 3 x h low)) in
            let there = subst (λ (y : List ℕ). Left (Vs ground) known k lows y (least_of k best) (least_of k r)) d part in (
              low,
              λ t rest. go t (turn_third (Vs ground) known k ground.tables.some_criteria ground.tables.few_criteria lower s.size low lows
                  (least_of k best) row p h x e (least_of k r) t there rest),
            );
      };
      above_one = omega (arith, first.above_one, get_or-set_other lows 3 1 x 0 (λ i. omega (arith, i)));
    }
      where
        h : 3 < k
        h = some_component k row 3 (row_long k known row p.known) (omega (arith, e))

    pub search_rest : 2 < k → get_or row 3 0 ≤ get_or lows 3 0 → (x : ℕ) → x ≡ get_or row 2 0 → Searching (set lower 2 x) lows best
    search_rest h b x e = record {
      size = length-set lower 2 x ∙ s.size;
      lows_size = s.lows_size;
      third = get_or-set_other lower 2 3 x 0 (λ d. omega (arith, d)) ∙ s.third;
      left = λ ground past.
          let (low, go) = s.left ground past in (
            past_set k lower 2 x h low,
            λ t rest. go t (turn_rest (Vs ground) known k ground.tables.some_criteria ground.tables.few_criteria lower s.size low
                lows (least_of k best) row p h first.above_one b x e t rest),
          );
    }

  -- THIRD: the part below the row in component 3 has been searched, and what is left is below it in component 2
  pub search_both : (lower lows : List ℕ) (best : Maybe (List ℕ)) (row : List ℕ) → First lower lows best row → Nearest (known_rows k known) lower row
      → 2 < k → (x : ℕ) → x ≡ get_or row 3 0 → get_or lows 3 0 < x → (lower' : List ℕ) → lower' ≡ set lower 3 x → (r : Maybe (List ℕ))
      → On lower' (λ Of. Left Of known k lows lower' (least_of k best) (least_of k r)) → (y : ℕ) → y ≡ get_or row 2 0 → Searching (set lower 2 y) (set lows 3 x) r
  search_both lower lows best row first p h x e above lower' d r third y f =
      let now = search_third lower lows best row first p x e (omega arith) lower' d r third in
      search_rest lower (set lows 3 x) r row now p h (omega (arith, e, get_or-set_same lows 3 x 0 (omega (arith, first.goes_on.lows_size)))) y f

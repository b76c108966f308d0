-- What the arrays of a path say of its keys, for arrays of the struct's lengths. Assumes nothing.
use mathlib.Core.Path.{◌∙◌, ◌≡◌, ap, refl, sym}
use mathlib.Core.List.{List, [], ◌++◌, ◌∷◌, map}
use Prim.Native.Nat.{◌+◌, ◌<◌, ◌≤◌, min, suc, zero, ℕ}
use lib.ListN.{get_or-eq_default, get_or-map, drop, get_or, length, length-drop, length-map, length-take, set, take}
use lib.Dec.{eqb}
use lib.Seq.{get_or-drop, get_or-set_other, get_or-take, take_all, take-suc-set, take-take}
use native.Mathlib.Nat.{add_comm}
use native.Mathlib.Numerals.{add-one}
use native.Mathlib.Decide.{dec_lt}
use native.Mathlib.Omega.{arith}
use borrow.Author.Tests.{le-ltb, lt-ltb}
use Rattle.std.specs.Prelude.{Bool, ◌&&◌, nat_eq}
use Rattle.std.specs.Cmp.Lexicographic.{pointwise}
use Rattle.lists.specs.Lists.{same}
use Rattle.graph.specs.Paths.{Key}
use Rattle.paths.specs.Path.{entered_by, extended_by, keys_from, keys_of, length_of, no_key, nodes_of, plant_of, rows_in}
use Rattle.paths.specs.declared.Path.{Path}

-- Three lists side by side

keys_take : (n : ℕ) (is vs rs : List ℕ) → take n (keys_from is vs rs) ≡ keys_from (take n is) (take n vs) (take n rs)
unfolding keys_from
keys_take zero is vs rs = refl
keys_take (suc n) [] vs rs = refl
keys_take (suc n) (i ∷ is) [] rs = refl
keys_take (suc n) (i ∷ is) (v ∷ vs) [] = refl
keys_take (suc n) (i ∷ is) (v ∷ vs) (r ∷ rs) = ap (λ (l : List Key). record { place = i; node = v; row = r } ∷ l) (keys_take n is vs rs)

keys_snoc : (is vs rs : List ℕ) (i v r : ℕ) → length is ≡ length vs → length vs ≡ length rs
    → keys_from (is ++ (i ∷ [])) (vs ++ (v ∷ [])) (rs ++ (r ∷ [])) ≡ keys_from is vs rs ++ (record { place = i; node = v; row = r } ∷ [])
unfolding keys_from
keys_snoc [] [] [] i v r p q = refl
keys_snoc [] [] (r' ∷ rs) i v r p q = absurd (omega arith)
keys_snoc [] (v' ∷ vs) rs i v r p q = absurd (omega arith)
keys_snoc (i' ∷ is) [] rs i v r p q = absurd (omega arith)
keys_snoc (i' ∷ is) (v' ∷ vs) [] i v r p q = absurd (omega arith)
keys_snoc (i' ∷ is) (v' ∷ vs) (r' ∷ rs) i v r p q =
    ap (λ (l : List Key). record { place = i'; node = v'; row = r' } ∷ l) (keys_snoc is vs rs i v r (omega arith) (omega arith))

keys_are : (is vs rs : List ℕ) → length is ≡ length vs → length vs ≡ length rs
    → (map (λ (k : Key). k.place) (keys_from is vs rs) ≡ is) × (nodes_of (keys_from is vs rs) ≡ vs) × (map (λ (k : Key). k.row) (keys_from is vs rs) ≡ rs)
unfolding keys_from
keys_are [] [] [] p q = (refl, refl, refl)
keys_are [] [] (r ∷ rs) p q = absurd (omega arith)
keys_are [] (v ∷ vs) rs p q = absurd (omega arith)
keys_are (i ∷ is) [] rs p q = absurd (omega arith)
keys_are (i ∷ is) (v ∷ vs) [] p q = absurd (omega arith)
keys_are (i ∷ is) (v ∷ vs) (r ∷ rs) p q =
    let h = keys_are is vs rs (omega arith) (omega arith) in
    (ap (λ (l : List ℕ). i ∷ l) h.0, ap (λ (l : List ℕ). v ∷ l) h.1, ap (λ (l : List ℕ). r ∷ l) h.2)

-- One more at the code's i + 1

take_set_next : (l : List ℕ) (i a : ℕ) → i < length l → take (i + 1) (set l i a) ≡ take i l ++ (a ∷ [])
take_set_next l i a h = rw add-one (take-suc-set l i a h)

drop_set_next : (l : List ℕ) (i a : ℕ) → drop 1 (set l (i + 1) a) ≡ set (drop 1 l) i a
drop_set_next [] i a = refl
drop_set_next (x ∷ l) i a = rw add-one

take_one_more : (n : ℕ) (l : List ℕ) → 0 < length l → take (n + 1) l ≡ get_or l 0 0 ∷ take n (drop 1 l)
take_one_more n [] h = absurd (omega arith)
take_one_more n (x ∷ l) h = rw add-one

keys_next : (n : ℕ) (is vs rs : List ℕ) (i v r : ℕ) → n < length is → n < length vs → n < length rs
    → keys_from (take (n + 1) (set is n i)) (take (n + 1) (set vs n v)) (take (n + 1) (set rs n r))
    ≡ keys_from (take n is) (take n vs) (take n rs) ++ (record { place = i; node = v; row = r } ∷ [])
keys_next n is vs rs i v r a b c =
    rw (take_set_next is n i a, take_set_next vs n v b, take_set_next rs n r c)
    (keys_snoc _ _ _ i v r (simp length-take (omega arith)) (simp length-take (omega arith)))

-- A path

module _ (p : Path) where
  part_of : (n m : ℕ) (l : List ℕ) → m ≡ min (length_of p) n → take m l ≡ take n (take (length_of p) l)
  part_of n m l e = elim (dec_lt n (length_of p)) [
    | yes h ↦ ap (λ (i : ℕ). take i l) (e ∙ omega arith) ∙ sym (take-take n (length_of p) l (omega arith))
    | no h ↦ ap (λ (i : ℕ). take i l) (e ∙ omega arith) ∙ sym (take_all n (take (length_of p) l) (simp length-take (omega arith)))
  ]

  pub shortened_is : (n m : ℕ) → m ≡ min (length_of p) n
      → keys_of (record { rows = p.rows; nodes = p.nodes; pivots = p.pivots; len = m }) ≡ take n (keys_of p)
  unfolding keys_of
  shortened_is n m e =
      let short : min m 31 ≡ m = omega arith in
      rw (short, keys_take, part_of n m p.pivots e, part_of n m (drop 1 p.nodes) e, part_of n m p.rows e)

  whole_is : keys_of p ≡ take (length_of p) (keys_of p)
  unfolding keys_of
  whole_is =
      let same : (l : List ℕ) → take (length_of p) l ≡ take (length_of p) (take (length_of p) l) = λ l. part_of (length_of p) (length_of p) l (omega arith) in
      rw (keys_take, ← same p.pivots, ← same (drop 1 p.nodes), ← same p.rows)

  pub keys_most : length (keys_of p) ≤ length_of p
  keys_most = omega (arith, ap length whole_is, length-take (length_of p) (keys_of p))

  pub key_past : (i : ℕ) → length_of p ≤ i → get_or (keys_of p) i no_key ≡ no_key
  key_past i h = let past : length (keys_of p) ≤ i = omega (arith, keys_most) in get_or-eq_default (keys_of p) no_key past

  pub entered_past : (i : ℕ) → length_of p < i → get_or (entered_by (plant_of p) (keys_of p)) i 0 ≡ 0
  entered_past i h =
      let past : length (entered_by (plant_of p) (keys_of p)) ≤ i = omega (arith, keys_most, length-map (keys_of p) (λ (k : Key). k.node)) in
      get_or-eq_default (entered_by (plant_of p) (keys_of p)) 0 past

module _ (p : Path) (nodes : length p.nodes ≡ 32) (rows : length p.rows ≡ 31) (pivots : length p.pivots ≡ 31) where
  columns : (map (λ (k : Key). k.place) (keys_of p) ≡ take (length_of p) p.pivots)
      × (nodes_of (keys_of p) ≡ take (length_of p) (drop 1 p.nodes))
      × (map (λ (k : Key). k.row) (keys_of p) ≡ take (length_of p) p.rows)
  unfolding keys_of
  columns = keys_are _ _ _ (simp (length-take, length-drop) (omega arith)) (simp (length-take, length-drop) (omega arith))

  pub rows_are : map (λ (k : Key). k.row) (keys_of p) ≡ take (length_of p) p.rows
  rows_are = columns.2

  pub pivots_are : map (λ (k : Key). k.place) (keys_of p) ≡ take (length_of p) p.pivots
  pivots_are = columns.0

  pub keys_length : length (keys_of p) ≡ length_of p
  keys_length = omega (arith, simp (length-map, length-take) at (ap length rows_are))

  pub entered_is : take (length_of p + 1) p.nodes ≡ entered_by (plant_of p) (keys_of p)
  entered_is = take_one_more (length_of p) p.nodes (omega arith) ∙ ap (λ (l : List ℕ). plant_of p ∷ l) (sym columns.1)

  -- one step more, with n the length
  pub extended_is : (n place node row : ℕ) → n ≡ length_of p → n < 31
      → keys_of (record { rows = set p.rows n row; nodes = set p.nodes (n + 1) node; pivots = set p.pivots n place; len = n + 1 })
      ≡ extended_by (keys_of p) (record { place = place; node = node; row = row })
  unfolding keys_of extended_by
  extended_is n place node row e h =
      let room : length (keys_from (take n p.pivots) (take n (drop 1 p.nodes)) (take n p.rows)) < 31 = rw e (omega (arith, keys_length)) in
      let next : min (n + 1) 31 ≡ n + 1 = omega arith in
      rw (next, ← e, lt-ltb _ _ room, drop_set_next)
      (keys_next n p.pivots (drop 1 p.nodes) p.rows place node row (omega arith) (simp length-drop (omega arith)) (omega arith))

  pub plant_stays : (n node : ℕ) → get_or (set p.nodes (n + 1) node) 0 0 ≡ plant_of p
  plant_stays n node = get_or-set_other p.nodes (n + 1) 0 node 0 (λ e. omega arith)

  pub full_is : (k : Key) → 31 ≤ length_of p → keys_of p ≡ extended_by (keys_of p) k
  unfolding extended_by
  full_is k h = let full : 31 ≤ length (keys_of p) = omega (arith, keys_length) in rw (le-ltb _ _ full)

  -- a part of key i stands in its array at i
  part_at : (f : Key → ℕ) (l : List ℕ) → map f (keys_of p) ≡ take (length_of p) l → (i : ℕ) → i < length_of p → get_or l i (f no_key) ≡ f (get_or (keys_of p) i no_key)
  part_at f l e i h = sym (get_or-take (length_of p) l i (f no_key) h) ∙ (rw (← e) (get_or-map f (keys_of p) i no_key))

  pub place_at : (i : ℕ) → i < length_of p → get_or p.pivots i 0 ≡ (get_or (keys_of p) i no_key).place
  place_at = part_at (λ k. k.place) p.pivots columns.0

  pub row_at_lem : (i : ℕ) → i < length_of p → get_or p.rows i 0 ≡ (get_or (keys_of p) i no_key).row
  row_at_lem = part_at (λ k. k.row) p.rows columns.2

  pub node_at : (i : ℕ) → i < length_of p → get_or p.nodes (i + 1) 0 ≡ (get_or (keys_of p) i no_key).node
  node_at i h = rw (add_comm i 1, ← get_or-drop 1 p.nodes i 0) (part_at (λ k. k.node) (drop 1 p.nodes) columns.1 i h)

  pub entered_at_lem : (i : ℕ) → i ≤ length_of p → get_or p.nodes i 0 ≡ get_or (entered_by (plant_of p) (keys_of p)) i 0
  entered_at_lem i h = sym (get_or-take (length_of p + 1) p.nodes i 0 (omega arith)) ∙ ap (λ (l : List ℕ). get_or l i 0) entered_is

-- the rows of a path: how many they are, and one after the other
pub rows_long : (p : Path) → length p.nodes ≡ 32 → length p.rows ≡ 31 → length p.pivots ≡ 31 → length (rows_in p) ≡ length_of p
rows_long p nodes rows pivots = length-map (keys_of p) (λ (k : Key). k.row) ∙ keys_length p nodes rows pivots

-- the first places of a path's array are its rows
pub path_rows : (p : Path) (n : ℕ) → n ≡ length_of p → length p.nodes ≡ 32 → length p.rows ≡ 31 → length p.pivots ≡ 31 → take n p.rows ≡ rows_in p
path_rows p n e nodes rows pivots = rw e (sym (rows_are p nodes rows pivots))

pub row_is : (p : Path) (i : ℕ) → (get_or (keys_of p) i no_key).row ≡ get_or (rows_in p) i 0
row_is p i = sym (get_or-map (λ (k : Key). k.row) (keys_of p) i no_key)

-- two lists are compared in the code as they are in `same`
pub same_is : (xs ys : List ℕ) → pointwise nat_eq xs ys ≡ same xs ys
unfolding same
same_is [] [] = refl
same_is [] (y ∷ ys) = refl
same_is (x ∷ xs) [] = refl
same_is (x ∷ xs) (y ∷ ys) = ap (λ (b : Bool). eqb x y && b) (same_is xs ys)

-- The bytes of a network's file say the network (`file_network`). Of the checks only 3, 6 and 7 may refuse them (`file_checks_lem`); Open accepts
-- them where the network keeps the file's limits (`file_met`).
use mathlib.Core.Path.{◌∙◌, ◌≡◌, ap, ap₂, refl, subst, sym}
use mathlib.Core.Logic.{◌⊎◌, inl, inr, ⊎_elim}
use mathlib.Core.Bool.{Bool, false, true}
use mathlib.Core.Option.{none}
use mathlib.Core.List.Memᴰ.{head as here}
use mathlib.Core.List.Memᴰ.{tail as there}
use mathlib.Core.List.{List, [], ◌++◌, ◌∷◌, map}
use Prim.Native.Nat.{◌%◌, ◌*◌, ◌+◌, ◌-◌, ◌/◌, ◌<◌, suc, zero, ℕ}
use native.Mathlib.Nat.{div-add-mod', suc-mul, zero-mul}
use native.Mathlib.Omega.{arith}
use lib.Dec.{T, eqb, leb, le→leb, ltb, lt→ltb}
use lib.ListN.{get_or-append, get_or, length, length-append, length-map}
use lib.Seq.{ext_get_or, get_or-append-add}
use Rattle.lists.specs.Lists.{all, both, concat_map, either, pick, range}
use Rattle.lists.proofs.Ascending.{get_or_mem}
use Rattle.lists.proofs.Members.{◌∈◌, all_in, range_out}
use Rattle.lists.proofs.Ranges.{get_or_map_range, range_length}
use Rattle.lists.proofs.Tests.{T-both, T-either, T_true, eq→eqb}
use Rattle.checks.specs.Checks.{first_unmet}
use Rattle.costs.specs.Network.{Kind, Network, Row, State, added, barred, closing, must, no_row, «open», worst}
use Rattle.network_file.specs.Bytes.{body_bytes, bytes_of_row, file_of, kind_number, state_bytes, state_number, u16_bytes, u32_bytes}
use Rattle.network_file.specs.File.{body_met, byte_at, costs_met, costs_sound, ends_met, ends_sound, file_checks, is_kind, is_state, kind_bytes, kind_of, kinds_met, kinds_of, length_field, length_met}
use Rattle.network_file.specs.File.{network_of, row_bytes, row_in, row_start, sizes_met, sizes_of, state_byte, state_of, state_or, state_width, states_met, u16_at, u32_at, version, version_met, within}

-- Numbers of two and four bytes

half : (x : ℕ) → x / 256 * 256 + x % 256 ≡ x
half x = div-add-mod' x 256

whole : (x : ℕ) → x / 65536 * 65536 + x % 65536 ≡ x
whole x = div-add-mod' x 65536

-- Parts of equal length, one after the other

module _ {A : Type 0} (g : A → List ℕ) (s : ℕ) where
  parts_long : (l : List A) → ((a : A) → a ∈ l → length (g a) ≡ s) → length (concat_map g l) ≡ length l * s
  unfolding concat_map
  parts_long [] h = sym (zero-mul s)
  parts_long (a ∷ l) h = omega (arith, length-append (g a) (concat_map g l), h a (here refl), parts_long l (λ b m. h b (there m)), suc-mul (length l) s)

  part_at : (l : List A) (d : A) (r j : ℕ) → ((a : A) → a ∈ l → length (g a) ≡ s) → r < length l → j < s → get_or (concat_map g l) (r * s + j) 0 ≡ get_or (g (get_or l r d)) j 0
  unfolding concat_map
  part_at [] d r j h k m = absurd (omega arith)
  part_at (a ∷ l) d zero j h k m =
      let here_is : zero * s + j ≡ j = omega (arith, zero-mul s) in
      rw here_is (get_or-append (g a) (concat_map g l) 0 j (omega (arith, h a (here refl))))
  part_at (a ∷ l) d (suc r) j h k m =
      let further : suc r * s + j ≡ length (g a) + (r * s + j) = omega (arith, suc-mul r s, h a (here refl)) in
      rw further (get_or-append-add (g a) (concat_map g l) (r * s + j) 0 ∙ part_at l d r j (λ b i. h b (there i)) (omega arith) m)

-- the first entries of a list behind others, read one by one
read_part : (front l rest : List ℕ) → map (λ c. get_or (front ++ (l ++ rest)) (length front + c) 0) (range 0 (length l)) ≡ l
read_part front l rest = ext_get_or 0 read l long (λ i h. let k = small i h in
    get_or_map_range (λ c. get_or (front ++ (l ++ rest)) (length front + c) 0) (length l) i 0 k
    ∙ get_or-append-add front (l ++ rest) i 0 ∙ get_or-append l rest 0 i k)
  where
    read : List ℕ
    read = map (λ c. get_or (front ++ (l ++ rest)) (length front + c) 0) (range 0 (length l))

    long : length read ≡ length l
    long = length-map (range 0 (length l)) (λ c. get_or (front ++ (l ++ rest)) (length front + c) 0) ∙ range_length 0 (length l)

    small : (i : ℕ) → i < length read → i < length l
    small i h = omega (arith, long)

-- Networks that a file of a version can say: as many costs in each row as there are kinds, and in version 1 open rows alone
pub record Sayable (version : ℕ) (w : Network) : Type 0 where
  pub known : (version ≡ 1) ⊎ (version ≡ 2)
  pub wide : (r : Row) → r ∈ w.rows → length r.costs ≡ length w.kinds
  pub opened : (r : Row) → r ∈ w.rows → eqb version 2 ≡ false → r.state ≡ «open»

pub kinds_back : (kinds : List Kind) → kinds_of (map kind_number kinds) ≡ kinds
unfolding kinds_of kind_of
kinds_back [] = refl
kinds_back (added ∷ kinds) = ap (λ (l : List Kind). added ∷ l) (kinds_back kinds)
kinds_back (worst ∷ kinds) = ap (λ (l : List Kind). worst ∷ l) (kinds_back kinds)
kinds_back (closing ∷ kinds) = ap (λ (l : List Kind). closing ∷ l) (kinds_back kinds)

state_back : (s : State) → state_or (state_of (state_number s)) ≡ s
unfolding state_of
state_back «open» = refl
state_back must = refl
state_back barred = refl

-- The file of a sayable network

module _ (v : ℕ) (w : Network) (say : Sayable v w) where
  abbrev f : List ℕ
  f = file_of v w

  abbrev k : ℕ
  k = length w.kinds

  -- the bytes of a state, and of a row
  abbrev sw : ℕ
  sw = pick (eqb v 2) 1 0

  abbrev size : ℕ
  size = 4 + sw + 4 * k

  abbrev kinds_part : List ℕ
  kinds_part = map kind_number w.kinds

  abbrev rows_part : List ℕ
  rows_part = concat_map (bytes_of_row v) w.rows

  -- the first nine bytes
  front : List ℕ
  front = v ∷ (u32_bytes (length (body_bytes v w)) ++ (w.node_count ∷ (u16_bytes (length w.rows) ++ (k ∷ []))))

  file_parts : f ≡ front ++ (kinds_part ++ rows_part)
  unfolding file_of front
  file_parts = refl

  front_long : length front ≡ 9
  unfolding front
  front_long = refl

  file_sizes : sizes_of f ≡ record { n = w.node_count; m = length w.rows; k = k }
  unfolding file_of u16_at
  file_sizes = ap (λ (m : ℕ). record { n = w.node_count; m = m; k = k }) (half (length w.rows))

  width_is : state_width f ≡ sw
  unfolding file_of state_width
  width_is = refl

  -- how long the parts are
  state_long : (s : State) → length (state_bytes v s) ≡ sw
  state_long s = by (eqb v 2)
    where
      by : (b : Bool) → length (pick b (state_number s ∷ []) []) ≡ pick b 1 0
      by true = refl
      by false = refl

  costs_long : (xs : List ℕ) → length (concat_map u32_bytes xs) ≡ length xs * 4
  costs_long xs = parts_long u32_bytes 4 xs (λ x m. refl)

  row_long : (r : Row) → r ∈ w.rows → length (bytes_of_row v r) ≡ size
  row_long r m =
      omega (arith, length-append (state_bytes v r.state) (concat_map u32_bytes r.costs), state_long r.state, costs_long r.costs, say.wide r m)

  body_long : length (body_bytes v w) ≡ 4 + k + length w.rows * size
  body_long = omega (arith, length-append kinds_part rows_part, length-map w.kinds kind_number, parts_long (bytes_of_row v) size w.rows row_long)

  pub file_long : length f ≡ 9 + k + length w.rows * size
  unfolding file_of
  file_long = omega (arith, body_long)

  -- Row r

  module _ (r : ℕ) (h : r < length w.rows) where
    abbrev row : Row
    row = get_or w.rows r no_row

    row_in_lem : row ∈ w.rows
    row_in_lem = get_or_mem w.rows r no_row h

    start_is : row_start f r ≡ 9 + k + r * size
    start_is =
        ap₂ {C = ℕ} (λ a b. 9 + a + r * (4 + b + 4 * a)) (ap {B = ℕ} (λ s. s.k) file_sizes) width_is

    cell : (j : ℕ) → j < size → byte_at f (row_start f r + j) ≡ get_or (bytes_of_row v row) j 0
    cell j l =
        ap {B = ℕ} (λ at. get_or f at 0) place ∙ ap {B = ℕ} (λ l. get_or l (length front + (length kinds_part + (r * size + j))) 0) file_parts
        ∙ get_or-append-add front (kinds_part ++ rows_part) (length kinds_part + (r * size + j)) 0
        ∙ get_or-append-add kinds_part rows_part (r * size + j) 0
        ∙ part_at (bytes_of_row v) size w.rows no_row r j row_long h l
      where
        place : row_start f r + j ≡ length front + (length kinds_part + (r * size + j))
        place = omega (arith, start_is, front_long, length-map w.kinds kind_number)

    street_is : u16_at f (row_start f r + 2) ≡ row.street
    unfolding u16_at
    street_is =
        let three : row_start f r + 2 + 1 ≡ row_start f r + 3 = omega arith in
        ap₂ {C = ℕ} (λ a b. a * 256 + b) (cell 2 (omega arith)) (ap (byte_at f) three ∙ cell 3 (omega arith)) ∙ half row.street

    -- the state
    state_byte_lem : eqb v 2 ≡ true → byte_at f (row_start f r + 4) ≡ state_number row.state
    state_byte_lem e =
        cell 4 (omega (arith, ap {B = ℕ} (λ b. pick b 1 0) e))
        ∙ ap {B = ℕ} (λ b. get_or (pick b (state_number row.state ∷ []) [] ++ concat_map u32_bytes row.costs) 0 0) e

    state_read : state_byte f r ≡ pick (eqb v 2) (byte_at f (row_start f r + 4)) 0
    unfolding state_byte file_of
    state_read = refl

    state_named_lem : state_byte f r ≡ pick (eqb v 2) (state_number row.state) 0
    state_named_lem = state_read ∙ by (eqb v 2) state_byte_lem
      where
        by : (b : Bool) → (b ≡ true → byte_at f (row_start f r + 4) ≡ state_number row.state)
            → pick b (byte_at f (row_start f r + 4)) 0 ≡ pick b (state_number row.state) 0
        by true g = g refl
        by false g = refl

    state_is : state_or (state_of (state_byte f r)) ≡ row.state
    unfolding state_of
    state_is = ap {B = State} (λ b. state_or (state_of b)) state_named_lem ∙ by (eqb v 2) (say.opened row row_in_lem)
      where
        by : (b : Bool) → (b ≡ false → row.state ≡ «open») → state_or (state_of (pick b (state_number row.state) 0)) ≡ row.state
        by true g = state_back row.state
        by false g = sym (g refl)

    -- the costs
    cost_byte_lem : (c i : ℕ) → c < k → i < 4 → byte_at f (row_start f r + (4 + sw + (c * 4 + i))) ≡ get_or (u32_bytes (get_or row.costs c 0)) i 0
    cost_byte_lem c i l m =
        cell (4 + sw + (c * 4 + i)) (omega arith)
        ∙ ap {B = ℕ} (λ n. get_or (lead ++ concat_map u32_bytes row.costs) n 0) behind
        ∙ get_or-append-add lead (concat_map u32_bytes row.costs) (c * 4 + i) 0
        ∙ part_at u32_bytes 4 row.costs 0 c i (λ x n. refl) (omega (arith, say.wide row row_in_lem)) m
      where
        lead : List ℕ
        lead = row.first_end ∷ row.second_end ∷ (u16_bytes row.street ++ state_bytes v row.state)

        behind : 4 + sw + (c * 4 + i) ≡ length lead + (c * 4 + i)
        behind = omega (arith, state_long row.state)

    cost_is_lem : (c : ℕ) → c < k → u32_at f (row_start f r + 4 + state_width f + 4 * c) ≡ get_or row.costs c 0
    unfolding u32_at u16_at
    cost_is_lem c l =
        ap₂ {C = ℕ} (λ a b. a * 65536 + b)
        (ap₂ {C = ℕ} (λ a b. a * 256 + b) (byte 0 (omega arith) (omega (arith, width_is))) (byte 1 (omega arith) (omega (arith, width_is))) ∙ half (x / 65536))
        (ap₂ {C = ℕ} (λ a b. a * 256 + b) (byte 2 (omega arith) (omega (arith, width_is))) (byte 3 (omega arith) (omega (arith, width_is))) ∙ half (x % 65536))
        ∙ whole x
      where
        x : ℕ
        x = get_or row.costs c 0

        byte : (i : ℕ) → i < 4 → {at : ℕ} → at ≡ row_start f r + (4 + sw + (c * 4 + i)) → byte_at f at ≡ get_or (u32_bytes x) i 0
        byte i m e = ap (byte_at f) e ∙ cost_byte_lem c i l m

    costs_are : map (λ c. u32_at f (row_start f r + 4 + state_width f + 4 * c)) (range 0 k) ≡ row.costs
    costs_are = ext_get_or 0 read row.costs long (λ c l. let small = below c l in
        get_or_map_range (λ c. u32_at f (row_start f r + 4 + state_width f + 4 * c)) k c 0 small ∙ cost_is_lem c small)
      where
        read : List ℕ
        read = map (λ c. u32_at f (row_start f r + 4 + state_width f + 4 * c)) (range 0 k)

        long : length read ≡ length row.costs
        long = length-map (range 0 k) (λ c. u32_at f (row_start f r + 4 + state_width f + 4 * c)) ∙ range_length 0 k ∙ sym (say.wide row row_in_lem)

        below : (c : ℕ) → c < length read → c < k
        below c l = omega (arith, long, say.wide row row_in_lem)

    row_is : row_in f r ≡ row
    unfolding row_in
    row_is = λ i. record {
      first_end = (ap (byte_at f) zeroth ∙ cell 0 (omega arith)) i;
      second_end = cell 1 (omega arith) i;
      street = street_is i;
      state = state_is i;
      costs = (ap (λ (n : ℕ). map (λ c. u32_at f (row_start f r + 4 + state_width f + 4 * c)) (range 0 n)) (ap {B = ℕ} (λ s. s.k) file_sizes) ∙ costs_are) i;
    }
      where
        zeroth : row_start f r ≡ row_start f r + 0
        zeroth = omega arith

  rows_are : map (row_in f) (range 0 (length w.rows)) ≡ w.rows
  rows_are = ext_get_or no_row read w.rows long (λ r l. let small = below r l in get_or_map_range (row_in f) (length w.rows) r no_row small ∙ row_is r small)
    where
      read : List Row
      read = map (row_in f) (range 0 (length w.rows))

      long : length read ≡ length w.rows
      long = length-map (range 0 (length w.rows)) (row_in f) ∙ range_length 0 (length w.rows)

      below : (r : ℕ) → r < length read → r < length w.rows
      below r l = omega (arith, long)

  kind_bytes_lem : kind_bytes f ≡ kinds_part
  unfolding kind_bytes
  kind_bytes_lem =
      ap (λ (n : ℕ). map (λ c. byte_at f (9 + c)) (range 0 n)) (ap {B = ℕ} (λ s. s.k) file_sizes ∙ sym (length-map w.kinds kind_number))
      ∙ ap (λ (l : List ℕ). map (λ c. get_or l (9 + c) 0) (range 0 (length kinds_part))) file_parts
      ∙ ap (λ (n : ℕ). map (λ c. get_or (front ++ (kinds_part ++ rows_part)) (n + c) 0) (range 0 (length kinds_part))) (sym front_long)
      ∙ read_part front kinds_part rows_part

  -- SAID: the file's network is the network
  pub file_network : network_of f ≡ w
  unfolding network_of
  file_network = λ i. record {
    node_count = (file_sizes i).n;
    kinds = (ap kinds_of kind_bytes_lem ∙ kinds_back w.kinds) i;
    rows = (ap (λ (n : ℕ). map (row_in f) (range 0 n)) (ap {B = ℕ} (λ s. s.m) file_sizes) ∙ rows_are) i;
  }

-- The limits that a file's checks keep

pub record Limits (w : Network) : Type 0 where
  pub nodes : T (within 2 32 w.node_count)
  pub rows : T (within 0 256 (length w.rows))
  pub criteria : T (within 1 4 (length w.kinds))
  pub ends : T (all (ends_sound w.node_count) w.rows)
  pub costs : T (all costs_sound w.rows)

kind_named : (kinds : List Kind) → T (all (λ b. is_kind (kind_of b)) (map kind_number kinds))
unfolding all kind_of
kind_named [] = tt
kind_named (added ∷ kinds) = kind_named kinds
kind_named (worst ∷ kinds) = kind_named kinds
kind_named (closing ∷ kinds) = kind_named kinds

module _ (v : ℕ) (w : Network) (say : Sayable v w) where
  abbrev g : List ℕ
  g = file_of v w

  field_is : length_field g ≡ length (body_bytes v w)
  unfolding file_of u32_at u16_at
  field_is =
      let l = length (body_bytes v w) in
      ap₂ {C = ℕ} (λ a b. a * 65536 + b) (half (l / 65536)) (half (l % 65536)) ∙ whole l

  g_long : length g ≡ 5 + length (body_bytes v w)
  unfolding file_of
  g_long = omega arith

  known : T (either (eqb (version g) 1) (eqb (version g) 2))
  unfolding file_of
  known = (T-either (eqb v 1) (eqb v 2)).1 (⊎_elim (λ e. inl (eq→eqb v 1 e)) (λ e. inr (eq→eqb v 2 e)) say.known)

  met_1 : T (version_met g)
  unfolding version_met
  met_1 = (T-both (ltb 0 (length g)) (either (eqb (version g) 1) (eqb (version g) 2))).1 (lt→ltb 0 (length g) (omega (arith, g_long)), known)

  met_2 : T (length_met g)
  unfolding length_met
  met_2 = (T-both (leb 9 (length g)) (eqb (length_field g) (length g - 5))).1 (
    le→leb 9 (length g) (omega (arith, file_long v w say)),
    eq→eqb (length_field g) (length g - 5) (omega (arith, field_is, g_long)),
  )

  met_4 : T (body_met g)
  unfolding body_met
  met_4 =
      eq→eqb (length_field g) (4 + (sizes_of g).k + (sizes_of g).m * row_bytes g)
      (field_is ∙ body_long v w say
      ∙ sym (ap₂ {C = ℕ} (λ s b. 4 + s.k + s.m * (4 + b + 4 * s.k)) (file_sizes v w say) (width_is v w say)))

  met_5 : T (kinds_met g)
  unfolding kinds_met
  met_5 = subst (λ (bs : List ℕ). T (all (λ b. is_kind (kind_of b)) bs)) (sym (kind_bytes_lem v w say)) (kind_named w.kinds)

  met_14 : T (states_met g)
  unfolding states_met state_of
  met_14 = all_in (λ r. is_state (state_of (state_byte g r))) (range 0 (sizes_of g).m) (λ r m.
      subst (λ (b : ℕ). T (is_state (state_of b))) (sym (state_named_lem v w say r (small r m))) (named (eqb v 2) (get_or w.rows r no_row).state))
    where
      small : (r : ℕ) → r ∈ range 0 (sizes_of g).m → r < length w.rows
      small r m = omega (arith, (range_out 0 (sizes_of g).m m).1, ap {B = ℕ} (λ s. s.m) (file_sizes v w say))

      named : (b : Bool) (s : State) → T (is_state (state_of (pick b (state_number s) 0)))
      named true «open» = tt
      named true must = tt
      named true barred = tt
      named false s = tt

  -- what the others come to
  sizes_same : sizes_met g ≡ both (within 2 32 w.node_count) (both (within 0 256 (length w.rows)) (within 1 4 (length w.kinds)))
  unfolding sizes_met
  sizes_same = ap {B = Bool} (λ s. both (within 2 32 s.n) (both (within 0 256 s.m) (within 1 4 s.k))) (file_sizes v w say)

  ends_same : ends_met g ≡ all (ends_sound w.node_count) w.rows
  unfolding ends_met
  ends_same = ap₂ {C = Bool} (λ n x. all (ends_sound n) x.rows) (ap {B = ℕ} (λ s. s.n) (file_sizes v w say)) (file_network v w say)

  costs_same : costs_met g ≡ all costs_sound w.rows
  unfolding costs_met
  costs_same = ap {B = Bool} (λ x. all costs_sound x.rows) (file_network v w say)

  -- CHECKS: of a file's checks only 3, 6 and 7 may refuse it
  pub file_checks_lem : first_unmet (file_checks g) ≡ first_unmet (
      record { number = 3; met = both (within 2 32 w.node_count) (both (within 0 256 (length w.rows)) (within 1 4 (length w.kinds))) }
      ∷ record { number = 6; met = all (ends_sound w.node_count) w.rows }
      ∷ record { number = 7; met = all costs_sound w.rows }
      ∷ [])
  unfolding file_checks first_unmet
  file_checks_lem = rw (
    (T_true (version_met g)).0 met_1,
    (T_true (length_met g)).0 met_2,
    sizes_same,
    (T_true (body_met g)).0 met_4,
    (T_true (kinds_met g)).0 met_5,
    ends_same,
    costs_same,
    (T_true (states_met g)).0 met_14,
  )

  -- ACCEPTED: Open accepts the file, where the network keeps the limits
  pub file_met : Limits w → first_unmet (file_checks g) ≡ none
  unfolding first_unmet
  file_met limits =
      let sizes = (T-both (within 2 32 w.node_count) _).1 (limits.nodes, (T-both (within 0 256 (length w.rows)) _).1 (limits.rows, limits.criteria)) in
      file_checks_lem ∙ (rw (
        (T_true (both (within 2 32 w.node_count) (both (within 0 256 (length w.rows)) (within 1 4 (length w.kinds))))).0 sizes,
        (T_true (all (ends_sound w.node_count) w.rows)).0 limits.ends,
        (T_true (all costs_sound w.rows)).0 limits.costs,
      ))

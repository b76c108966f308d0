-- Laws of Open: its checks as tests over ranges of numbers, at the sizes s that the code has read, and what they ask of the bytes of a row.
use mathlib.Core.Path.{◌∙◌, ◌≡◌, ap, refl, sym}
use mathlib.Core.Bool.{Bool, ◌&&◌, not, true}
use mathlib.Core.List.{List, map}
use Prim.Native.Nat.{◌*◌, ◌+◌, ◌-◌, ◌/◌, ◌<◌, ◌≤◌, suc, zero, ℕ}
use native.Mathlib.Omega.{arith}
use lib.Dec.{eqb, leb}
use lib.ListN.{drop, length, take}
use lib.Seq.{ext_get_or}
use Rattle.std.proofs.Common.{length-drop, length-take}
use Rattle.std.proofs.Math.Nat.{mul-div_cancel}
use Rattle.std.proofs.lemmas.List.{get_or-drop, get_or-take, length-map, take_all}
use borrow.Author.Tests.{ne_eqb}
use Rattle.lists.proofs.Maps.{map_all}
use Rattle.lists.proofs.Members.{all_in}
use Rattle.lists.proofs.Ranges.{get_or_map_range, range_length}
use Rattle.lists.proofs.Tests.{T_true}
use Rattle.lists.specs.Lists.{all, range}
use Rattle.costs.specs.Network.{Row}
use Rattle.network_file.proofs.Accepted.{version_2}
use Rattle.network_file.specs.File.{Sizes, body_met, byte_at, costs_met, costs_sound, ends_met, ends_sound, is_kind, is_state, kind_bytes, kind_of, kinds_met, length_field}
use Rattle.network_file.specs.File.{network_of, row_bytes, row_in, row_start, sizes_of, state_byte, state_of, state_width, states_met, u16_at, u32_at, version, within}
use Rattle.network.specs.Rows.{Fitting, costs_from}
use Rattle.network.proofs.Rows.{RowAt}

-- What each check asks of a row

unfoldable pub ends_at : List ℕ → ℕ → Bool
ends_at f r = ends_sound (sizes_of f).n (row_in f r)

unfoldable pub costs_at : List ℕ → ℕ → Bool
costs_at f r = costs_sound (row_in f r)

-- of the cost in criterion c, where a row's costs begin at `at`
unfoldable pub cost_fine : List ℕ → ℕ → ℕ → Bool
cost_fine f at c = leb (u32_at f (at + 4 * c)) 1000000

unfoldable pub state_at : List ℕ → ℕ → Bool
state_at f r = is_state (state_of (state_byte f r))

-- The part of a file with its kind bytes, numbers of four bytes, and tests of a range

pub kinds_part : (f : List ℕ) (k : ℕ) → 9 + k ≤ length f → take (9 + k - 9) (drop 9 f) ≡ map (λ c. byte_at f (9 + c)) (range 0 k)
kinds_part f k there =
    ext_get_or 0 (take (9 + k - 9) (drop 9 f)) (map (λ c. byte_at f (9 + c)) (range 0 k)) (long ∙ sym (length-map (range 0 k) (λ c. byte_at f (9 + c)) ∙ range_length 0 k))
    (λ c h. get_or-take (9 + k - 9) (drop 9 f) c 0 (omega (arith, long)) ∙ get_or-drop 9 f c 0 ∙ sym (get_or_map_range (λ c. byte_at f (9 + c)) k c 0 (omega (arith, long))))
  where
    long : length (take (9 + k - 9) (drop 9 f)) ≡ k
    long = omega (arith, length-take (9 + k - 9) (drop 9 f), length-drop 9 f)

pub u32_moved : (a b : List ℕ) (i j : ℕ) → ((d : ℕ) → d < 4 → byte_at a (i + d) ≡ byte_at b (j + d)) → u32_at a i ≡ u32_at b j
unfolding u32_at u16_at
u32_moved a b i j same =
    let first : byte_at a i ≡ byte_at b j = ap (byte_at a) (omega arith) ∙ same 0 (omega arith) ∙ ap (byte_at b) (omega arith) in
    let last : byte_at a (i + 2 + 1) ≡ byte_at b (j + 2 + 1) = ap (byte_at a) (omega arith) ∙ same 3 (omega arith) ∙ ap (byte_at b) (omega arith) in
    rw (first, same 1 (omega arith), same 2 (omega arith), last)

all_alike : (p q : ℕ → Bool) (from n : ℕ) → ((k : ℕ) → k < from + n → p k ≡ q k) → all p (range from n) ≡ all q (range from n)
unfolding all range
all_alike p q from zero same = refl
all_alike p q from (suc n) same = rw (same from (omega arith), all_alike p q (suc from) n (λ k h. same k (omega arith)))

-- The checks at the sizes s

module _ (f : List ℕ) (s : Sizes) (same : s ≡ sizes_of f) where
  pub body_by : body_met f ≡ eqb (length_field f) (4 + s.k + s.m * row_bytes f)
  unfolding body_met
  body_by = sym (ap (λ (t : Sizes). eqb (length_field f) (4 + t.k + t.m * row_bytes f)) same)

  -- a test of each row
  rows_start : (p : Row → Bool) → all p (network_of f).rows ≡ all (λ r. p (row_in f r)) (range 0 s.m)
  unfolding network_of
  rows_start p = sym (map_all (row_in f) p (range 0 (sizes_of f).m)) ∙ ap (λ (t : Sizes). all (λ r. p (row_in f r)) (range 0 t.m)) (sym same)

  pub kinds_start : kinds_met f ≡ all (λ b. is_kind (kind_of b)) (map (λ c. byte_at f (9 + c)) (range 0 s.k))
  unfolding kinds_met kind_bytes
  kinds_start = ap (λ (t : Sizes). all (λ b. is_kind (kind_of b)) (map (λ c. byte_at f (9 + c)) (range 0 t.k))) (sym same)

  pub ends_start : ends_met f ≡ all (ends_at f) (range 0 s.m)
  unfolding ends_met ends_at
  ends_start = rows_start (ends_sound (sizes_of f).n)

  pub costs_start : costs_met f ≡ all (costs_at f) (range 0 s.m)
  unfolding costs_met costs_at
  costs_start = rows_start costs_sound

  pub states_start : states_met f ≡ all (state_at f) (range 0 s.m)
  unfolding states_met state_at
  states_start = ap (λ (t : Sizes). all (state_at f) (range 0 t.m)) (sym same)

  -- what the code asks of the bytes of row r: of its ends
  pub ends_read : (r : ℕ) (row : List ℕ) → RowAt f r row
      → (within 1 s.n (byte_at row 0) && (within 1 s.n (byte_at row 1) && not (eqb (byte_at row 0) (byte_at row 1)))) ≡ ends_at f r
  unfolding ends_at row_in
  ends_read r row at =
      let first : byte_at row 0 ≡ byte_at f (row_start f r) = at.reads 0 (omega arith) ∙ ap (byte_at f) (omega arith) in
      rw (ap (λ (t : Sizes). t.n) same, first, at.reads 1 (omega arith))

  -- of its costs, which are behind its ends, street and state
  pub costs_read : (r lead : ℕ) (row costs : List ℕ) → RowAt f r row → lead ≡ 4 + state_width f → costs ≡ take (length row - lead) (drop lead row)
      → costs_from costs 0 (length costs / 4) ≡ costs_at f r
  unfolding costs_from costs_at row_in cost_fine
  costs_read r lead row costs at e part =
      ap (λ (m : ℕ). all (cost_fine costs 0) (range 0 m)) many
      ∙ all_alike (cost_fine costs 0) (λ c. leb (u32_at f (row_start f r + 4 + state_width f + 4 * c)) 1000000) 0 (sizes_of f).k
      (λ c h. ap (λ (x : ℕ). leb x 1000000) (cost c (omega arith)))
      ∙ map_all (λ c. u32_at f (row_start f r + 4 + state_width f + 4 * c)) (λ x. leb x 1000000) (range 0 (sizes_of f).k)
    where
      behind : costs ≡ drop lead row
      behind = part ∙ take_all (length row - lead) (drop lead row) (omega (arith, length-drop lead row))

      many : length costs / 4 ≡ (sizes_of f).k
      many = ap (λ (l : ℕ). l / 4) (omega (arith, ap length behind, length-drop lead row, at.long, e)) ∙ mul-div_cancel (sizes_of f).k (omega arith)

      byte : (i : ℕ) → lead + i < row_bytes f → byte_at costs i ≡ byte_at f (row_start f r + 4 + state_width f + i)
      byte i h = ap (λ (l : List ℕ). byte_at l i) behind ∙ get_or-drop lead row i 0 ∙ at.reads (lead + i) h ∙ ap (byte_at f) (omega (arith, e))

      cost : (c : ℕ) → c < (sizes_of f).k → u32_at costs (0 + 4 * c) ≡ u32_at f (row_start f r + 4 + state_width f + 4 * c)
      cost c h = u32_moved costs f (0 + 4 * c) (row_start f r + 4 + state_width f + 4 * c) (λ d l. byte (0 + 4 * c + d) (omega (arith, e)) ∙ ap (byte_at f) (omega arith))

-- behind check 4 the kind bytes are there
pub kinds_there : {f : List ℕ} {s : Sizes} → Fitting f s → 9 + s.k ≤ length f
kinds_there fit = omega (arith, fit.long, ap (λ (t : Sizes). t.k) fit.same)

-- a state is read where there are state bytes, which is version 2; each row is open where there are none
module _ (f : List ℕ) where
  pub state_read : (r : ℕ) (row : List ℕ) → version f ≡ 2 → RowAt f r row → is_state (state_of (byte_at row 4)) ≡ state_at f r
  unfolding state_at state_byte
  state_read r row e at = rw (e, at.reads 4 (omega (arith, (version_2 f e).0)))

  pub states_none : ¬ (version f ≡ 2) → states_met f ≡ true
  unfolding states_met state_byte state_of
  states_none other =
      (T_true (states_met f)).0 (all_in (λ r. is_state (state_of (state_byte f r))) (range 0 (sizes_of f).m) (λ r m. rw (ne_eqb (version f) 2 other) tt))

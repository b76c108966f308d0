-- What a file that meets all checks is (`accepted`): the limits of its sizes, its length, its kinds, ends and costs.
-- The longest accepted file has 5,389 bytes (`longest`).
use mathlib.Core.Path.{◌∙◌, ◌≡◌, ap, refl, subst, sym}
use mathlib.Core.Logic.{◌⊎◌, inl, inr, ⊎_elim}
use mathlib.Core.Bool.{not}
use mathlib.Core.Option.{Option, none, some}
use mathlib.Core.List.Memᴰ.{head as here}
use mathlib.Core.List.Memᴰ.{map as map_in}
use mathlib.Core.List.Memᴰ.{tail as there}
use mathlib.Core.List.{List, [], ◌∷◌, map}
use Prim.Native.Nat.{◌*◌, ◌+◌, ◌-◌, ◌<◌, ◌≤◌, suc, zero, ℕ}
use native.Mathlib.Decide.{dec_lt}
use native.Mathlib.Nat.{mul-le-mul}
use native.Mathlib.Omega.{arith}
use lib.Dec.{T, T_not, eqb, eqb_refl, eqb→eq, leb, leb→le, ltb}
use lib.ListN.{get_or, get_elem?, length, length-map}
use Rattle.lists.specs.Lists.{all, both, either, range}
use Rattle.lists.proofs.Ascending.{at_get_or}
use Rattle.lists.proofs.Maps.{map_at}
use Rattle.lists.proofs.Members.{◌∈◌, all_out, range_in}
use Rattle.lists.proofs.Ranges.{get_or_map_past, get_or_map_range, range_length}
use Rattle.lists.proofs.Tests.{T-both, T-either, T_true, pick_elim}
use Rattle.checks.specs.Checks.{Check, first_unmet}
use Rattle.checks.proofs.Checks.{met_all}
use Rattle.costs.specs.Costs.{cost_at}
use Rattle.costs.specs.Network.{Kind, Row, added, no_row, row_at}
use Rattle.network_file.specs.File.{body_met, byte_at, cons_kind, costs_met, costs_sound, ends_met, ends_sound, file_checks, is_kind, is_state, kind_bytes, kind_of, kinds_met, kinds_of, length_field}
use Rattle.network_file.specs.File.{length_met, network_of, row_bytes, row_in, row_start, sizes_met, sizes_of, state_byte, state_of, state_or, state_width, states_met, version, version_met, within}

-- both ends of a row are nodes, and they differ
pub record EndsIn (n : ℕ) (row : Row) : Type 0 where
  pub first_low : 1 ≤ row.first_end
  pub first_high : row.first_end ≤ n
  pub second_low : 1 ≤ row.second_end
  pub second_high : row.second_end ≤ n
  pub differ : ¬ (row.first_end ≡ row.second_end)

pub record Accepted (f : List ℕ) : Type 0 where
  pub nodes_low : 2 ≤ (sizes_of f).n
  pub nodes_high : (sizes_of f).n ≤ 32
  pub rows_high : (sizes_of f).m ≤ 256
  pub criteria_low : 1 ≤ (sizes_of f).k
  pub criteria_high : (sizes_of f).k ≤ 4
  pub long : length f ≡ 9 + (sizes_of f).k + (sizes_of f).m * row_bytes f
  pub kinds : length (network_of f).kinds ≡ (sizes_of f).k
  pub named : (c : ℕ) → c < (sizes_of f).k → get_elem? (network_of f).kinds c ≡ kind_of (byte_at f (9 + c))
  pub rows : length (network_of f).rows ≡ (sizes_of f).m
  pub ends : (r : ℕ) → r < (sizes_of f).m → EndsIn (sizes_of f).n (row_in f r)
  pub costs : (c r : ℕ) → cost_at (network_of f) c r ≤ 1000000
  pub known : (version f ≡ 1) ⊎ (version f ≡ 2)
  pub states : (r : ℕ) → r < (sizes_of f).m → T (is_state (state_of (state_byte f r)))

pub state_width_lem : (f : List ℕ) → state_width f ≤ 1
unfolding state_width
state_width_lem f = pick_elim (λ (x : ℕ). x ≤ 1) (eqb (version f) 2) (λ t. omega arith) (λ t. omega arith)

pub version_2 : (f : List ℕ) → version f ≡ 2 → (state_width f ≡ 1) × ((r : ℕ) → (row_in f r).state ≡ state_or (state_of (byte_at f (row_start f r + 4))))
unfolding state_width row_in state_byte
version_2 f e = (rw e, λ r. rw e)

-- by checks 2 and 4 a file ends where a row behind the last would begin
pub file_length_lem : (f : List ℕ) → T (length_met f) → T (body_met f) → length f ≡ row_start f (sizes_of f).m
unfolding length_met body_met
file_length_lem f by_length by_body =
    let (nine, five) = (T-both (leb 9 (length f)) (eqb (length_field f) (length f - 5))).0 by_length in
    let whole = eqb→eq (length_field f) (length f - 5) five in
    let body = eqb→eq (length_field f) (4 + (sizes_of f).k + (sizes_of f).m * row_bytes f) by_body in
    omega (arith, leb→le 9 (length f) nine)

-- The rows of the network of a file

pub rows_length : (f : List ℕ) → length (network_of f).rows ≡ (sizes_of f).m
unfolding network_of
rows_length f = length-map (range 0 (sizes_of f).m) (row_in f) ∙ range_length 0 (sizes_of f).m

-- each row has a cost for each criterion
pub row_costs : (f : List ℕ) (r : ℕ) → length (row_in f r).costs ≡ (sizes_of f).k
unfolding row_in
row_costs f r = length-map (range 0 (sizes_of f).k) _ ∙ range_length 0 (sizes_of f).k

pub row_in_lem : (f : List ℕ) (r : ℕ) → r < (sizes_of f).m → row_at (network_of f) r ≡ row_in f r
unfolding network_of
row_in_lem f r h = get_or_map_range (row_in f) (sizes_of f).m r _ h

pub row_past : (f : List ℕ) (r : ℕ) → (sizes_of f).m ≤ r → row_at (network_of f) r ≡ no_row
unfolding network_of
row_past f r h = get_or_map_past (row_in f) (sizes_of f).m r _ h

within_out : (low high x : ℕ) → T (within low high x) → (low ≤ x) × (x ≤ high)
within_out low high x t = let (a, b) = (T-both (leb low x) (leb x high)).0 t in (leb→le low x a, leb→le x high b)

ends_out : (n : ℕ) (row : Row) → T (ends_sound n row) → EndsIn n row
ends_out n row t =
    let (a, u) = (T-both (within 1 n row.first_end) (both (within 1 n row.second_end) (not (eqb row.first_end row.second_end)))).0 t in
    let (b, d) = (T-both (within 1 n row.second_end) (not (eqb row.first_end row.second_end))).0 u in
    let p = within_out 1 n row.first_end a in
    let q = within_out 1 n row.second_end b in
    record {
      first_low = p.0;
      first_high = p.1;
      second_low = q.0;
      second_high = q.1;
      differ = λ e. T_not (eqb row.first_end row.second_end) d (subst (λ (x : ℕ). T (eqb row.first_end x)) e (eqb_refl row.first_end));
    }

-- where each byte names a kind, the kinds are theirs one by one
kinds_are : (bs : List ℕ) → T (all (λ b. is_kind (kind_of b)) bs) → map some (kinds_of bs) ≡ map kind_of bs
unfolding all kinds_of
kinds_are [] t = refl
kinds_are (b ∷ bs) t =
    let (s, rest) = (T-both (is_kind (kind_of b)) (all (λ b. is_kind (kind_of b)) bs)).0 t in
    one (kind_of b) s ∙ ap (λ (l : List (Option Kind)). kind_of b ∷ l) (kinds_are bs rest)
  where
    one : (o : Option Kind) → T (is_kind o) → map some (cons_kind o (kinds_of bs)) ≡ o ∷ map some (kinds_of bs)
    one none s = absurd s
    one (some kind) s = refl

module _ (bs : List ℕ) (t : T (all (λ b. is_kind (kind_of b)) bs)) where
  kinds_length : length (kinds_of bs) ≡ length bs
  kinds_length = sym (length-map (kinds_of bs) some) ∙ ap length (kinds_are bs t) ∙ length-map bs kind_of

  kinds_named : (c : ℕ) → c < length bs → get_elem? (kinds_of bs) c ≡ kind_of (get_or bs c 0)
  kinds_named c h =
      let few : c < length (kinds_of bs) = omega (arith, kinds_length) in
      at_get_or (kinds_of bs) c added few
      ∙ sym (map_at some (kinds_of bs) c added none few)
      ∙ ap (λ (l : List (Option Kind)). get_or l c none) (kinds_are bs t)
      ∙ map_at kind_of bs c 0 none h

-- a row that the network lacks has no costs
pub past_costs : (f : List ℕ) (c r : ℕ) → (sizes_of f).m ≤ r → cost_at (network_of f) c r ≡ 0
past_costs f c r h = ap (λ (row : Row). get_or row.costs c 0) (row_past f r h)

-- a cost that a sound row has, or 0 where it has none
sound_cost : (l : List ℕ) (c : ℕ) → T (all (λ x. leb x 1000000) l) → get_or l c 0 ≤ 1000000
unfolding all
sound_cost [] c t = omega arith
sound_cost (x ∷ l) zero t = leb→le x 1000000 ((T-both (leb x 1000000) (all (λ x. leb x 1000000) l)).0 t).0
sound_cost (x ∷ l) (suc c) t = sound_cost l c ((T-both (leb x 1000000) (all (λ x. leb x 1000000) l)).0 t).1

module _ (f : List ℕ) (h : first_unmet (file_checks f) ≡ none) where
  -- each check is met
  met : (c : Check) → c ∈ file_checks f → T c.met
  met c m = (T_true c.met).1 ((met_all (file_checks f)).0 h c m)

  pub accepted : Accepted f
  unfolding file_checks version_met sizes_met kinds_met ends_met costs_met states_met network_of
  accepted =
      let n = (sizes_of f).n in
      let m = (sizes_of f).m in
      let k = (sizes_of f).k in
      let (in_n, more) = (T-both (within 2 32 n) (both (within 0 256 m) (within 1 4 k))).0 (met (record { number = 3; met = sizes_met f }) (there (there (here refl)))) in
      let (in_m, in_k) = (T-both (within 0 256 m) (within 1 4 k)).0 more in
      let bytes : length (kind_bytes f) ≡ k = length-map (range 0 k) (λ c. byte_at f (9 + c)) ∙ range_length 0 k in
      let kindly = met (record { number = 5; met = kinds_met f }) (there (there (there (there (here refl))))) in
      let ended = met (record { number = 6; met = ends_met f }) (there (there (there (there (there (here refl)))))) in
      let (some_bytes, versions) = (T-both (ltb 0 (length f)) (either (eqb (version f) 1) (eqb (version f) 2))).0 (met (record { number = 1; met = version_met f }) (here refl)) in
      let stated = met (record { number = 14; met = states_met f }) (there (there (there (there (there (there (there (here refl)))))))) in
      let costly = met (record { number = 7; met = costs_met f }) (there (there (there (there (there (there (here refl))))))) in
      record {
        nodes_low = (within_out 2 32 n in_n).0;
        nodes_high = (within_out 2 32 n in_n).1;
        rows_high = (within_out 0 256 m in_m).1;
        criteria_low = (within_out 1 4 k in_k).0;
        criteria_high = (within_out 1 4 k in_k).1;
        long = file_length_lem f (met (record { number = 2; met = length_met f }) (there (here refl))) (met (record { number = 4; met = body_met f }) (there (there (there (here refl)))));
        kinds = kinds_length (kind_bytes f) kindly ∙ bytes;
        named = λ c l. kinds_named (kind_bytes f) kindly c (omega (arith, bytes)) ∙ ap kind_of (get_or_map_range (λ c. byte_at f (9 + c)) k c 0 l);
        rows = rows_length f;
        ends = λ r l. ends_out n (row_in f r) (all_out (ends_sound n) ended (map_in (row_in f) (range_in 0 m r (omega arith) (omega arith))));
        costs = λ c r. elim (dec_lt r m) [
          | yes l ↦ rw (row_in_lem f r l) (sound_cost (row_in f r).costs c (all_out costs_sound costly (map_in (row_in f) (range_in 0 m r (omega arith) (omega arith)))))
          | no l ↦ omega (arith, past_costs f c r (omega arith))
        ];
        known = ⊎_elim (λ t. inl (eqb→eq (version f) 1 t)) (λ t. inr (eqb→eq (version f) 2 t)) ((T-either (eqb (version f) 1) (eqb (version f) 2)).0 versions);
        states = λ r l. all_out (λ r. is_state (state_of (state_byte f r))) stated (range_in 0 m r (omega arith) (omega arith));
      }

-- The longest accepted file has 5,389 bytes.
pub longest : (f : List ℕ) → Accepted f → length f ≤ 5389
longest f a =
    let narrow : row_bytes f ≤ 21 = omega (arith, a.criteria_high, state_width_lem f) in
    let body : (sizes_of f).m * row_bytes f ≤ 256 * 21 = mul-le-mul a.rows_high narrow in
    omega (arith, a.long, a.criteria_high)

-- The network file, and Open (document 01, and document 02 #102 for version 2 with a state for each row). A byte past the end of the file reads as 0: the checks before it keep that out.
use Rattle.std.specs.Prelude.{Bool, ◌&&◌, ◌||◌, false, not, true, List, [], ◌∷◌, map, ◌*◌, ◌+◌, ◌-◌, ℕ, eqb, leb, ltb, get_or, length}
use Rattle.std.proofs.Math.Option.{Option, none, some}
use Rattle.lists.specs.Lists.{all, pick, range}
use Rattle.checks.specs.Checks.{Check, Outcome, checked}
use Rattle.costs.specs.Network.{Kind, Network, Row, State, added, barred, closing, must, «open», worst}

-- Numbers of one, two and four bytes, big-endian

abbrev pub byte_at : List ℕ → ℕ → ℕ
byte_at f at = get_or f at 0

unfoldable pub u16_at : List ℕ → ℕ → ℕ
u16_at f at = byte_at f at * 256 + byte_at f (at + 1)

unfoldable pub u32_at : List ℕ → ℕ → ℕ
unfolding u16_at
u32_at f at = u16_at f at * 65536 + u16_at f (at + 2)

-- What stands where

abbrev pub version : List ℕ → ℕ
version f = byte_at f 0

-- how many bytes follow the version and these four
abbrev pub length_field : List ℕ → ℕ
length_field f = u32_at f 1

-- the nodes n, the rows m and the criteria k
pub record Sizes : Type 0 where
  pub n : ℕ
  pub m : ℕ
  pub k : ℕ

abbrev pub sizes_of : List ℕ → Sizes
sizes_of f = record { n = byte_at f 5; m = u16_at f 6; k = byte_at f 8 }

-- the kind that a byte names; above 2 there is none
unfoldable pub kind_of : ℕ → Option Kind
kind_of b = pick (eqb b 0) (some added) (pick (eqb b 1) (some worst) (pick (eqb b 2) (some closing) none))

abbrev pub is_kind : Option Kind → Bool
is_kind none = false
is_kind (some kind) = true

abbrev pub cons_kind : Option Kind → List Kind → List Kind
cons_kind none kinds = kinds
cons_kind (some kind) kinds = kind ∷ kinds

unfoldable pub kind_bytes : List ℕ → List ℕ
unfolding range
kind_bytes f = map (λ c. byte_at f (9 + c)) (range 0 (sizes_of f).k)

-- the kinds that the bytes name; asked only after check 5, where each byte names one
unfoldable pub kinds_of : List ℕ → List Kind
unfolding kind_of
kinds_of [] = []
kinds_of (b ∷ bs) = cons_kind (kind_of b) (kinds_of bs)

-- the bytes of a row's state: one in version 2, none in version 1
unfoldable pub state_width : List ℕ → ℕ
state_width f = pick (eqb (version f) 2) 1 0

-- the bytes of a row, and where row r begins
abbrev pub row_bytes : List ℕ → ℕ
row_bytes f = 4 + state_width f + 4 * (sizes_of f).k

abbrev pub row_start : List ℕ → ℕ → ℕ
row_start f r = 9 + (sizes_of f).k + r * row_bytes f

-- the state that a byte names; above 2 there is none
unfoldable pub state_of : ℕ → Option State
state_of b = pick (eqb b 0) (some «open») (pick (eqb b 1) (some must) (pick (eqb b 2) (some barred) none))

abbrev pub is_state : Option State → Bool
is_state none = false
is_state (some state) = true

-- asked only after check 14, where the byte names a state
abbrev pub state_or : Option State → State
state_or none = «open»
state_or (some state) = state

-- the state byte of row r; a row of version 1 is open
unfoldable pub state_byte : List ℕ → ℕ → ℕ
state_byte f r = pick (eqb (version f) 2) (byte_at f (row_start f r + 4)) 0

unfoldable pub row_in : List ℕ → ℕ → Row
unfolding range u16_at u32_at state_width state_of state_byte
row_in f r = record {
  first_end = byte_at f (row_start f r);
  second_end = byte_at f (row_start f r + 1);
  street = u16_at f (row_start f r + 2);
  state = state_or (state_of (state_byte f r));
  costs = map (λ c. u32_at f (row_start f r + 4 + state_width f + 4 * c)) (range 0 (sizes_of f).k);
}

-- The network of a file.
unfoldable pub network_of : List ℕ → Network
unfolding range u16_at kind_bytes kinds_of row_in
network_of f = record {
  node_count = (sizes_of f).n;
  kinds = kinds_of (kind_bytes f);
  rows = map (row_in f) (range 0 (sizes_of f).m);
}

-- The checks, each over the whole file

abbrev pub within : ℕ → ℕ → ℕ → Bool
within low high x = leb low x && leb x high

unfoldable pub version_met : List ℕ → Bool
version_met f = ltb 0 (length f) && (eqb (version f) 1 || eqb (version f) 2)

unfoldable pub length_met : List ℕ → Bool
unfolding u32_at
length_met f = leb 9 (length f) && eqb (length_field f) (length f - 5)

abbrev pub sizes_sound : Sizes → Bool
sizes_sound s = within 2 32 s.n && (within 0 256 s.m && within 1 4 s.k)

unfoldable pub sizes_met : List ℕ → Bool
unfolding u16_at
sizes_met f = sizes_sound (sizes_of f)

unfoldable pub body_met : List ℕ → Bool
unfolding u16_at u32_at state_width
body_met f = eqb (length_field f) (4 + (sizes_of f).k + (sizes_of f).m * row_bytes f)

unfoldable pub kinds_met : List ℕ → Bool
unfolding all kind_of kind_bytes
kinds_met f = all (λ b. is_kind (kind_of b)) (kind_bytes f)

-- both ends are nodes, and they differ
abbrev pub ends_sound : ℕ → Row → Bool
ends_sound n row = within 1 n row.first_end && (within 1 n row.second_end && not (eqb row.first_end row.second_end))

unfoldable pub ends_met : List ℕ → Bool
unfolding all network_of
ends_met f = all (ends_sound (sizes_of f).n) (network_of f).rows

abbrev pub costs_sound : Row → Bool
costs_sound row = all (λ x. leb x 1000000) row.costs

unfoldable pub costs_met : List ℕ → Bool
unfolding all network_of
costs_met f = all costs_sound (network_of f).rows

unfoldable pub states_met : List ℕ → Bool
unfolding all range state_of state_byte
states_met f = all (λ r. is_state (state_of (state_byte f r))) (range 0 (sizes_of f).m)

unfoldable pub file_checks : List ℕ → List Check
unfolding version_met length_met sizes_met body_met kinds_met ends_met costs_met states_met
file_checks f =
    record { number = 1; met = version_met f }
    ∷ record { number = 2; met = length_met f }
    ∷ record { number = 3; met = sizes_met f }
    ∷ record { number = 4; met = body_met f }
    ∷ record { number = 5; met = kinds_met f }
    ∷ record { number = 6; met = ends_met f }
    ∷ record { number = 7; met = costs_met f }
    ∷ record { number = 14; met = states_met f }
    ∷ []

-- Open.
unfoldable pub open_of : List ℕ → Outcome Sizes
unfolding checked file_checks
open_of f = checked (file_checks f) (sizes_of f)

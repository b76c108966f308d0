-- What a tree that keeps the rows' states is: row by row (`from_out`, `from_in_lem`), and for a network as `keeps_states` has it (`keeps_states_lem`, `layouts_kept`).
use mathlib.Core.Path.{◌∙◌, ◌≡◌, ap, fun_ext, subst, sym}
use mathlib.Core.Bool.{Bool}
use mathlib.Core.List.{List, [], ◌∷◌}
use Prim.Native.Nat.{◌+◌, ◌<◌, suc, zero, ℕ}
use native.Mathlib.Decide.{dec_lt}
use native.Mathlib.Nat.{zero-add}
use native.Mathlib.Omega.{arith}
use lib.Dec.{T, T_not, not_T}
use lib.ListN.{get_or-eq_default, get_or-map, length, length-map}
use Rattle.lists.specs.Lists.{filter_b, member}
use Rattle.lists.proofs.Members.{◌∈◌, filter_in, member_in, member_out, range_out}
use Rattle.lists.proofs.Tests.{T-both, T-same}
use Rattle.graph.specs.Paths.{trees}
use Rattle.graph.proofs.Minimal.{row_numbers_in}
use Rattle.costs.specs.Layouts.{is_barred, is_must, keeps_states, layouts, must_at}
use Rattle.costs.specs.Network.{Network, Row, State, barred, graph_of, must, no_row, «open», row_at}
use Rattle.costs.proofs.Layouts.{keeps_in, keeps_out, must_out, row_count}
use Rattle.counts.specs.States.{keeps_from, keeps_row, state_at, states_of}

pub from_out : (r : ℕ) (ss : List State) (p : List ℕ) → T (keeps_from r ss p) → (i : ℕ) → i < length ss → T (keeps_row (state_at ss i) (r + i) p)
unfolding keeps_from
from_out r [] p t i l = absurd (omega arith)
from_out r (s ∷ ss) p t zero l =
    let e : r ≡ r + 0 = omega arith in subst (λ (x : ℕ). T (keeps_row s x p)) e ((T-both (keeps_row s r p) (keeps_from (suc r) ss p)).0 t).0
from_out r (s ∷ ss) p t (suc i) l =
    let e : suc r + i ≡ r + suc i = omega arith in
    subst (λ (x : ℕ). T (keeps_row (state_at ss i) x p)) e (from_out (suc r) ss p ((T-both (keeps_row s r p) (keeps_from (suc r) ss p)).0 t).1 i (omega arith))

pub from_in_lem : (r : ℕ) (ss : List State) (p : List ℕ) → ((i : ℕ) → i < length ss → T (keeps_row (state_at ss i) (r + i) p)) → T (keeps_from r ss p)
unfolding keeps_from
from_in_lem r [] p h = tt
from_in_lem r (s ∷ ss) p h = (T-both (keeps_row s r p) (keeps_from (suc r) ss p)).1 (
  let e : r + 0 ≡ r = omega arith in subst (λ (x : ℕ). T (keeps_row s x p)) e (h 0 (omega arith)),
  from_in_lem (suc r) ss p (λ i l. let e : r + suc i ≡ suc r + i = omega arith in subst (λ (x : ℕ). T (keeps_row (state_at ss i) x p)) e (h (suc i) (omega arith))),
)

-- a row's state, and what it asks
row_in_lem : (s : State) (r : ℕ) (p : List ℕ) → (T (is_must s) → r ∈ p) → (T (is_barred s) → ¬ (r ∈ p)) → T (keeps_row s r p)
row_in_lem «open» r p a b = tt
row_in_lem must r p a b = member_in (a tt)
row_in_lem barred r p a b = not_T (member r p) (λ t. b tt (member_out r p t))

row_must : (s : State) (r : ℕ) (p : List ℕ) → T (is_must s) → T (keeps_row s r p) → r ∈ p
row_must «open» r p m t = absurd m
row_must must r p m t = member_out r p t
row_must barred r p m t = absurd m

row_barred : (s : State) (r : ℕ) (p : List ℕ) → T (is_barred s) → T (keeps_row s r p) → ¬ (r ∈ p)
row_barred «open» r p m t i = m
row_barred must r p m t i = m
row_barred barred r p m t i = T_not (member r p) t (member_in i)

module _ (w : Network) (p : List ℕ) where
  abbrev ss : List State
  ss = states_of w

  long : length ss ≡ length (graph_of w).first_ends
  long = length-map w.rows (λ (row : Row). row.state) ∙ sym (row_count w)

  -- a row's state in the list is its own
  pub state_of_lem : (r : ℕ) → state_at ss r ≡ (row_at w r).state
  state_of_lem r = get_or-map (λ (row : Row). row.state) w.rows r no_row

  kept : T (keeps_from 0 ss p) → (r : ℕ) → r < length ss → T (keeps_row (row_at w r).state r p)
  kept t r l = subst (λ (s : State). T (keeps_row s r p)) (state_of_lem r) (subst (λ (x : ℕ). T (keeps_row (state_at ss r) x p)) (zero-add r) (from_out 0 ss p t r l))

  past : (r : ℕ) → ¬ (r < length ss) → ¬ T (is_barred (state_at ss r))
  past r n t = subst (λ (s : State). T (is_barred s)) (get_or-eq_default ss «open» {n = r} (omega arith)) t

  -- BOTH SAY THE SAME
  pub keeps_states_lem : keeps_from 0 ss p ≡ keeps_states w p
  keeps_states_lem = T-same (keeps_from 0 ss p) (keeps_states w p)
      (λ t. keeps_in w p
      (λ r i. let (j, m) = must_out w r i in
      let l = range_out 0 (length (graph_of w).first_ends) j in
      row_must (row_at w r).state r p m (kept t r (omega (arith, long))))
      (λ r i b. elim (dec_lt r (length ss)) [
        | yes l ↦ row_barred (row_at w r).state r p b (kept t r l) i
        | no n ↦ past r n (subst (λ (s : State). T (is_barred s)) (sym (state_of_lem r)) b)
      ]))
      (λ t.
      let (a, b) = keeps_out w p t in
      from_in_lem 0 ss p (λ i l. subst (λ (x : ℕ). T (keeps_row (state_at ss i) x p)) (sym (zero-add i)) (subst (λ (s : State). T (keeps_row s i p)) (sym (state_of_lem i))
      (row_in_lem (row_at w i).state i p (λ m. a i (filter_in (must_at w) (row_numbers_in (graph_of w) i (omega (arith, long))) m)) (λ m j. b i j m)))))

-- so the trees that keep the states row by row are the network's own
pub layouts_kept : (w : Network) → filter_b (keeps_from 0 (states_of w)) (trees (graph_of w)) ≡ layouts w
layouts_kept w = ap (λ (t : List ℕ → Bool). filter_b t (trees (graph_of w))) (fun_ext (λ p. keeps_states_lem w p))

-- Entering in a half, in the shapes in which the parts are lent: the first half up to the middle (`first_noted`), the second from there on (`second_noted`).
-- Of tables of exactly 2 × h rows it is the rest of the call behind check 11 (`half_noted`).
use mathlib.Core.Path.{◌∙◌, ◌≡◌, ap, ap₂, sym}
use mathlib.Core.Bool.{Bool, false, not, true}
use mathlib.Core.List.{List, [], ◌++◌, ◌∷◌, append-nil}
use Prim.Native.Nat.{◌*◌, ◌-◌, ◌/◌, ◌<◌, min, ℕ}
use native.Mathlib.Decide.{dec_le}
use native.Mathlib.Nat.{mul_comm, mul-div_cancel, mul-le-mul_right}
use native.Mathlib.Omega.{arith}
use lib.Dec.{leb, ltb}
use lib.ListN.{drop, drop_of_length-le, length, length-drop, take}
use lib.Seq.{take_all}
use borrow.Author.Tests.{le-leb, le-ltb, lt-leb, lt-ltb, ne_eqb}
use Rattle.lists.specs.Lists.{pick}
use Rattle.checks.specs.Checks.{Ended, Outcome, answered, ended, first_unmet}
use Rattle.checks.proofs.Checks.{first_unmet_met, first_unmet_unmet}
use Rattle.checks.proofs.Ended.{ended_met, ended_unmet}
use Rattle.tables.specs.Tables as tables
use Rattle.pages.specs.Pages.{capacity}
use Rattle.table.specs.Enter.{EnterEnd, Row, costs_over, enter_call, entered, full, met, witnesses_over}
use Rattle.table.proofs.Filled.{filled_length, over_whole, path_of, paths_are, vector_of, vectors_are}
use Rattle.operations.specs.Operations.{FrontTables, check}
use Rattle.offices.specs.Offices.{Counts, Half, Noted, count_of, filled_in, fits_in, half_of, note_of, part_of, rows_after, with_part, written}
use Rattle.offices.proofs.Calls.{Good, count_few}
use Rattle.offices.proofs.Parts.{part_back, part_long}
use Rattle.office.specs.Answers.{note_by, note_call}

-- As the code lends the parts, and gets them back

module _ (office : ℕ) (counts : Counts) (lent : FrontTables) (v p : List ℕ) (end : EnterEnd) (outcome : Outcome Noted) where
  abbrev a : ℕ
  a = length lent.costs / 2

  abbrev b : ℕ
  b = length lent.witnesses / 2

  pub first_noted : office ≡ 1 → end ≡ enter_call (take a lent.costs) (take b lent.witnesses) counts.first v p → outcome ≡ note_by end.answer counts.first
      → record { outcome = outcome; buffers = record { costs = end.costs ++ drop a lent.costs; witnesses = end.witnesses ++ drop b lent.witnesses } }
      ≡ note_call office counts lent (record { vector = v; path = p })
  unfolding note_call
  first_noted q is said = rw (said, is, q)

  -- nothing stands behind the second half
  behind : (t : List ℕ) (n : ℕ) → drop (length t - n) (drop n t) ≡ []
  behind t n = drop_of_length-le (drop n t) {i = length t - n} (simp length-drop (omega arith))

  whole : (t : List ℕ) (n : ℕ) → take (length t - n) (drop n t) ≡ drop n t
  whole t n = take_all (length t - n) (drop n t) (simp length-drop (omega arith))

  pub second_noted : ¬ (office ≡ 1)
      → end ≡ enter_call (take (length lent.costs - a) (drop a lent.costs)) (take (length lent.witnesses - b) (drop b lent.witnesses)) counts.second v p
      → outcome ≡ note_by end.answer counts.second
      → record {
        outcome = outcome;
        buffers = record {
          costs = take a lent.costs ++ (end.costs ++ drop (length lent.costs - a) (drop a lent.costs));
          witnesses = take b lent.witnesses ++ (end.witnesses ++ drop (length lent.witnesses - b) (drop b lent.witnesses));
        };
      } ≡ note_call office counts lent (record { vector = v; path = p })
  unfolding note_call
  second_noted n is said =
      rw (said, behind lent.costs a, behind lent.witnesses b, append-nil end.costs, append-nil end.witnesses, is)
      (rw (whole lent.costs a, whole lent.witnesses b, ne_eqb office 1 n))

-- Of tables of exactly 2 × h rows

-- the call behind check 11, of rows so wide
abbrev pub rest_of : ℕ → Half → Counts → FrontTables → ℕ → ℕ → Row → Ended Noted FrontTables
rest_of h x counts lent k w e =
    let rows = filled_in k w h x counts lent in
    ended (check 24 (fits_in h rows e) ∷ []) (note_of rows e) lent (written k w h x (rows_after rows e) lent)

half_is : (t : List ℕ) (size : ℕ) → length t ≡ 2 * size → length t / 2 ≡ size
half_is t size e = ap (λ (n : ℕ). n / 2) (e ∙ mul_comm 2 size) ∙ mul-div_cancel size {n = 2} (omega arith)

module _ (h : ℕ) (counts : Counts) (lent : FrontTables) (v p : List ℕ) (some_costs : 0 < length v) (some_rows : 0 < length p)
    (g : Good (length v) (length p) h counts lent) where
  abbrev k : ℕ
  k = length v

  abbrev w : ℕ
  w = length p

  abbrev e : Row
  e = record { vector = v; path = p }

  module _ (x : Half) where
    abbrev costs : List ℕ
    costs = part_of x (h * k) lent.costs

    abbrev witnesses : List ℕ
    witnesses = part_of x (h * w) lent.witnesses

    abbrev count : ℕ
    count = count_of x counts

    abbrev rows : List Row
    rows = filled_in k w h x counts lent

    abbrev new : List Row
    new = tables.replaced vector_of rows e

    costs_long : length costs ≡ h * k
    costs_long = part_long (h * k) lent.costs g.costs x

    witnesses_long : length witnesses ≡ h * w
    witnesses_long = part_long (h * w) lent.witnesses g.witnesses x

    -- the half has h rows
    room_is : capacity k w costs witnesses ≡ h
    unfolding capacity
    room_is =
        ap₂ {C = ℕ} (λ x y. min (x / k) (y / w)) costs_long witnesses_long
        ∙ ap₂ min (mul-div_cancel h {n = k} some_costs) (mul-div_cancel h {n = w} some_rows) ∙ omega arith

    -- rows that stand there already change nothing
    same_rows_lem : written k w h x rows lent ≡ lent
    same_rows_lem =
        let few = count_few g x in
        let of_costs : costs_over rows costs ≡ costs =
        over_whole vector_of k rows count costs (omega (arith, costs_long, mul-le-mul_right {m = count} {n = h} k few)) (vectors_are k w costs witnesses count) in
        let of_witnesses : witnesses_over rows witnesses ≡ witnesses =
        over_whole path_of w rows count witnesses (omega (arith, witnesses_long, mul-le-mul_right {m = count} {n = h} w few)) (paths_are k w costs witnesses count) in
        rw (of_costs, of_witnesses, part_back (h * k) lent.costs x, part_back (h * w) lent.witnesses x)

    -- entering goes by whether a row meets the vector, and by the rows there would be
    abbrev end_by : Bool → Bool → EnterEnd
    end_by b over =
        pick b (record { answer = met; costs = costs; witnesses = witnesses })
        (pick over (record { answer = full; costs = costs; witnesses = witnesses })
        (record { answer = entered (length new); costs = costs_over new costs; witnesses = witnesses_over new witnesses }))

    end_is : enter_call costs witnesses count v p ≡ end_by (tables.met vector_of rows e) (ltb h (length new))
    unfolding enter_call
    end_is = simp (ne_eqb (length v) 0 (λ e. omega arith), ne_eqb (length p) 0 (λ e. omega arith), room_is, le-ltb h count (count_few g x))

    -- the call by what entering came to, and by the same tests
    abbrev call_by : EnterEnd → Ended Noted FrontTables
    call_by end = record {
      outcome = note_by end.answer count;
      buffers = record { costs = with_part x (h * k) end.costs lent.costs; witnesses = with_part x (h * w) end.witnesses lent.witnesses };
    }

    abbrev rest_by : Bool → Ended Noted FrontTables
    rest_by b =
        ended (check 24 (leb (length (pick b rows new)) h) ∷ []) (record { entered = not b; count = length (pick b rows new) })
        lent (written k w h x (pick b rows new) lent)

    kept : call_by (record { answer = met; costs = costs; witnesses = witnesses }) ≡ record { outcome = answered (record { entered = false; count = count }); buffers = lent }
    kept = rw (part_back (h * k) lent.costs x, part_back (h * w) lent.witnesses x)

    by_tests : (b : Bool) → call_by (end_by b (ltb h (length new))) ≡ rest_by b
    unfolding first_unmet
    by_tests true =
        let filled = filled_length k w costs witnesses count in
        let fits = le-leb (length rows) h (omega (arith, filled, count_few g x)) in
        kept ∙ sym (ended_met (check 24 (leb (length rows) h) ∷ []) _ lent _ (first_unmet_met (check 24 (leb (length rows) h)) [] fits) ∙ (rw (same_rows_lem, filled)))
    by_tests false = elim (dec_le (length new) h) [
      | yes l ↦ rw (le-ltb h (length new) l)
          (sym (ended_met (check 24 (leb (length new) h) ∷ []) _ lent _ (first_unmet_met (check 24 (leb (length new) h)) [] (le-leb (length new) h l))))
      | no n ↦ rw (lt-ltb h (length new) (omega arith), part_back (h * k) lent.costs x, part_back (h * w) lent.witnesses x)
          (sym (ended_unmet (check 24 (leb (length new) h) ∷ []) _ lent _ 24 (first_unmet_unmet (check 24 (leb (length new) h)) [] (lt-leb (length new) h (omega arith)))))
    ]

    by_half : call_by (enter_call costs witnesses count v p) ≡ rest_by (tables.met vector_of rows e)
    by_half = ap call_by end_is ∙ by_tests (tables.met vector_of rows e)

  pub half_noted : (office : ℕ) → note_call office counts lent e ≡ rest_of h (half_of office) counts lent k w e
  unfolding note_call
  half_noted office = rw (half_is lent.costs (h * k) g.costs, half_is lent.witnesses (h * w) g.witnesses) (by_half (half_of office))

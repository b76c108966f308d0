-- The claim over any sequence of entries from an empty table (`offices`): an office's answers and its filled rows are those of its own entries by
-- themselves, from the network and h alone; its rows are the undominated vectors of its accepted entries, ascending, each with the first entered tree.
use mathlib.Core.Path.{◌∙◌, ◌≡◌, ap, ap₂, refl, subst, sym}
use mathlib.Core.Logic.{⊎_elim}
use mathlib.Core.Bool.{Bool}
use mathlib.Core.Option.{Option, none, some}
use mathlib.Core.List.Memᴰ.{cases_cons as mem_cases}
use mathlib.Core.List.Memᴰ.{not-nil as mem_nil}
use mathlib.Core.List.{List, [], ◌∷◌, map}
use Prim.Native.Nat.{◌*◌, ◌<◌, ℕ}
use native.Mathlib.Decide.{ℕ_discrete}
use native.Mathlib.Omega.{arith}
use lib.Dec.{eqb, eqb→eq}
use lib.ListN.{length}
use Rattle.lists.specs.Lists.{filter_b}
use Rattle.lists.proofs.Members.{filter_keep, filter_skip}
use Rattle.lists.proofs.Tests.{eq→eqb}
use Rattle.checks.specs.Checks.{Ended, Outcome, answered, buffers_by, checked, ended, first_unmet, outcome_by, refused}
use Rattle.graph.specs.Graph.{width}
use Rattle.costs.specs.Costs.{cost_of}
use Rattle.costs.specs.Network.{Network}
use Rattle.costs.proofs.Fronts.{Sized}
use Rattle.costs.proofs.Networks.{cost_length}
use Rattle.tables.specs.Tables.{enter_all}
use Rattle.tables.proofs.Witness.{enter_all_witnessed}
use Rattle.pages.specs.Pages.{pieces}
use Rattle.table.specs.Enter.{Row, beside, filled}
use Rattle.table.proofs.Filled.{vector_of}
use Rattle.network_file.specs.File.{file_checks, network_of, sizes_of}
use Rattle.operations.specs.Operations.{FrontTables, graph_in}
use Rattle.offices.specs.Offices.{Counts, Half, Noted, entry_of, first_half, half_of, half_rows, note_of, office_call, rows_after, second_half}
use Rattle.offices.specs.Sequences.{Entry, Holds, OfficeClaim, Reply, accepted_of, counts_after, drawn_by, office_of, other, outcomes_of, own, own_call, own_checks, own_from, ran, ran_from}
use Rattle.offices.proofs.Calls.{Good, Stepped, half_office, step, stranger}

-- An office's part of a sequence

-- those that bear a number, of which the first does or does not
module _ {A B : Type 0} (numbered : A → ℕ) (f : A → B) (n : ℕ) (a : A) (l : List A) where
  abbrev bears : A → Bool
  bears a = eqb (numbered a) n

  part_mine : numbered a ≡ n → map f (filter_b bears (a ∷ l)) ≡ f a ∷ map f (filter_b bears l)
  part_mine q = ap (map f) (filter_keep bears a l (eq→eqb (numbered a) n q))

  part_not : ¬ (numbered a ≡ n) → map f (filter_b bears (a ∷ l)) ≡ map f (filter_b bears l)
  part_not q = ap (map f) (filter_skip bears a l (λ t. q (eqb→eq (numbered a) n t)))

other_other : (x : Half) → other (other x) ≡ x
other_other first_half = refl
other_other second_half = refl

neither : (x : Half) (office : ℕ) → ¬ (office ≡ office_of x) → ¬ (office ≡ office_of (other x)) → (¬ (office ≡ 1)) × (¬ (office ≡ 2))
neither first_half office a b = (a, b)
neither second_half office a b = (b, a)

module _ (f : List ℕ) (ok : first_unmet (file_checks f) ≡ none) (h : ℕ) (pos : 0 < h) (x : Half) where
  abbrev n : ℕ
  n = office_of x

  abbrev w : Network
  w = network_of f

  abbrev Sound : Counts → FrontTables → Type 0
  Sound counts lent = Good (sizes_of f).k (width (graph_in f)) h counts lent

  -- what the calls of the sequence came to for the office, and its filled rows at the end, by its own entries
  record Apart (counts : Counts) (lent : FrontTables) (es : List Entry) : Type 0 where
    outcomes : outcomes_of n (ran_from f h counts lent es).replies ≡ (own_from w h (half_rows f h x counts lent) (drawn_by n es)).outcomes
    rows : half_rows f h x (ran_from f h counts lent es).counts (ran_from f h counts lent es).lent ≡ (own_from w h (half_rows f h x counts lent) (drawn_by n es)).rows

  -- one call
  module _ (counts : Counts) (lent : FrontTables) (e : Entry) (es : List Entry) where
    abbrev call : Ended Noted FrontTables
    call = office_call f e.drawn e.office h counts lent

    abbrev next : Counts
    next = counts_after (half_of e.office) call.outcome counts

    abbrev called : Reply
    called = record { office = e.office; outcome = call.outcome }

    abbrev later : List Reply
    later = (ran_from f h next call.buffers es).replies

    -- of the office with half y
    stepped : Sound counts lent → (y : Half) → e.office ≡ office_of y
        → (next ≡ counts_after y call.outcome counts) × Stepped (sizes_of f).k (width (graph_in f)) h y counts lent call (own_call w h (half_rows f h y counts lent) e.drawn)
    stepped g y q = (
      ap (λ (y : Half). counts_after y call.outcome counts) (ap half_of q ∙ half_office y),
      subst (λ (o : ℕ). Stepped (sizes_of f).k (width (graph_in f)) h y counts lent (office_call f e.drawn o h counts lent) (own_call w h (half_rows f h y counts lent) e.drawn))
          (sym q) (step f ok h pos e.drawn counts lent g y),
    )

    -- the office's own
    mine : e.office ≡ n → half_rows f h x next call.buffers ≡ (own_call w h (half_rows f h x counts lent) e.drawn).buffers
        → call.outcome ≡ (own_call w h (half_rows f h x counts lent) e.drawn).outcome → Apart next call.buffers es → Apart counts lent (e ∷ es)
    unfolding ran_from own_from
    mine q same outcome rest = record {
      outcomes = part_mine (λ c. c.office) (λ c. c.outcome) n called later q
          ∙ ap₂ {C = List (Outcome Noted)} (λ o os. o ∷ os) outcome (rest.outcomes ∙ ap (λ (r : List Row). (own_from w h r (drawn_by n es)).outcomes) same)
          ∙ sym (ap (λ (ds : List (List ℕ)). (own_from w h (half_rows f h x counts lent) ds).outcomes) (part_mine (λ e. e.office) (λ e. e.drawn) n e es q));
      rows = rest.rows ∙ ap (λ (r : List Row). (own_from w h r (drawn_by n es)).rows) same
          ∙ sym (ap (λ (ds : List (List ℕ)). (own_from w h (half_rows f h x counts lent) ds).rows) (part_mine (λ e. e.office) (λ e. e.drawn) n e es q));
    }

    -- one of another leaves the half as it was
    left : ¬ (e.office ≡ n) → half_rows f h x next call.buffers ≡ half_rows f h x counts lent → Apart next call.buffers es → Apart counts lent (e ∷ es)
    unfolding ran_from
    left a same rest = record {
      outcomes = part_not (λ c. c.office) (λ c. c.outcome) n called later a
          ∙ rest.outcomes ∙ ap (λ (r : List Row). (own_from w h r (drawn_by n es)).outcomes) same
          ∙ sym (ap (λ (ds : List (List ℕ)). (own_from w h (half_rows f h x counts lent) ds).outcomes) (part_not (λ e. e.office) (λ e. e.drawn) n e es a));
      rows = rest.rows ∙ ap (λ (r : List Row). (own_from w h r (drawn_by n es)).rows) same
          ∙ sym (ap (λ (ds : List (List ℕ)). (own_from w h (half_rows f h x counts lent) ds).rows) (part_not (λ e. e.office) (λ e. e.drawn) n e es a));
    }

  apart : (es : List Entry) (counts : Counts) (lent : FrontTables) → Sound counts lent → Apart counts lent es
  unfolding ran_from own_from filter_b
  apart [] counts lent g = record { outcomes = refl; rows = refl }
  apart (e ∷ es) counts lent g = elim (ℕ_discrete e.office n) [
    | yes q ↦
        let (counted, s) = stepped counts lent e es g x q in
        mine counts lent e es q (rw counted s.rows) s.outcome (apart es _ _ (rw counted s.good))
    | no a ↦ elim (ℕ_discrete e.office (office_of (other x))) [
      | yes q ↦
          let (counted, s) = stepped counts lent e es g (other x) q in
          left counts lent e es a (rw counted (rw (other_other x) at s.other_rows)) (apart es _ _ (rw counted s.good))
      | no b ↦
          let (n1, n2) = neither x e.office a b in
          let (code, is) = stranger f h e.drawn e.office counts lent n1 n2 in
          left counts lent e es a (rw is) (apart es _ _ (rw is g))
    ]
  ]

-- An office by itself: its rows are those of its accepted entries, entered one after the other

module _ (w : Network) (h : ℕ) where
  own_entered : (ds : List (List ℕ)) (rows : List Row) → (own_from w h rows ds).rows ≡ enter_all vector_of rows (accepted_of w ds (own_from w h rows ds).outcomes)
  unfolding own_from accepted_of own_call ended checked
  own_entered [] rows = refl
  own_entered (d ∷ ds) rows = one (first_unmet (own_checks w h rows d)) (own_entered ds)
    where
      e : Row
      e = entry_of w d

      after : Option ℕ → List Row
      after o = buffers_by o rows (rows_after rows e)

      one : (o : Option ℕ) → ((r : List Row) → (own_from w h r ds).rows ≡ enter_all vector_of r (accepted_of w ds (own_from w h r ds).outcomes))
          → (own_from w h (after o) ds).rows ≡ enter_all vector_of rows (accepted_of w (d ∷ ds) (outcome_by o (note_of rows e) ∷ (own_from w h (after o) ds).outcomes))
      one none rest = rest (rows_after rows e)
      one (some code) rest = rest rows

  accepted_sized : (ds : List (List ℕ)) (os : List (Outcome Noted)) → Sized (length w.kinds) (map vector_of (accepted_of w ds os))
  unfolding accepted_of entry_of
  accepted_sized [] os v m = absurd (mem_nil m)
  accepted_sized (d ∷ ds) [] v m = absurd (mem_nil m)
  accepted_sized (d ∷ ds) (refused e ∷ os) v m = accepted_sized ds os v m
  accepted_sized (d ∷ ds) (answered a ∷ os) v m = ⊎_elim
      (λ (q : v ≡ cost_of w d). ap length q ∙ cost_length w d)
      (accepted_sized ds os v) (mem_cases m)

  own_holds : (ds : List (List ℕ)) → Holds (accepted_of w ds (own w h ds).outcomes) (own w h ds).rows
  own_holds ds =
      let (vectors, first) = enter_all_witnessed vector_of (length w.kinds) (accepted_of w ds (own w h ds).outcomes) (accepted_sized ds (own w h ds).outcomes) in
      rw (own_entered ds []) (record { vectors = vectors; first_tree = first })

-- nothing is filled at first
empty : Counts
empty = record { first = 0; second = 0 }

nothing : (f : List ℕ) (h : ℕ) (lent : FrontTables) (x : Half) → half_rows f h x empty lent ≡ []
unfolding empty filled beside pieces
nothing f h lent first_half = refl
nothing f h lent second_half = refl

-- OFFICES: a file that passes, and tables of exactly 2 × h rows
pub offices : (f : List ℕ) → first_unmet (file_checks f) ≡ none → (h : ℕ) (lent : FrontTables) → 0 < h → length lent.costs ≡ 2 * (h * (sizes_of f).k)
    → length lent.witnesses ≡ 2 * (h * width (graph_in f)) → (es : List Entry) (x : Half) → OfficeClaim f h lent es x
unfolding empty
offices f ok h lent pos costs witnesses es x = record { answers = answers; rows = rows; holds = rw (answers, rows) (own_holds (network_of f) h (drawn_by (office_of x) es)) }
  where
    a : Apart f ok h pos x empty lent es
    a = apart f ok h pos x es empty lent (record { first = omega arith; second = omega arith; costs = costs; witnesses = witnesses })

    answers : outcomes_of (office_of x) (ran f h lent es).replies ≡ (own (network_of f) h (drawn_by (office_of x) es)).outcomes
    answers = a.outcomes ∙ ap (λ (r : List Row). (own_from (network_of f) h r (drawn_by (office_of x) es)).outcomes) (nothing f h lent x)

    rows : half_rows f h x (ran f h lent es).counts (ran f h lent es).lent ≡ (own (network_of f) h (drawn_by (office_of x) es)).rows
    rows = a.rows ∙ ap (λ (r : List Row). (own_from (network_of f) h r (drawn_by (office_of x) es)).rows) (nothing f h lent x)

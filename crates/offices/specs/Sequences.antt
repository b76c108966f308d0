-- A sequence of entries over one network and one h, each call handed the tables and both filled counts as the last left them; what an office's entries come
-- to by themselves, from the network, h and its own entries alone; and what is shown of it (`OfficeClaim`).
use Rattle.std.specs.Prelude.{◌≡◌, List, [], ◌++◌, ◌∷◌, map, ℕ, eqb}
use Rattle.lists.specs.Lists.{filter_b}
use Rattle.checks.specs.Checks.{Check, Ended, Outcome, answered, ended, refused}
use Rattle.costs.specs.Costs.{front_of}
use Rattle.costs.specs.Network.{Network}
use Rattle.tables.proofs.Witness.{Firsts}
use Rattle.table.specs.Enter.{Row}
use Rattle.network_file.specs.File.{network_of}
use Rattle.operations.specs.Operations.{FrontTables, check, drawn_checks}
use Rattle.offices.specs.Offices.{Counts, Half, Noted, entry_of, first_half, fits_in, half_of, half_rows, note_of, office_call, rows_after, second_half}

-- an office enters drawn rows
pub record Entry : Type 0 where
  pub office : ℕ
  pub drawn : List ℕ

-- what a call came to
pub record Reply : Type 0 where
  pub office : ℕ
  pub outcome : Outcome Noted

pub record Ran : Type 0 where
  pub replies : List Reply
  pub counts : Counts
  pub lent : FrontTables

abbrev pub with_count : Half → ℕ → Counts → Counts
with_count first_half count counts = record { first = count; second = counts.second }
with_count second_half count counts = record { first = counts.first; second = count }

-- the counts after a call: an answer gives the half's new count
abbrev pub counts_after : Half → Outcome Noted → Counts → Counts
counts_after half (refused e) counts = counts
counts_after half (answered a) counts = with_count half a.count counts

unfoldable pub ran_from : List ℕ → ℕ → Counts → FrontTables → List Entry → Ran
ran_from f h counts lent [] = record { replies = []; counts = counts; lent = lent }
ran_from f h counts lent (e ∷ es) =
    let c = office_call f e.drawn e.office h counts lent in
    let later = ran_from f h (counts_after (half_of e.office) c.outcome counts) c.buffers es in
    record { replies = record { office = e.office; outcome = c.outcome } ∷ later.replies; counts = later.counts; lent = later.lent }

-- from an empty table
abbrev pub ran : List ℕ → ℕ → FrontTables → List Entry → Ran
ran f h lent es = ran_from f h (record { first = 0; second = 0 }) lent es

-- an office's entries, and what its calls came to
abbrev pub drawn_by : ℕ → List Entry → List (List ℕ)
drawn_by office es = map (λ e. e.drawn) (filter_b (λ e. eqb e.office office) es)

abbrev pub outcomes_of : ℕ → List Reply → List (Outcome Noted)
outcomes_of office cs = map (λ c. c.outcome) (filter_b (λ c. eqb c.office office) cs)

-- An office by itself: its filled rows, entry after entry. No file, no table and no other office is asked.

unfoldable pub own_checks : Network → ℕ → List Row → List ℕ → List Check
own_checks w h rows drawn = drawn_checks w drawn ++ (check 24 (fits_in h rows (entry_of w drawn)) ∷ [])

unfoldable pub own_call : Network → ℕ → List Row → List ℕ → Ended Noted (List Row)
own_call w h rows drawn = ended (own_checks w h rows drawn) (note_of rows (entry_of w drawn)) rows (rows_after rows (entry_of w drawn))

pub record Own : Type 0 where
  pub outcomes : List (Outcome Noted)
  pub rows : List Row

unfoldable pub own_from : Network → ℕ → List Row → List (List ℕ) → Own
own_from w h rows [] = record { outcomes = []; rows = rows }
own_from w h rows (drawn ∷ ds) =
    let c = own_call w h rows drawn in
    let later = own_from w h c.buffers ds in
    record { outcomes = c.outcome ∷ later.outcomes; rows = later.rows }

abbrev pub own : Network → ℕ → List (List ℕ) → Own
own w h ds = own_from w h [] ds

-- the entries that were accepted, by what the calls came to
unfoldable pub accepted_of : Network → List (List ℕ) → List (Outcome Noted) → List Row
accepted_of w [] os = []
accepted_of w (drawn ∷ ds) [] = []
accepted_of w (drawn ∷ ds) (refused e ∷ os) = accepted_of w ds os
accepted_of w (drawn ∷ ds) (answered a ∷ os) = entry_of w drawn ∷ accepted_of w ds os

-- What is shown

abbrev pub office_of : Half → ℕ
office_of first_half = 1
office_of second_half = 2

abbrev pub other : Half → Half
other first_half = second_half
other second_half = first_half

-- rows hold the undominated vectors of entries, ascending, each with the tree that was entered first
pub record Holds (entries rows : List Row) : Type 0 where
  pub vectors : map (λ (r : Row). r.vector) rows ≡ front_of (map (λ (r : Row). r.vector) entries)
  pub first_tree : Firsts (λ (r : Row). r.vector) entries rows

-- of one of the two offices, over a sequence of entries from an empty table
pub record OfficeClaim (f : List ℕ) (h : ℕ) (lent : FrontTables) (es : List Entry) (x : Half) : Type 0 where
  -- its answers and its filled rows are those of its own entries alone
  pub answers : outcomes_of (office_of x) (ran f h lent es).replies ≡ (own (network_of f) h (drawn_by (office_of x) es)).outcomes
  pub rows : half_rows f h x (ran f h lent es).counts (ran f h lent es).lent ≡ (own (network_of f) h (drawn_by (office_of x) es)).rows
  -- and the rows hold the undominated vectors of its accepted entries
  pub holds : Holds (accepted_of (network_of f) (drawn_by (office_of x) es) (outcomes_of (office_of x) (ran f h lent es).replies))
      (half_rows f h x (ran f h lent es).counts (ran f h lent es).lent)

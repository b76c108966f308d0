-- What a call from Rust or C comes to: the number that it returns, and what each lent buffer holds afterwards.
-- But for Pick the number is a code: 255 where the answer buffer is too short, before any check; else the number of the
-- refusal, with every buffer as it was; else 0, with the answer's values in the first places.
use Rattle.std.specs.Prelude.{Bool, false, true, List, [], ◌∷◌, Result, min, ℕ, ltb, length, take}
use Rattle.lists.specs.Lists.{pick}
use Rattle.checks.specs.Checks.{Ended, Outcome, answered, refused}
use Rattle.network_file.specs.File.{Sizes, open_of}
use Rattle.operations.specs.Operations.{FrontTables, Fronted, Paged, Reached, cost_call, front_call, order_call, over, page_call, pick_call, reach_call}
use Rattle.refusals.specs.Refusals.{outcome_of}
use Rattle.refusals.specs.declared.Refusal.{Refusal}
use Rattle.charges.specs.Charges.{Charge, charge_call}
use Rattle.counts.specs.Count.{count_call}
use Rattle.indexes.specs.Index.{fetch_call, index_call}
use Rattle.edge_file.specs.Dimacs.{dimacs_call, text_call}
use Rattle.surveys.specs.Surveys.{survey_call}
use Rattle.offices.specs.Offices.{Counts, Noted, office_call}

pub record Called (B : Type 0) : Type 0 where
  pub code : ℕ
  pub buffers : B

-- a call whose answer needs so many places: with fewer it is 255 and changes no buffer
abbrev pub with_places : {B : Type 0} → ℕ → List ℕ → B → Called B → Called B
with_places places answer before call = pick (ltb (length answer) places) (record { code = 255; buffers = before }) call

abbrev pub code_of : {A : Type 0} → Outcome A → ℕ
code_of (refused number) = number
code_of (answered a) = 0

-- the answer buffer afterwards: the values in the first places
abbrev pub answer_after : {A : Type 0} → (A → List ℕ) → Outcome A → List ℕ → List ℕ
answer_after values (refused number) answer = answer
answer_after values (answered a) answer = over (values a) answer

-- what a call comes to where the answer buffer has the places: its result's values are the numbers that stand in the first of them
abbrev pub told : {A : Type 0} → (A → List ℕ) → Result A Refusal → List ℕ → Called (List ℕ)
told values result answer =
    let outcome = outcome_of values result in
    record { code = code_of outcome; buffers = answer_after (λ numbers. numbers) outcome answer }

-- a call that is lent nothing but its answer buffer
unfoldable pub answering : {A : Type 0} → ℕ → (A → List ℕ) → Outcome A → List ℕ → Called (List ℕ)
answering places values outcome answer =
    with_places places answer answer (record { code = code_of outcome; buffers = answer_after values outcome answer })

-- a call that is lent a buffer and has no answer buffer
unfoldable pub ending : {A B : Type 0} → Ended A B → Called B
ending e = record { code = code_of e.outcome; buffers = e.buffers }

-- what the lent buffers hold, and the answer buffer
pub record Beside (B : Type 0) : Type 0 where
  pub lent : B
  pub answer : List ℕ

-- a call that is lent buffers, and an answer buffer
unfoldable pub answering_beside : {A B : Type 0} → ℕ → (A → List ℕ) → Ended A B → B → List ℕ → Called (Beside B)
answering_beside places values e lent answer =
    with_places places answer (record { lent = lent; answer = answer })
    (record { code = code_of e.outcome; buffers = record { lent = e.buffers; answer = answer_after values e.outcome answer } })

-- a count in a place of 32 bits: it holds at the greatest number there is
abbrev pub held : ℕ → ℕ
held count = min count 4294967295

abbrev pub digit : Bool → ℕ
digit false = 0
digit true = 1

abbrev pub size_values : Sizes → List ℕ
size_values s = s.n ∷ s.m ∷ s.k ∷ []

abbrev pub reached_values : Reached → List ℕ
reached_values r = r.word ∷ r.size ∷ []

abbrev pub charge_values : Charge → List ℕ
charge_values c = c.quotient ∷ c.remainder ∷ []

abbrev pub paged_values : Paged → List ℕ
paged_values p = held p.count ∷ digit p.more ∷ []

abbrev pub fronted_values : Fronted → List ℕ
fronted_values a = held a.count ∷ digit a.whole ∷ []

abbrev pub noted_values : Noted → List ℕ
noted_values a = digit a.entered ∷ held a.count ∷ []

-- Open: n, m and k.
unfoldable pub planner_open : List ℕ → List ℕ → Called (List ℕ)
planner_open file answer = answering 3 size_values (open_of file) answer

-- Reach: the word and the size.
unfoldable pub planner_reach : List ℕ → List ℕ → Called (List ℕ)
planner_reach file answer = answering 2 reached_values (reach_call file) answer

-- Count: the number of trees.
unfoldable pub planner_count : List ℕ → List ℕ → Called (List ℕ)
planner_count file answer = answering 1 (λ trees. trees ∷ []) (count_call file) answer

-- Order: the path stands in the buffer.
unfoldable pub planner_order : List ℕ → List ℕ → List ℕ → Called (List ℕ)
planner_order file rows buffer = ending (order_call file rows buffer)

-- Cost: the vector stands in the buffer.
unfoldable pub planner_cost : List ℕ → List ℕ → List ℕ → Called (List ℕ)
planner_cost file rows buffer = ending (cost_call file rows buffer)

-- Connection charge: the charges stand in the buffer; the quotient and the remainder.
unfoldable pub planner_charge : List ℕ → List ℕ → ℕ → List ℕ → List ℕ → Called (Beside (List ℕ))
planner_charge file rows criterion buffer answer = answering_beside 2 charge_values (charge_call file rows criterion buffer) buffer answer

-- Pick: it returns the length of the part, of which as much as fits stands in the first places.
unfoldable pub planner_pick : ℕ → List ℕ → ℕ → List ℕ → Called (List ℕ)
planner_pick n page t out =
    let part = pick_call n page t in
    record { code = length part; buffers = over (take (length out) part) out }

-- Page: the count, and the mark, 1 for 'more'.
unfoldable pub planner_page : List ℕ → List ℕ → List ℕ → List ℕ → Called (Beside (List ℕ))
planner_page file page start answer = answering_beside 2 paged_values (page_call file page start) page answer

-- An index built: how many trees it holds.
unfoldable pub planner_index : List ℕ → ℕ → List ℕ → List ℕ → Called (Beside (List ℕ))
planner_index file spacing index answer = answering_beside 1 (λ trees. held trees ∷ []) (index_call file spacing index) index answer

-- A tree fetched: it stands in the buffer; the moves.
unfoldable pub planner_fetch : List ℕ → ℕ → List ℕ → ℕ → List ℕ → List ℕ → Called (Beside (List ℕ))
planner_fetch file spacing index tree buffer answer = answering_beside 1 (λ moves. moves ∷ []) (fetch_call file spacing index tree buffer) buffer answer

-- Front: the count, and the mark, 1 for 'whole'.
unfoldable pub planner_front : List ℕ → List ℕ → List ℕ → List ℕ → Called (Beside FrontTables)
planner_front file costs witnesses answer =
    answering_beside 2 fronted_values (front_call file costs witnesses) (record { costs = costs; witnesses = witnesses }) answer

-- A second office in the same table: 1 for 'entered' or 0 for 'met', and the half's new filled count.
unfoldable pub planner_office : List ℕ → List ℕ → ℕ → ℕ → Counts → FrontTables → List ℕ → Called (Beside FrontTables)
planner_office file rows office h counts lent answer = answering_beside 2 noted_values (office_call file rows office h counts lent) lent answer

-- A DIMACS edge file read: the network file stands in the buffer; its length.
unfoldable pub planner_dimacs_read : List ℕ → List ℕ → List ℕ → Called (Beside (List ℕ))
planner_dimacs_read text buffer answer = answering_beside 1 (λ bytes. bytes ∷ []) (dimacs_call text buffer) buffer answer

-- A network's ends written as a DIMACS edge file: the text stands in the buffer; its length.
unfoldable pub planner_dimacs_write : List ℕ → List ℕ → List ℕ → Called (Beside (List ℕ))
planner_dimacs_write file buffer answer = answering_beside 1 (λ bytes. bytes ∷ []) (text_call file buffer) buffer answer

-- A newer survey over an older: the file stands in the buffer; its length.
unfoldable pub planner_survey : List ℕ → List ℕ → List ℕ → List ℕ → Called (Beside (List ℕ))
planner_survey older newer buffer answer = answering_beside 1 (λ bytes. bytes ∷ []) (survey_call older newer buffer) buffer answer

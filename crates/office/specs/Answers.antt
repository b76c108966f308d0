-- What the code's answer says in document 02's terms; and what entering in a half of both tables comes to.
use Rattle.std.specs.Prelude.{false, true, Result, ◌/◌, ℕ, length}
use Rattle.checks.specs.Checks.{Ended, Outcome, answered, refused}
use Rattle.refusals.specs.Refusals.{outcome_of}
use Rattle.refusals.specs.declared.Refusal.{Refusal}
use Rattle.table.specs.Enter.{Entering, Row, enter_call, entered, full, met, unfit}
use Rattle.operations.specs.Operations.{FrontTables}
use Rattle.offices.specs.Offices.{Counts, Noted, count_of, half_of, part_of, with_part}
use Rattle.office.specs.declared.Note.{Note}

abbrev pub note_in : Note → Noted
note_in n = record { entered = n.entered; count = n.count }

abbrev pub noted_of : Result Note Refusal → Outcome Noted
noted_of = outcome_of note_in

-- of a half of which so many rows were filled
abbrev pub note_by : Entering → ℕ → Outcome Noted
note_by unfit count = refused 11
note_by met count = answered (record { entered = false; count = count })
note_by full count = refused 24
note_by (entered filled) count = answered (record { entered = true; count = filled })

-- entering in the office's half: the places of both tables before their middle, or from there on
unfoldable pub note_call : ℕ → Counts → FrontTables → Row → Ended Noted FrontTables
note_call office counts lent e =
    let half = half_of office in
    let a = length lent.costs / 2 in
    let b = length lent.witnesses / 2 in
    let end = enter_call (part_of half a lent.costs) (part_of half b lent.witnesses) (count_of half counts) e.vector e.path in
    record {
      outcome = note_by end.answer (count_of half counts);
      buffers = record { costs = with_part half a end.costs lent.costs; witnesses = with_part half b end.witnesses lent.witnesses };
    }

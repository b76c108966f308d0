-- What the code's answer says in document 02's terms, and the test of a criterion's kind byte.
use Rattle.std.specs.Prelude.{Bool, ◌&&◌, List, Result, ◌+◌, ℕ, eqb, ltb}
use Rattle.checks.specs.Checks.{Outcome}
use Rattle.refusals.specs.Refusals.{outcome_of}
use Rattle.refusals.specs.declared.Refusal.{Refusal}
use Rattle.network_file.specs.File.{byte_at, sizes_of}
use Rattle.charges.specs.Charges.{Charge}
use Rattle.charge.specs.declared.Split.{Split}

abbrev pub charge_in : Split → Charge
charge_in s = record { quotient = s.quotient; remainder = s.remainder }

abbrev pub charged_of : Result Split Refusal → Outcome Charge
charged_of = outcome_of charge_in

-- criterion c is one of the k, and its kind byte is that of added
abbrev pub added_byte : List ℕ → ℕ → Bool
added_byte f c = ltb c (sizes_of f).k && eqb (byte_at f (9 + c)) 0

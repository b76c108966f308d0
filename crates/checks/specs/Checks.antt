-- Numbered checks in their order, and what a call comes to (document 01): a call is refused by the number of the first check
-- that is not met; a refusal returns its number alone and leaves every lent buffer as it was.
use Rattle.std.specs.Prelude.{Bool, List, [], ◌∷◌, ℕ}
use Rattle.std.proofs.Math.Option.{Option, none, some}
use Rattle.lists.specs.Lists.{pick}

pub record Check : Type 0 where
  pub number : ℕ
  pub met : Bool

-- the number of the first check that is not met
unfoldable pub first_unmet : List Check → Option ℕ
first_unmet [] = none
first_unmet (c ∷ cs) = pick c.met (first_unmet cs) (some c.number)

pub data Outcome (A : Type 0) : Type 0 where
  refused : ℕ → Outcome A
  answered : A → Outcome A

abbrev pub outcome_by : {A : Type 0} → Option ℕ → A → Outcome A
outcome_by none a = answered a
outcome_by (some e) a = refused e

-- a call that is lent nothing to write in
unfoldable pub checked : {A : Type 0} → List Check → A → Outcome A
unfolding first_unmet
checked cs a = outcome_by (first_unmet cs) a

-- what a call that is lent buffers comes to: its outcome, and the buffers afterwards
pub record Ended (A B : Type 0) : Type 0 where
  pub outcome : Outcome A
  pub buffers : B

abbrev pub buffers_by : {B : Type 0} → Option ℕ → B → B → B
buffers_by none before after = after
buffers_by (some e) before after = before

-- a call that is lent the buffers `before`, and after an answer leaves them as `after`
unfoldable pub ended : {A B : Type 0} → List Check → A → B → B → Ended A B
unfolding checked first_unmet
ended cs a before after = record { outcome = checked cs a; buffers = buffers_by (first_unmet cs) before after }

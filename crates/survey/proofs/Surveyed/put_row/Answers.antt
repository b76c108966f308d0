-- The bytes before the costs and the costs stand one behind the other (`row_put`).
use Rattle.std.proofs.Common.{◌∙◌, ◌∷◌, [], ℕ, ap₂, arith}
use Rattle.printout.specs.Text.{put}
use Rattle.survey.proofs.Putting.{row_put, two_bytes}
use Rattle.survey.proofs.Surveyed.put_row.Goals as goal

pub returns : goal.returns
returns c =
    let lead = c.row_at-lead.result in
    let (high, low) = two_bytes lead.street (omega arith) c.to_be_bytes.ensures in
    let bytes = ap₂ (λ (h l : ℕ). put c.args.buffer.now c.args.at (lead.first ∷ lead.second ∷ h ∷ l ∷ c.state_byte.result ∷ [])) high low in
    row_put _ lead c.row_at-lead.ensures _ c.state_byte.ensures _ _ (c.text-costs.ensures ∙ bytes) c.put_costs.ensures

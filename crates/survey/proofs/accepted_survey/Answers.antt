-- The rows in all are counted (`rows_in_all`) and the file's length is worked out (`file_size`) before anything is put; what is put then is the file (`file_put`).
use Rattle.std.proofs.Common.{◌∙◌, ◌≡◌, ap₂, arith, List, ◌+◌, ◌≤◌, ℕ, length}
use Rattle.std.proofs.lemmas.Result.{err_from_is_err_and}
use borrow.Author.Tests.{leb-false, leb-true}
use Rattle.checks.specs.Checks.{Ended, answered}
use Rattle.surveys.specs.Surveys.{survey_file, survey_network}
use Rattle.network_file.specs.File.{network_of}
use Rattle.survey.proofs.Calls.{survey_many, survey_short, survey_written}
use Rattle.survey.proofs.Files.{file_put, file_size, rows_in_all}
use Rattle.survey.proofs.accepted_survey.Goals as goal
use Rattle.survey.proofs.accepted_survey.Goals.{After-survivor_count-standing}

-- how many rows there are in all
counted : (c : After-survivor_count-standing)
    → c.survivor_count-standing.result + c.args.newer.now.header.m ≡ length (survey_network (network_of c.args.older.now.file.now) (network_of c.args.newer.now.file.now)).rows
counted c = rows_in_all c.requires _ c.survivor_count-standing.ensures.count

pub returns-in_err-check : goal.returns-in_err-check
returns-in_err-check c =
    let p = err_from_is_err_and c.from_residual.result c.from_residual.ensures.1 in
    let (many, is) = c.in_err-check.ensures in
    rw (p.1, p.2, is)
    (survey_many _ _ _ c.requires (omega (arith, counted (goal.at.returns-in_err-check c).After-survivor_count-standing, leb-false _ _ many)))

pub returns-in_err-check-2 : goal.returns-in_err-check-2
returns-in_err-check-2 c =
    let p = err_from_is_err_and c.from_residual-in_err-check-2.result c.from_residual-in_err-check-2.ensures.1 in
    let (short, is) = c.in_err-check-2.ensures in
    let all = counted (goal.at.returns-in_err-check-2 c).After-survivor_count-standing in
    rw (p.1, p.2, is)
    (survey_short _ _ _ c.requires (omega (arith, all, leb-true _ _ c.in_ok-check.ensures)) (omega (arith, leb-false _ _ short, file_size c.requires _ all)))

pub returns : goal.returns
returns c =
    let at = goal.at.returns c in
    let size = file_size c.requires _ (counted at.After-survivor_count-standing) in
    let room : length (survey_file c.args.older.now.file.now c.args.newer.now.file.now) ≤ length c.args.buffer.now = omega (arith, leb-true _ _ c.in_ok-check-2.ensures, size) in
    let put = file_put c.requires _ (counted at.After-survivor_count-standing) _ c.put_head-headed.ensures c.put_survivors-stood.ensures c.put_rows.ensures room in
    ap₂ {C = Ended ℕ (List ℕ)} (λ n l. record { outcome = answered n; buffers = l }) size put
    ∙ survey_written _ _ _ c.requires (omega (arith, counted at.After-survivor_count-standing, leb-true _ _ c.in_ok-check.ensures)) room

-- Open's refusal as it came, or what the first path tells of the network that Open answers, over the chart of the file.
use borrow.Author.Rules.{rules}
use Rattle.listed.proofs.Answers.{listed_none, listed_some, listed_stops, refused_met}
use Rattle.listed.proofs.listed.Goals as goal

-- a file that is refused has no chart
pub returns-in_err-header : goal.returns-in_err-header
returns-in_err-header c = (λ _. search (rules, listed_stops), λ met. absurd (refused_met _ _ c.in_err-header.ensures met))

pub returns-in_err-check : goal.returns-in_err-check
returns-in_err-check c =
    let made = c.of_file.ensures in (
      λ empty.
          let stopped = listed_none _ _ c.in_ok-header.ensures _ _ _ made c.first.ensures.1 empty (search (rules, c.in_err-check.ensures.0)) in
          search (rules, stopped),
      λ met. made,
    )

pub returns : goal.returns
returns c =
    let made = c.of_file.ensures in (
      λ empty. listed_some _ _ c.in_ok-header.ensures _ _ _ made c.first.ensures.1 empty (search (rules, c.in_ok-check.ensures)),
      λ met. made,
    )

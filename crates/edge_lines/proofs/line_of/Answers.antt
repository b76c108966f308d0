-- A line by what it begins with.
use Rattle.std.proofs.Common.{◌∙◌, sym}
use Rattle.edge_lines.proofs.Forms.{line_comment, line_edge, line_other, line_problem}
use Rattle.edge_lines.proofs.line_of.Goals as goal

pub returns-then-is_comment : goal.returns-then-is_comment
returns-then-is_comment c = line_comment _ (sym c.is_comment.ensures ∙ c.if-is_comment.true)

pub returns-in-Some-two_numbers : goal.returns-in-Some-two_numbers
returns-in-Some-two_numbers c =
    line_edge _ (sym c.is_comment.ensures ∙ c.if-is_comment.false) c.in-Some.ensures.cases.0 c.in-Some.ensures.cases.1 c.in-Some-two_numbers.ensures

pub returns-in-None : goal.returns-in-None
returns-in-None c =
    line_edge _ (sym c.is_comment.ensures ∙ c.if-is_comment.false) c.in-Some.ensures.cases.0 c.in-Some.ensures.cases.1 c.in-None.ensures

pub returns-in-Some-two_numbers-2 : goal.returns-in-Some-two_numbers-2
returns-in-Some-two_numbers-2 c =
    let told = c.in-Some-strip_prefix.ensures.cases in
    line_problem _ (sym c.is_comment.ensures ∙ c.if-is_comment.false) c.in_default.ensures.cases told.0 told.1 c.in-Some-two_numbers-2.ensures

pub returns-in-None-two_numbers : goal.returns-in-None-two_numbers
returns-in-None-two_numbers c =
    let told = c.in-Some-strip_prefix.ensures.cases in
    line_problem _ (sym c.is_comment.ensures ∙ c.if-is_comment.false) c.in_default.ensures.cases told.0 told.1 c.in-None-two_numbers.ensures

pub returns : goal.returns
returns c =
    line_other _ (sym c.is_comment.ensures ∙ c.if-is_comment.false) c.in_default.ensures.cases c.in_default-strip_prefix.ensures.cases

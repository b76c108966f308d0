-- A comment by how many bytes there are.
use Rattle.std.proofs.Common.{◌∙◌, arith, sym}
use borrow.Author.Tests.{eq-eqb, ne_eqb}
use Rattle.edge_lines.proofs.Forms.{comment_more, comment_none, comment_one}
use Rattle.edge_lines.proofs.is_comment.Goals as goal

pub returns-in-empty : goal.returns-in-empty
returns-in-empty c = sym (comment_none _ (omega arith))

pub returns-in-len1 : goal.returns-in-len1
returns-in-len1 c = sym (comment_one _ (omega arith))

pub returns-then-first-eq99 : goal.returns-then-first-eq99
returns-then-first-eq99 c = sym (comment_more _ (omega arith) ∙ rw (eq-eqb _ _ c.if-first-eq99.true))

pub returns-else-first-eq99 : goal.returns-else-first-eq99
returns-else-first-eq99 c = sym (comment_more _ (omega arith) ∙ rw (ne_eqb _ _ c.if-first-eq99.false))

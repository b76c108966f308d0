-- The walk's first path is the list's first tree.
use native.Mathlib.Omega.{arith}
use Rattle.index.proofs.Given.{first_given, none_given}
use Rattle.index.proofs.first_tree.Goals as goal

pub returns-in_err-path : goal.returns-in_err-path
returns-in_err-path c f o = rw c.from_residual.ensures (none_given o (rw c.in_err-path.was at c.first.ensures.1))

pub returns : goal.returns
returns c f o = first_given o c.in_ok-path.path (rw c.in_ok-path.was at c.first.ensures.1) (omega arith) (omega arith) (omega arith)

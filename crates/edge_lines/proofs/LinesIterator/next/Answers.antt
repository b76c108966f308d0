-- A step of the cursor gives the first of the lines that are left.
use Rattle.std.proofs.Common.{ap, arith}
use Rattle.std.specs.Prelude.{length}
use Rattle.edge_lines.proofs.Steps.{step_end, step_line}
use Rattle.edge_lines.proofs.LinesIterator.next.Goals as goal

pub returns-in_err-line-clause-steps : goal.returns-in_err-line-clause-steps
returns-in_err-line-clause-steps c = let done = step_end _ _ c.in_err-line.ensures in rw c.from_residual.ensures (done, done)

pub returns-clause-steps : goal.returns-clause-steps
returns-clause-steps c = (step_line _ _ c.in_ok-line.ensures).lines

pub returns-clause-goes : goal.returns-clause-goes
returns-clause-goes c =
    let fewer = ap length (step_line _ _ c.in_ok-line.ensures).lines in
    record { on = λ _. (tt, tt, omega (arith, fewer)); keeps = tt; rests = λ _. tt }

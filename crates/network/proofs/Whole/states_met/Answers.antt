use mathlib.Core.Path.{◌∙◌, ◌≡◌, sym}
use native.Mathlib.Omega.{arith}
use Prim.Native.Nat.{◌≤◌}
use Rattle.std.proofs.iter.Serving.{serving}
use Rattle.network_file.proofs.Accepted.{version_2}
use borrow.Author.Rules.{rules}
use Rattle.network_file.specs.File.{byte_at, is_state, state_of}
use Rattle.network.proofs.Laws.{state_at, state_read, states_none, states_start}
use Rattle.network.proofs.Rows.{row_run}
use Rattle.network.proofs.Whole.states_met.Goals as goal

pub returns-then-self-ne2 : goal.returns-then-self-ne2
returns-then-self-ne2 c = sym (states_none _ c.if-self-ne2.true)

pub all-requires-clause-callable : goal.all-requires-clause-callable
all-requires-clause-callable c =
    let stated : 5 ≤ c.row_bytes.result = omega (arith, c.row_bytes.ensures, (version_2 c.args.self.file.now c.if-self-ne2.false).0) in
    grind (serving, stated)

pub returns : goal.returns
returns c =
    let (p, from, outcome) = c.all.ensures.runs in
    row_run p _ _ (search rules) c.args.self.fitting (state_at c.args.self.file.now) (search (rules, from)) (search (rules, from)) (c.chunks_exact.ensures.runs p p.seen)
    (λ r x row b called.
    let asked : b ≡ is_state (state_of (byte_at x.now 4)) = search (rules, called) in
    asked ∙ state_read _ r x.now c.if-self-ne2.false row) c.all.result outcome
    ∙ sym (states_start _ _ c.args.self.fitting.same)

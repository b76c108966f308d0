use mathlib.Core.Path.{◌∙◌, ◌≡◌, ap}
use Prim.Native.Nat.{◌+◌, ◌*◌, ℕ}
use native.Mathlib.Omega.{arith}
use lib.Dec.{leb}
use borrow.Author.Rules.{rules}
use Rattle.network_file.specs.File.{byte_at, u32_at}
use Rattle.network.specs.Rows.{costs_from}
use Rattle.network.proofs.Laws.{cost_fine, u32_moved}
use Rattle.lists.proofs.Runs.{pieces_run}
use Rattle.network.proofs.costs_sound.Goals as goal

pub returns : goal.returns
unfolding costs_from cost_fine
returns c =
    let (p, from, outcome) = c.all.ensures.runs in
    pieces_run p _ _ (search rules) (cost_fine c.args.bytes.now 0) 4 (search (rules, from)) (search (rules, from)) (omega arith) (c.chunks_exact.ensures.runs p p.seen)
    (λ k x h piece b called.
    let asked : b ≡ leb (u32_at x.now 0) 1000000 = search (rules, called) in
    let moved = u32_moved x.now c.args.bytes.now 0 (0 + 4 * k) (λ d l. piece.reads (0 + d) (omega (arith, l)) ∙ ap (byte_at c.args.bytes.now) (omega arith)) in
    asked ∙ ap (λ (y : ℕ). leb y 1000000) moved)
    c.all.result outcome

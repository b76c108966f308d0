-- The chunks of the table are its rows, and the one that is picked is the nearest of those that are inside.
use Rattle.least.specs.Least.{inside_at, known_rows}
use Rattle.least.proofs.Known.{chunks_rows, nearest_of, no_rows}
use Rattle.std.proofs.Common.{arith, rules}
use Rattle.std.proofs.lemmas.Iterator.Consumers.{YieldsList-at, YieldsList-from_filter}
use Rattle.least.proofs.nearest.Goals as goal

pub returns-then-k-eq0 : goal.returns-then-k-eq0
returns-then-k-eq0 c = no_rows c.args.known.now c.args.limits c.args.k c.if-k-eq0.true

pub returns : goal.returns
returns c =
    let (p, from, whole, picked) = c.min_by_key.ensures.runs in
    nearest_of (known_rows c.args.k c.args.known.now) c.args.limits p
    (YieldsList-at from (YieldsList-from_filter _ (λ x. inside_at x c.args.limits)
    (YieldsList-at c.filter.ensures.source (chunks_rows c.args.k c.args.known.now _ (omega (arith, c.if-k-eq0.false)) c.chunks_exact-rows.ensures.size c.chunks_exact-rows.ensures.rest))
    c.filter.ensures.closure (λ x b q k. search rules)))
    whole _ _ (λ a r q k. search rules) (λ x r k. search rules) c.min_by_key.result picked

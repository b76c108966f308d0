use mathlib.Core.Path.{◌∙◌, ◌≡◌, ap}
use Prim.Native.Nat.{◌+◌}
use native.Mathlib.Omega.{arith}
use Rattle.std.proofs.Common.{rules}
use lib.ListN.{length}
use Rattle.fronted.specs.Filled.{Holding}
use Rattle.network_file.specs.File.{Sizes}
use Rattle.walked.proofs.Tables.{Standing, from_fit, into_fit, pass_cut, pass_less, pass_more, pass_whole, scratch_holds, standing_known, standing_long, standing_start}
use Rattle.walked.proofs.passes.Goals as goal
use Rattle.walked.proofs.passes.Goals.{After-copy-in-loop-vectors, After-pass-scratch, After-min-fit, At-loop-vectors}

pub loop-vectors-init : goal.loop-vectors-init
loop-vectors-init c = (standing_start c.requires.0 c.requires.1, search rules, search rules)

pub pass-scratch-requires : goal.pass-scratch-requires
pass-scratch-requires c =
    let inv = c.loop-vectors.invariant in
    let pre = c.requires in
    (pre.0, standing_known pre.0 pre.1 inv.0, scratch_holds pre.0 pre.1 inv.1 inv.2)

-- the lent tables keep their length
kept : (c : At-loop-vectors) → (length c.loop-vectors.costs ≡ length c.args.costs.now) × (length c.loop-vectors.witnesses ≡ length c.args.witnesses.now)
kept c = standing_long c.requires.0 c.requires.1 c.loop-vectors.invariant.0

-- and the scratch table its own
scratch_kept : (c : After-pass-scratch) → (length c.pass-scratch.new.costs ≡ 260) × (length c.pass-scratch.new.witnesses ≡ 2015)
scratch_kept c = let inv = c.loop-vectors.invariant in (c.pass-scratch.auto.costs ∙ inv.1, c.pass-scratch.auto.witnesses ∙ inv.2)

-- the rows that fit, in the lent tables and in the scratch table; the number of criteria that the code has read is the file's
into : (c : After-min-fit) → Holding (c.loop-vectors.count + c.min-fit.result) c.header_of-header.result.k c.width-width.result c.loop-vectors.costs c.loop-vectors.witnesses
into c =
    let criteria = ap (λ (s : Sizes). s.k) c.header_of-header.ensures in
    into_fit c.requires.0 c.requires.1 c.loop-vectors.invariant.0 c.pass-scratch.ensures c.min-fit.ensures criteria c.width-width.ensures

from : (c : After-min-fit) → (length c.pass-scratch.new.costs ≡ 260) × (length c.pass-scratch.new.witnesses ≡ 2015)
    → Holding c.min-fit.result c.header_of-header.result.k c.width-width.result c.pass-scratch.new.costs c.pass-scratch.new.witnesses
from c (vectors, trees) =
    let criteria = ap (λ (s : Sizes). s.k) c.header_of-header.ensures in
    from_fit c.requires.0 c.requires.1 c.loop-vectors.invariant.0 c.pass-scratch.ensures c.min-fit.ensures criteria c.width-width.ensures vectors trees

pub overflow_mul-count : goal.overflow_mul-count
overflow_mul-count c =
    let at = goal.at.overflow_mul-count c in
    omega (arith, (into at.After-min-fit).costs_fit, (kept at.At-loop-vectors).0)

pub overflow_mul-fit : goal.overflow_mul-fit
overflow_mul-fit c =
    let at = goal.at.overflow_mul-fit c in
    omega (arith, (from at.After-min-fit (scratch_kept at.After-pass-scratch)).costs_fit)

pub overflow_mul-count-in-loop-vectors : goal.overflow_mul-count-in-loop-vectors
overflow_mul-count-in-loop-vectors c =
    let at = goal.at.overflow_mul-count-in-loop-vectors c in
    omega (arith, (into at.After-min-fit).trees_fit, (kept at.At-loop-vectors).1)

pub overflow_mul-fit-in-loop-vectors : goal.overflow_mul-fit-in-loop-vectors
overflow_mul-fit-in-loop-vectors c =
    let at = goal.at.overflow_mul-fit-in-loop-vectors c in
    omega (arith, (from at.After-min-fit (scratch_kept at.After-pass-scratch)).trees_fit)

pub shape_of-costs-then-room-scratch : goal.shape_of-costs-then-room-scratch
shape_of-costs-then-room-scratch c = c.copy.auto.table ∙ (kept (goal.at.shape_of-costs-then-room-scratch c).At-loop-vectors).0

pub shape_of-witnesses-then-room-scratch : goal.shape_of-witnesses-then-room-scratch
shape_of-witnesses-then-room-scratch c = c.copy-in-loop-vectors.auto.table ∙ (kept (goal.at.shape_of-witnesses-then-room-scratch c).At-loop-vectors).1

-- the rows that fit are written
more : (c : After-copy-in-loop-vectors) → Holding c.min-fit.result c.header_of-header.result.k c.width-width.result c.pass-scratch.new.costs c.pass-scratch.new.witnesses
    → let args = c.args in
    Standing args.file.now args.capacity args.costs.now args.witnesses.now (c.loop-vectors.count + c.min-fit.result) c.copy.new.table c.copy-in-loop-vectors.new.table
more c held =
    let criteria = ap (λ (s : Sizes). s.k) c.header_of-header.ensures in
    pass_more c.requires.0 c.requires.1 c.loop-vectors.invariant.0 c.pass-scratch.ensures c.min-fit.ensures criteria c.width-width.ensures
    held c.copy.ensures c.copy-in-loop-vectors.ensures

pub returns-then-room-scratch : goal.returns-then-room-scratch
returns-then-room-scratch c =
    let at = goal.at.returns-then-room-scratch c in
    pass_cut c.pass-scratch.ensures c.loop-vectors.invariant.0.fits c.min-fit.ensures
    (more at.After-copy-in-loop-vectors (from at.After-min-fit (scratch_kept at.After-pass-scratch))) c.if-room-scratch.true

pub overflow_add-count : goal.overflow_add-count
overflow_add-count c = omega (arith, c.min-fit.ensures, c.loop-vectors.invariant.0.fits, c.ranges.capacity)

pub loop-vectors-smaller : goal.loop-vectors-smaller
loop-vectors-smaller c =
    pass_less c.pass-scratch.ensures c.loop-vectors.invariant.0.fits c.min-fit.ensures c.if-room-scratch.false (search rules)

pub loop-vectors-preserved : goal.loop-vectors-preserved
loop-vectors-preserved c =
    let at = goal.at.loop-vectors-preserved c in
    let (vectors, trees) = scratch_kept at.After-pass-scratch in
    (more at.After-copy-in-loop-vectors (from at.After-min-fit (vectors, trees)), vectors, trees)

pub shape_of-costs-then-not-scratch : goal.shape_of-costs-then-not-scratch
shape_of-costs-then-not-scratch c = c.copy.auto.table ∙ (kept (goal.at.shape_of-costs-then-not-scratch c).At-loop-vectors).0

pub shape_of-witnesses-then-not-scratch : goal.shape_of-witnesses-then-not-scratch
shape_of-witnesses-then-not-scratch c = c.copy-in-loop-vectors.auto.table ∙ (kept (goal.at.shape_of-witnesses-then-not-scratch c).At-loop-vectors).1

pub returns-then-not-scratch : goal.returns-then-not-scratch
returns-then-not-scratch c =
    let at = goal.at.returns-then-not-scratch c in
    pass_whole c.pass-scratch.ensures c.loop-vectors.invariant.0.fits c.min-fit.ensures
    (more at.After-copy-in-loop-vectors (from at.After-min-fit (scratch_kept at.After-pass-scratch))) c.if-room-scratch.false (search rules)

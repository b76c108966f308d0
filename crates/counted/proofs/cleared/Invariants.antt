-- The loop's invariant: the links passed that cannot be merged are absent, and the count is the same (`Clearing`).
use Prim.Native.Nat.{◌*◌}
use borrow.Rule.Slice.PartMut.{put_mid}
use Rattle.counted.specs.Counted.{Clearing}
use Rattle.counted.proofs.cleared.Given as goal

abbrev pub invariant-loop-link : goal.invariant-loop-link
invariant-loop-link l = Clearing l.fn.links.weights l.v l.f (put_mid (l.v * 32) l.v l.fn.links.weights l.link-items) l.g l.link-index

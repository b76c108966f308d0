use mathlib.Core.Path.{◌∙◌, ◌≡◌, ap, sym}
use Prim.Native.Nat.{ℕ}
use native.Mathlib.Omega.{arith}
use lib.ListN.{get_or, length}
use Rattle.std.proofs.Common.{rules}
use Rattle.find.proofs.Arrays.{made_of}
use Rattle.graph.specs.Paths.{Key}
use Rattle.paths.specs.Path.{keys_of, length_of, no_key, plant_of}
use Rattle.paths.proofs.Laws.{keys_length}
use Rattle.branch.specs.Branch.{comes_at, flag_by, flags_of}
use Rattle.branch.proofs.Comes.{flag_at, flag_is}
use Rattle.branch.proofs.Laws.{last_is}
use Rattle.branch.proofs.coming.Goals as goal
use Rattle.branch.proofs.coming.Goals.{Start}

-- a path has as many keys as steps
steps_long : (c : Start) → length (keys_of c.args.path) ≡ length_of c.args.path
steps_long c = keys_length c.args.path (omega arith) (omega arith) (omega arith)

pub returns : goal.returns
unfolding flags_of
returns c =
    let a = c.args in
    let path = a.path in
    let size = c.length.ensures ∙ sym (steps_long (goal.at.returns c).Start) in
    let key = ap (λ (i : ℕ). get_or (keys_of path) i no_key) c.saturating_sub-end.ensures ∙ last_is (keys_of path) c.length.result size in
    made_of 0 _ (λ r. flag_by (get_or a.heads.now r 0) (comes_at a.ends.firsts.now a.ends.seconds.now a.limit (plant_of path) (keys_of path) r)) _ 256 c.from_fn.ensures.items
    (λ r y q low k.
    let is : y ≡ flag_at a.ends.firsts.now a.ends.seconds.now a.heads.now a.limit c.entries_of-entries.result c.pivot_at-place.result c.node_at-last.result r = search rules in (
      search rules,
      is ∙ flag_is a.ends.firsts.now a.ends.seconds.now a.heads.now a.limit (plant_of path) (keys_of path) c.entries_of-entries.result c.entries_of-entries.ensures
          c.pivot_at-place.result c.node_at-last.result
          (c.pivot_at-place.ensures ∙ ap (λ (k : Key). k.place) key)
          (c.node_at-last.ensures ∙ ap (λ (k : Key). k.node) key) r (search rules) (search rules),
    ))

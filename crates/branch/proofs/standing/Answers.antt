use mathlib.Core.Path.{◌∙◌, ap, sym}
use mathlib.Core.List.{List, [], ◌++◌, ◌∷◌}
use Prim.Native.Nat.{◌%◌, ◌<◌, ℕ}
use native.Mathlib.Omega.{arith}
use lib.ListN.{length, length-take}
use Rattle.lists.proofs.Members.{length_snoc}
use Rattle.chosen.specs.Chosen.{rows_of}
use Rattle.paths.specs.Path.{rows_in}
use Rattle.paths.proofs.Laws.{row_is, rows_long}
use Rattle.branch.proofs.Laws.{standing_over, standing_skips, standing_takes}
use Rattle.branch.proofs.standing.Goals as goal
use Rattle.branch.proofs.standing.Goals.{After-stands, else-stands, then-stands}

-- the row of the turn is one of the path's, of which there are at most 31
in_path : (c : After-stands) → (c.loop-i.i < length (rows_in c.args.path)) × (c.loop-i.i < 31)
in_path c =
    let long = rows_long c.args.path (omega arith) (omega arith) (omega arith) in
    (omega (arith, c.length-i-end.ensures, long), omega (arith, c.length-i-end.ensures))

pub loop-i-preserved : goal.loop-i-preserved
loop-i-preserved c =
    let l = c.loop-i in
    let (short, so) = l.invariant in
    let row = c.row_at-row.ensures ∙ row_is c.args.path l.i in
    let (here, few) = in_path (goal.at.loop-i-preserved c).After-stands in
    elim c.if-stands.branch [
      | then-stands w ↦
          let all = rows_of l.rows in
          let byte = c.row_at-row.result % 256 in
          rw (w.rows-is, w.extended-rows.ensures) (
            omega (arith, length-take 31 (all ++ (byte ∷ [])), length_snoc all byte),
            λ small. so small ∙ standing_takes c.args.heads.now (rows_in c.args.path) c.args.len l.i _ _ here row c.at.ensures
                (sym c.stands.ensures ∙ w.if-stands.true) small all (omega (arith, short, few)),
          )
      | else-stands w ↦
          let skip = standing_skips c.args.heads.now (rows_in c.args.path) c.args.len l.i _ _ here row c.at.ensures (sym c.stands.ensures ∙ w.if-stands.false) in
          rw w.rows-is (omega arith, λ small. so small ∙ ap (λ (m : List ℕ). rows_of l.rows ++ m) skip)
    ]

pub returns : goal.returns
returns c small =
    let l = c.loop-i in
    let long = rows_long c.args.path (omega arith) (omega arith) (omega arith) in
    let (short, so) = l.invariant in
    sym (so small ∙ standing_over c.args.heads.now (rows_in c.args.path) c.args.len l.i (omega (arith, c.length-i-end.ensures, long)) (rows_of l.rows))

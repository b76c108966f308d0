-- Both copies are whole (`copied_all`): the tables hold one more row, and a path has as many rows as a tree.
use mathlib.Core.Path.{◌∙◌, ◌≡◌, ap, sym}
use mathlib.Core.List.{List}
use Prim.Native.Nat.{◌*◌, ℕ}
use native.Mathlib.Nat.{add-mul, one-mul}
use native.Mathlib.Omega.{arith}
use lib.ListN.{length, length-map, length-take, take}
use lib.Seq.{paste, take_all}
use Rattle.std.proofs.Common.{rules}
use Rattle.paths.specs.Path.{keys_of, length_of, rows_in}
use Rattle.paths.proofs.Laws.{keys_length, rows_are}
use Rattle.sought.proofs.Tables.{paste_part, row_is}
use Rattle.copies.proofs.Copies.{copied_all}
use Rattle.sought.proofs.write.Goals as goal

pub returns : goal.returns
returns c =
    let a = c.args in
    let (into, few, long) = c.requires in
    let p = a.path in
    let rows : length p.rows ≡ 31 = omega arith in
    let nodes : length p.nodes ≡ 32 = omega arith in
    let pivots : length p.pivots ≡ 31 = omega arith in
    let count = long ∙ length-map (keys_of p) _ ∙ keys_length p nodes rows pivots in
    let words = c.map-row.ensures.items in
    let row = row_is a.v c.map-row.result words.long (λ i h. let here = words.at i 0 0 h in search rules) in (
      c.copy.ensures ∙ copied_all _ _ _ _ (rw (add-mul, one-mul) at into.costs_fit) (omega (arith, few, words.long))
          ∙ ap (λ (x : List ℕ). paste a.costs.now (a.count * a.k) x a.k) row,
      c.copy-2.ensures ∙ copied_all _ _ _ _ (rw (add-mul, one-mul) at into.trees_fit)
          (omega (arith, long, ap length (rows_are p nodes rows pivots), length-take (length_of p) p.rows, rows))
          ∙ paste_part a.witnesses.now (a.count * a.width) p.rows (rows_in p) a.width
          (ap (λ (m : ℕ). take m p.rows) count ∙ sym (rows_are p nodes rows pivots) ∙ sym (take_all a.width (rows_in p) (omega (arith, long)))),
    )

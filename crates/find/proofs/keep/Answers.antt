-- The kind names the rule of cost, arm by arm.
use mathlib.Core.Path.{◌∙◌, ap, sym}
use Prim.Native.Nat.{ℕ}
use lib.Dec.{leb}
use native.Mathlib.Omega.{arith}
use borrow.Author.Tests.{leb-true}
use Rattle.std.proofs.Common.{rules}
use Rattle.lists.specs.Lists.{pick}
use Rattle.chosen.specs.Chosen.{rows_of}
use Rattle.find.proofs.Sifting.{sifted_added, sifted_by, sifted_closing, sifted_worst}
use Rattle.find.proofs.keep.Goals as goal

pub returns-in-Added : goal.returns-in-Added
returns-in-Added c =
    let a = c.args in
    rw (sym c.in-Added.ensures)
    (sifted_added a.criteria.costs.now a.c _ (rows_of a.inc) _ c.added-base.ensures (sifted_by _ _ _ _ (λ r h. leb-true _ _ (search rules)) c.without.ensures))

pub returns-in-Worst : goal.returns-in-Worst
returns-in-Worst c =
    let a = c.args in
    rw (sym c.in-Worst.ensures)
    (sifted_worst a.criteria.costs.now a.c a.limit (rows_of a.inc) _
    (c.already-base.ensures ∙ ap (λ (x : ℕ). pick (leb a.limit x) a.limit 0) c.worst.ensures)
    (sifted_by _ _ _ _ (λ r h. leb-true _ _ (search rules)) c.without-in-Worst.ensures))

pub returns-in-Closing : goal.returns-in-Closing
returns-in-Closing c =
    let a = c.args in
    let paid = c.paid_of-paid.ensures in
    rw (sym c.in-Closing.ensures)
    (sifted_closing a.criteria.costs.now a.c _ (rows_of a.inc) a.criteria.leads.now _ _ paid.sum paid.days
    (sifted_by _ _ _ _ (λ r h. (search rules, leb-true _ _ (search rules))) c.without-in-Closing.ensures))

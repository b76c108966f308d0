use mathlib.Core.Path.{◌∙◌, ◌≡◌, refl, sym}
use mathlib.Core.Bool.{false, true}
use mathlib.Core.List.{List}
use Prim.Native.Nat.{◌<◌, ◌≤◌, ℕ}
use native.Mathlib.Decide.{ℕ_discrete}
use native.Mathlib.Omega.{arith}
use lib.ListN.{get_or, length-take, take}
use lib.Seq.{take_all}
use borrow.Author.Tests.{eq-eqb, le-ltb, lt-ltb, ne_eqb}
use Rattle.lists.specs.Lists.{range}
use Rattle.tally.specs.Tally.{cost_in, lead_in}
use Rattle.weighing.proofs.Turns.{counted_few, counted_more, counted_skip, counted_start, next_row}
use Rattle.weighing.proofs.sharers_of.Invariants.{test}
use Rattle.weighing.proofs.sharers_of.Goals as goal
use Rattle.weighing.proofs.sharers_of.Goals.{else-days-lead, then-days-lead}

-- a row is counted at its street alone, if it costs more than is paid
module _ (costs leads : List ℕ) (c : ℕ) (days : List ℕ) (q : ℕ) {lead cost : ℕ} (street : lead ≡ lead_in leads q) (price : cost ≡ cost_in costs c q) where
  other : (l : ℕ) → ¬ (l ≡ lead) → test costs leads c days l q ≡ false
  unfolding test
  other l n = rw (ne_eqb (lead_in leads q) l (λ e. n (sym (street ∙ e))))

  more : get_or days lead 0 < cost → test costs leads c days lead q ≡ true
  unfolding test
  more above = rw (eq-eqb (lead_in leads q) lead (sym street), lt-ltb (get_or days lead 0) (cost_in costs c q) (omega arith))

  less : cost ≤ get_or days lead 0 → (l : ℕ) → test costs leads c days l q ≡ false
  unfolding test
  less below l = elim (ℕ_discrete l lead) [
    | yes e ↦ rw (e, eq-eqb (lead_in leads q) lead (sym street), le-ltb (get_or days lead 0) (cost_in costs c q) (omega arith))
    | no n ↦ other l n
  ]

pub loop-row-init : goal.loop-row-init
unfolding range
loop-row-init c = counted_start _ refl

pub overflow_add-sharers : goal.overflow_add-sharers
overflow_add-sharers c =
    let l = c.loop-row in
    let lead = c.lead_of-lead in
    omega (arith, counted_few l.invariant lead.result (omega (arith, lead.type_inv)), length-take l.row-index c.args.usable.now, c.requires)

pub loop-row-preserved : goal.loop-row-preserved
loop-row-preserved c =
    let l = c.loop-row in
    let lead = c.lead_of-lead in
    rw (next_row c.args.usable.now l.row-index c.loop-row-test.true) (elim c.if-days-lead.branch [
      | then-days-lead w ↦ rw w.sharers-is (counted_more l.invariant (omega (arith, lead.type_inv))
          (more _ _ _ _ _ lead.ensures c.cost_at.ensures w.if-days-lead.true) (other _ _ _ _ _ lead.ensures c.cost_at.ensures))
      | else-days-lead w ↦ rw w.sharers-is (counted_skip l.invariant (less _ _ _ _ _ lead.ensures c.cost_at.ensures w.if-days-lead.false))
    ])

pub returns : goal.returns
unfolding test
returns c =
    let all : take c.loop-row.row-index c.args.usable.now ≡ c.args.usable.now = take_all c.loop-row.row-index c.args.usable.now c.loop-row-test.false in
    (rw all at c.loop-row.invariant).holds

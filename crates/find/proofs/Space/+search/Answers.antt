use mathlib.Core.Path.{◌∙◌, ◌≡◌, sym}
use mathlib.Core.Option.{none, some}
use Prim.Native.Nat.{ℕ}
use native.Mathlib.Omega.{arith}
use lib.ListN.{length, length-map}
use Rattle.lists.proofs.Members.{◌∈◌}
use Rattle.chosen.specs.Chosen.{rows_of, rows_on}
use Rattle.chosen.proofs.Flags.{on_fewer}
use Rattle.find.proofs.Turns.{first_node, full_none, given_of, node_part, rows_fall, step_found, step_node, step_none, tells, tells_first, turn_given, turn_next, turn_start}
use Rattle.tally.specs.Kinds.{numbers_of}
use Rattle.find.specs.Find.{found_of}
use Rattle.find.proofs.Space.+search.Goals as goal
use Rattle.find.proofs.Space.+search.Goals.{After-pivot-at}

pub returns-in-Closed : goal.returns-in-Closed
returns-in-Closed t c = λ tables node.
    let turn = c.loop-tree.invariant in
    let sized : length (numbers_of c.args.self.criteria.kinds) ≡ 4 = simp length-map (omega arith) in
    let given = turn_given _ _ _ _ _ _ _ _ _ sized c.fitting-us.ensures turn tables node c.labels_of-labels.ensures c.missing-need.ensures in
    tells _ _ _ _ _ _ _ _ _ sized c.fitting-us.ensures turn tables node none (c.in-Closed.ensures.says _ given)

pub returns-in-Tree : goal.returns-in-Tree
returns-in-Tree t c = λ tables node.
    let turn = c.loop-tree.invariant in
    let sized : length (numbers_of c.args.self.criteria.kinds) ≡ 4 = simp length-map (omega arith) in
    let given = turn_given _ _ _ _ _ _ _ _ _ sized c.fitting-us.ensures turn tables node c.labels_of-labels.ensures c.missing-need.ensures in
    tells _ _ _ _ _ _ _ _ _ sized c.fitting-us.ensures turn tables node (some _) (c.in-Tree.ensures.says _ given)

pub returns-then-need-eq0 : goal.returns-then-need-eq0
returns-then-need-eq0 t c = λ tables node.
    let turn = c.loop-tree.invariant in
    let sized : length (numbers_of c.args.self.criteria.kinds) ≡ 4 = simp length-map (omega arith) in
    let given = turn_given _ _ _ _ _ _ _ _ _ sized c.fitting-us.ensures turn tables node c.labels_of-labels.ensures c.missing-need.ensures in
    tells _ _ _ _ _ _ _ _ _ sized c.fitting-us.ensures turn tables node none
    (full_none _ _ _ _ _ _ _ _ _ given c.if-need-eq0.true _ c.in-Open.ensures.usable.0 (c.in-Open.ensures.says _ given).3)

-- the row to split at is usable
chosen_row : (t : ℕ) (c : After-pivot-at t) → c.pivot-at.result ∈ rows_of c.in-Open.choice
chosen_row t c = c.pivot-at.ensures (omega (arith, c.in-Open.ensures.usable.0, c.if-need-eq0.false))

in_use : (t : ℕ) (c : After-pivot-at t) → c.pivot-at.result ∈ rows_on c.loop-tree.us
in_use t c = c.in-Open.ensures.usable.1 _ (chosen_row t c)

pub search-taken-requires : goal.search-taken-requires
search-taken-requires t c =
    let turn = c.loop-tree.invariant in (
      omega (arith, c.decreases, rows_fall _ _ _ _ _ c.fitting-us.ensures turn.part turn.size (in_use t (goal.at.search-taken-requires t c).After-pivot-at)),
      tt,
    )

pub returns-then-is_some : goal.returns-then-is_some
returns-then-is_some t c = λ tables node.
    let turn = c.loop-tree.invariant in
    let sized : length (numbers_of c.args.self.criteria.kinds) ≡ 4 = simp length-map (omega arith) in
    let row = chosen_row t (goal.at.returns-then-is_some t c).After-pivot-at in
    let known = c.pivot-at.type_inv in
    let first = first_node _ _ _ _ _ _ _ _ _ sized c.fitting-us.ensures turn tables node in
    let given = turn_given _ _ _ _ _ _ _ _ _ sized c.fitting-us.ensures turn tables node c.labels_of-labels.ensures c.missing-need.ensures in
    let judges = c.in-Open.ensures.says _ given in
    tells_first _ _ _ _ _ _ _ _ _ sized c.fitting-us.ensures turn tables node (found_of c.search-taken.result)
    (step_found _ _ _ _ _ _ _ _ _ _ _ turn tables first c.in-Open.choice c.in-Open.next judges _ row (omega (arith, known)) _ c.extended.ensures
    c.search-taken.result (sym c.is_some.ensures ∙ c.if-is_some.true)
    (c.search-taken.ensures tables
    (step_node _ _ _ _ _ _ _ _ _ _ _ turn tables first c.in-Open.choice c.in-Open.next judges _ row (omega (arith, known)) _ c.extended.ensures)))

pub loop-tree-smaller : goal.loop-tree-smaller
loop-tree-smaller t c = on_fewer _ _ c.loop-tree.invariant.size (in_use t (goal.at.loop-tree-smaller t c).After-pivot-at)

pub loop-tree-preserved : goal.loop-tree-preserved
loop-tree-preserved t c =
    let turn = c.loop-tree.invariant in
    let missed = c.missing-need.ensures in
    let a = c.args in
    let row = chosen_row t (goal.at.loop-tree-preserved t c).After-pivot-at in
    let known = c.pivot-at.type_inv in
    turn_next _ _ _ _ _ _ _ _ _ _ _ turn _ (omega (arith, known)) (λ tables node.
    let given = given_of _ _ _ _ (numbers_of a.self.criteria.kinds) a.self.criteria.costs.now a.self.criteria.leads.now _ _ tables _ _ _ (node_part turn.part node) c.labels_of-labels.ensures missed in
    let judges = c.in-Open.ensures.says _ given in
    step_none _ _ _ _ _ _ _ _ _ _ _ turn tables node c.in-Open.choice c.in-Open.next judges _ row (omega (arith, known)) _ c.extended.ensures
    c.search-taken.result (sym c.is_some.ensures ∙ c.if-is_some.false)
    (c.search-taken.ensures tables
    (step_node _ _ _ _ _ _ _ _ _ _ _ turn tables node c.in-Open.choice c.in-Open.next judges _ row (omega (arith, known)) _ c.extended.ensures)))

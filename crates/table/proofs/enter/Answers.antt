-- Check by check; then the vector is met, the tables are full, or the rows that it dominates are closed up and it is inserted.
use mathlib.Core.Path.{◌∙◌, ◌≡◌, sym}
use mathlib.Core.Bool.{false}
use native.Mathlib.Omega.{arith}
use lib.ListN.{length}
use Rattle.pages.specs.Pages.{capacity}
use Rattle.compare.specs.Compare.{met_in}
use Rattle.table.specs.Parts.{place_in}
use Rattle.table.proofs.Closing.{Bounds}
use Rattle.table.proofs.Entering.{Fit, enter_full, enter_met, enter_rows, row_fits, unfit_count, unfit_path, unfit_vector}
use Rattle.table.proofs.enter.Goals as goal
use Rattle.table.proofs.enter.Goals.{After-place_of-place, After-min-room, Else-meets, Else-room-count, Else-room-kept}

-- the code's room is the capacity of both tables
room_is : (c : After-min-room)
    → let a = c.args in
    c.min-room.result ≡ capacity (length a.vector.now) (length a.path.now) a.costs.now a.witnesses.now
unfolding capacity
room_is c = c.min-room.ensures

fit : (c : Else-room-count)
    → (let a = c.args in
    c.min-room.result ≡ capacity (length a.vector.now) (length a.path.now) a.costs.now a.witnesses.now)
    → let a = c.args in
    Fit a.costs.now a.witnesses.now a.count a.vector.now a.path.now
fit c room_is' = record { some_costs = c.if-k-eq0.false; some_rows = c.if-w-eq0.false; enough = rw room_is' at c.if-room-count.false }

unmet : (c : Else-meets) → let a = c.args in met_in a.costs.now a.count a.vector.now ≡ false
unmet c = sym c.meets.ensures ∙ c.if-meets.false

-- there is room: the new row lies within both tables, and its place not behind it
fits : (c : Else-room-kept)
    → (let a = c.args in
    Fit a.costs.now a.witnesses.now a.count a.vector.now a.path.now)
    → (let a = c.args in
    c.min-room.result ≡ capacity (length a.vector.now) (length a.path.now) a.costs.now a.witnesses.now)
    → let a = c.args in
    let n = c.close_up-kept.result in
    let r = c.close_up-kept.new in
    Bounds (length a.vector.now) (length a.path.now) n (place_in r.costs n a.vector.now) (length r.costs) (length r.witnesses)
fits c fit' room_is' =
    row_fits fit' c.close_up-kept.ensures (rw room_is' at c.if-room-kept.false)

spaces : (c : After-place_of-place)
    → (let a = c.args in
    let n = c.close_up-kept.result in
    let r = c.close_up-kept.new in
    Bounds (length a.vector.now) (length a.path.now) n (place_in r.costs n a.vector.now) (length r.costs) (length r.witnesses))
    → let a = c.args in
    let r = c.close_up-kept.new in
    Bounds (length a.vector.now) (length a.path.now) c.close_up-kept.result c.place_of-place.result (length r.costs) (length r.witnesses)
spaces c fits' = rw c.place_of-place.ensures fits'

pub returns-then-k-eq0 : goal.returns-then-k-eq0
returns-then-k-eq0 c = unfit_vector _ _ _ _ _ c.if-k-eq0.true

pub returns-then-w-eq0 : goal.returns-then-w-eq0
returns-then-w-eq0 c = unfit_path _ _ _ _ _ c.if-k-eq0.false c.if-w-eq0.true

pub returns-then-room-count : goal.returns-then-room-count
returns-then-room-count c = unfit_count _ _ _ _ _ c.if-k-eq0.false c.if-w-eq0.false (rw (room_is (goal.at.returns-then-room-count c).After-min-room) at c.if-room-count.true)

pub returns-then-meets : goal.returns-then-meets
returns-then-meets c =
    let at = goal.at.returns-then-meets c in
    let room = room_is at.After-min-room in
    let fit' = fit at.Else-room-count room in
    enter_met fit' (sym c.meets.ensures ∙ c.if-meets.true)

pub returns-then-room-kept : goal.returns-then-room-kept
returns-then-room-kept c =
    let at = goal.at.returns-then-room-kept c in
    let room = room_is at.After-min-room in
    let fit' = fit at.Else-room-count room in
    enter_full fit' c.close_up-kept.ensures (unmet at.Else-meets) (rw room at c.if-room-kept.true)

pub overflow_mul-place : goal.overflow_mul-place
overflow_mul-place c =
    let at = goal.at.overflow_mul-place c in
    let room = room_is at.After-min-room in
    let fit' = fit at.Else-room-count room in
    omega (arith, spaces at.After-place_of-place (fits at.Else-room-kept fit' room))

pub overflow_mul-place-2 : goal.overflow_mul-place-2
overflow_mul-place-2 c =
    let at = goal.at.overflow_mul-place-2 c in
    let room = room_is at.After-min-room in
    let fit' = fit at.Else-room-count room in
    omega (arith, spaces at.After-place_of-place (fits at.Else-room-kept fit' room))

pub returns : goal.returns
returns c =
    let at = goal.at.returns c in
    let room = room_is at.After-min-room in
    let fit' = fit at.Else-room-count room in
    let placed = c.place_of-place.ensures in
    rw (c.insert.ensures, c.insert-2.ensures, placed)
    (enter_rows fit' c.close_up-kept.ensures (unmet at.Else-meets) (rw room at c.if-room-kept.false))

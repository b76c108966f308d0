-- `walked::front`: Front's checks, and the passes over the chart that they made.
use mathlib.Core.Path.{subst}
use mathlib.Core.List.{List}
use Prim.Native.Nat.{ℕ}
use Rattle.std.proofs.Common.{rules}
use Rattle.chart.specs.Chart.{width_in}
use Rattle.listed.proofs.Answers.{Listing}
use Rattle.network_file.specs.File.{Sizes, sizes_of}
use Rattle.fronted.specs.Filled.{Holding, Lent}
use Rattle.fronted.specs.declared.Room.{Room}
use Rattle.fronted.proofs.Calls.{front_filled, front_refused}
use Rattle.walked.specs.Passes.{Laid}
use Rattle.walked.proofs.front.Goals as goal

-- the sizes are the file's
laid : {f costs witnesses : List ℕ} {room : Room} → Lent f costs witnesses room
    → Laid f room.chart.words × Holding room.capacity (sizes_of f).k (width_in room.chart.words) costs witnesses
laid {f} {costs} {witnesses} {room} lent =
    let sizes = lent.listing.lists.sizes in (
      subst (λ (s : Sizes). Listing f s room.chart.words) sizes lent.listing,
      subst (λ (s : Sizes). Holding room.capacity s.k (width_in room.chart.words) costs witnesses) sizes lent.holding,
    )

pub passes-requires : goal.passes-requires
passes-requires c = laid c.in_ok-room.ensures

pub returns-in_err-room : goal.returns-in_err-room
returns-in_err-room c =
    let refused = front_refused _ _ _ _ c.in_err-room.ensures in
    search (rules, refused)

pub returns : goal.returns
returns c = front_filled _ _ _ c.in_ok-room.ensures c.passes.ensures

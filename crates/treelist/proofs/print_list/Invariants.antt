-- The page keeps its length, and `total` counts the trees up to the start of the next call (`Run`). The measure is the trees behind it.
use Rattle.std.proofs.Common.{◌≡◌, ◌≤◌, length, take}
use Rattle.pages.specs.Pages.{rest_after}
use Rattle.operations.specs.Operations.{layouts_in}
use Rattle.treelist.proofs.Run.{Run}
use Rattle.treelist.proofs.print_list.Given as goal

abbrev pub invariant-loop-page : goal.invariant-loop-page
invariant-loop-page l =
    record { few : l.len ≤ 31; long : length l.start ≡ 31; kept : length l.page ≡ length l.initial.page; run : Run l.file (take l.len l.start) l.total }

abbrev pub decreases-loop-page : goal.decreases-loop-page
decreases-loop-page l = length (rest_after (layouts_in l.file) (take l.len l.start))

-- What each case of the code's answer stands for.
use Rattle.table.specs.Enter.{Entering, entered, full, met, unfit}
use Rattle.table.specs.declared.Entered.{Entered}
use Rattle.table.specs.declared.Entered.TheVariants as answer

abbrev pub entering_of : Entered → Entering
entering_of answer.Unfit = unfit
entering_of answer.Met = met
entering_of answer.Full = full
entering_of (answer.Rows count) = entered count
